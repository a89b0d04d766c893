use Rattle.std.proofs.Common.{length}
use Rattle.manifest_edit.proofs.Parts.{edit_over, some_left}
use Rattle.manifest_edit.proofs.read.read_edit.Goals as goal

pub returns-in-Ok-2 : goal.returns-in-Ok-2
returns-in-Ok-2 c =
    edit_over c.args.body.now c.edit.new.reader.left.now c.in-Ok-2.field-0 c.in-Ok-2.ensures.0 c.in-Ok-2.ensures.1 (some_left (length c.edit.new.reader.left.now) c.if-is_empty.ensures)
