use Rattle.manifest_edit.specs.Edits.{table_text, IsTableWords}
use Rattle.manifest_edit.proofs.Fronts.{counted_on}
use Rattle.manifest_edit.proofs.read.tables.Goals as goal

pub returns : goal.returns
returns c =
    counted_on table_text IsTableWords _ c.args.reader.now.left.now c.take_u32.new.self.left.now c.take_tables.new.reader.left.now c.in_ok-count.count c.take_tables.result c.in_ok-count.ensures.read.0 c.in_ok-count.ensures.read.1 c.take_tables.ensures
