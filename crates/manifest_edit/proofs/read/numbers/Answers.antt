use Rattle.ts_key.specs.Numbers.{number_bytes}
use Rattle.manifest_edit.specs.Edits.{IsWord}
use Rattle.manifest_edit.proofs.Fronts.{counted_on}
use Rattle.manifest_edit.proofs.read.numbers.Goals as goal

pub returns : goal.returns
returns c =
    counted_on (number_bytes 8) IsWord _ c.args.reader.now.left.now c.take_u32.new.self.left.now c.take_numbers.new.reader.left.now c.in_ok-count.count c.take_numbers.result c.in_ok-count.ensures.read.0 c.in_ok-count.ensures.read.1 c.take_numbers.ensures
