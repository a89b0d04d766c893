use Rattle.std.proofs.Common.{◌-◌, length}
use Rattle.data_block.specs.Regions.{HasRead}
use Rattle.data_block.proofs.region.read_region.Given as goal

abbrev pub invariant-loop-at : goal.invariant-loop-at
invariant-loop-at l = HasRead l.form l.region l.at l.x l.last.items

abbrev pub decreases-loop-at : goal.decreases-loop-at
decreases-loop-at l = length l.region - l.at
