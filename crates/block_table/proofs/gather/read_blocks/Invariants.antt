use Rattle.std.proofs.Common.{◌≡◌}
use Rattle.block_table.specs.Gathering.{HasReadBlocks}
use Rattle.block_table.proofs.gather.read_blocks.Given as goal

abbrev pub invariant-loop-i : goal.invariant-loop-i
invariant-loop-i l = record {
  image : l.g.image ≡ l.fn.image;
  read : HasReadBlocks l.form l.fn.image l.end l.handles l.i l.at l.g.items;
}
