use Rattle.std.proofs.Common.{◌≡◌, ◌+◌, ◌-◌, ◌≤◌, suc, length, take}
use Rattle.data_block.specs.Cursors.{cursor_items, place_of}
use Rattle.block_table.specs.Tallies.{tally_of}
use Rattle.block_table.proofs.table.tally_in.Given as goal

abbrev pub invariant-loop-key : goal.invariant-loop-key
invariant-loop-key l = record {
  versions : cursor_items l.c ≡ l.versions;
  first : 1 ≤ place_of l.c;
  within : place_of l.c ≤ length l.versions + 1;
  tally : l.tally ≡ tally_of (take (place_of l.c - 1) l.versions);
}

abbrev pub decreases-loop-key : goal.decreases-loop-key
decreases-loop-key l = suc (length l.versions) - place_of l.c
