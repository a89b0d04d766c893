use Rattle.std.proofs.Common.{◌≡◌, ◌*◌, ◌-◌, ◌^◌, ◌≤◌}
use Rattle.compaction.specs.declared.sizes.TheConstants.{LEVEL1_BYTES}
use Rattle.compaction.proofs.due.bytes_limit.Given as goal

abbrev pub invariant-loop-below : goal.invariant-loop-below
invariant-loop-below l = record {
  from : 1 ≤ l.below;
  to : l.below ≤ l.level;
  limit : l.limit ≡ LEVEL1_BYTES * 10 ^ (l.below - 1);
}
