use Rattle.std.proofs.Common.{◌≡◌, ◌+◌, ◌≤◌, min, drop}
use Rattle.memtable.specs.Memtables.{weight_of, capped_weight}
use Rattle.memtable.specs.declared.limits.TheConstants.{BYTES_LIMIT}
use Rattle.memtable.proofs.runs.bytes_in.Given as goal

abbrev pub invariant-loop-v : goal.invariant-loop-v
invariant-loop-v l = record {
  so_far : min (l.bytes + weight_of (drop l.v-index l.versions)) BYTES_LIMIT ≡ capped_weight l.versions;
  within : l.bytes ≤ BYTES_LIMIT;
}
