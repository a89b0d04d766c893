use Rattle.std.proofs.Common.{◌≡◌, ◌+◌, ◌≤◌, drop, length}
use Rattle.compaction.specs.Plans.{of_level}
use Rattle.compaction.proofs.due.count_on.Given as goal

abbrev pub invariant-loop-t : goal.invariant-loop-t
invariant-loop-t l = record {
  within : l.count ≤ l.t-index;
  all : l.count + length (of_level l.level (drop l.t-index l.tables)) ≡ length (of_level l.level l.tables);
}
