use Rattle.std.proofs.Common.{◌≡◌, ◌-◌, ◌≤◌, length, map, take}
use Rattle.std.specs.Arc.{arc_value}
use Rattle.super_version.specs.Changes.{no_levels}
use Rattle.super_version.proofs.levels.empty.Given as goal

abbrev pub invariant-loop-alloc : goal.invariant-loop-alloc
invariant-loop-alloc l = record {
  few : length l.levels.items ≤ 7;
  none : map arc_value l.levels.items ≡ take (length l.levels.items) no_levels;
}

abbrev pub decreases-loop-alloc : goal.decreases-loop-alloc
decreases-loop-alloc l = 7 - length l.levels.items
