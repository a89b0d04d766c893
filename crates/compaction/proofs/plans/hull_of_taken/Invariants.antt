use Rattle.std.proofs.Common.{◌≡◌, take}
use Rattle.std.specs.Prelude.{filter}
use Rattle.compaction.specs.Plans.{hull_if_any, is_taken, ranges_of}
use Rattle.compaction.proofs.plans.hull_of_taken.Given as goal

abbrev pub invariant-loop-t : goal.invariant-loop-t
invariant-loop-t l = l.hull ≡ hull_if_any (ranges_of (filter (is_taken l.level l.first) (take l.t-index l.tables)))
