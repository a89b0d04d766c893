use Rattle.std.proofs.Common.{◌≡◌, drop}
use Rattle.compaction.specs.Plans.{first_number, of_level}
use Rattle.compaction.proofs.plans.first_on.Given as goal

abbrev pub invariant-loop-t : goal.invariant-loop-t
invariant-loop-t l = first_number (of_level l.level (drop l.t-index l.tables)) ≡ first_number (of_level l.level l.tables)
