use Rattle.std.proofs.Common.{◌≡◌, ◌-◌}
use Rattle.compaction.specs.Plans.{due_from}
use Rattle.compaction.specs.declared.sizes.TheConstants.{LOWEST_LEVEL}
use Rattle.compaction.proofs.due.due_level.Given as goal

abbrev pub invariant-loop-level : goal.invariant-loop-level
invariant-loop-level l = due_from (LOWEST_LEVEL - l.level) l.level l.tables ≡ due_from LOWEST_LEVEL 0 l.tables
