use Rattle.std.proofs.Common.{◌≡◌, ◌++◌, map, drop}
use Rattle.std.specs.Arc.{arc_value}
use Rattle.compaction.specs.Plans.{on_levels}
use Rattle.compaction.proofs.leveled.tables_on_levels.Given as goal

abbrev pub invariant-loop-level : goal.invariant-loop-level
invariant-loop-level l = l.tables.items ++ on_levels l.level (map arc_value (drop l.level l.levels)) ≡ on_levels 0 (map arc_value l.levels)
