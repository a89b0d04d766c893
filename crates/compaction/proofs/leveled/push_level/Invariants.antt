use Rattle.std.proofs.Common.{◌≡◌, ◌++◌, map, take}
use Rattle.std.specs.Arc.{arc_value}
use Rattle.compaction.specs.Plans.{on_level}
use Rattle.compaction.proofs.leveled.push_level.Given as goal

abbrev pub invariant-loop-table : goal.invariant-loop-table
invariant-loop-table l = l.out.items ≡ l.initial.out.items ++ on_level l.level (map arc_value (take l.table-index l.tables))
