use Rattle.std.proofs.Common.{◌≡◌, map, take}
use Rattle.std.specs.Arc.{arc_value}
use Rattle.recovery.specs.Versions.{level_tables}
use Rattle.recovery.proofs.version.tables_on.Given as goal

abbrev pub invariant-loop-table : goal.invariant-loop-table
invariant-loop-table l = map arc_value l.tables.items ≡ level_tables l.family l.level (take l.table-index l.opened)
