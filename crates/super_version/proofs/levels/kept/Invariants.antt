use Rattle.std.proofs.Common.{◌≡◌, map, take}
use Rattle.std.specs.Prelude.{filter}
use Rattle.std.specs.Arc.{arc_value}
use Rattle.super_version.specs.Levels.{is_table_kept}
use Rattle.super_version.proofs.levels.kept.Given as goal

abbrev pub invariant-loop-table : goal.invariant-loop-table
invariant-loop-table l = map arc_value l.left.items ≡ filter (is_table_kept l.gone) (map arc_value (take l.table-index l.table-items))
