use Rattle.std.proofs.Common.{◌≡◌, map, take}
use Rattle.std.specs.Prelude.{filter}
use Rattle.std.specs.Arc.{arc_value}
use Rattle.super_version.specs.Levels.{is_table_kept}
use Rattle.super_version.proofs.levels.without.Given as goal

abbrev pub invariant-loop-tables : goal.invariant-loop-tables
invariant-loop-tables l = map arc_value l.left.items ≡ map (filter (is_table_kept l.gone)) (map arc_value (take l.tables-index l.tables-items))
