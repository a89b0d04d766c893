use Rattle.std.proofs.Common.{◌≡◌, map, take}
use Rattle.std.specs.Arc.{arc_value}
use Rattle.super_version.specs.Levels.{placed_all}
use Rattle.super_version.proofs.levels.place_all.Given as goal

abbrev pub invariant-loop-table : goal.invariant-loop-table
invariant-loop-table l = map arc_value l.all.items ≡ placed_all l.level (take l.table-index l.added) l.fn.tables
