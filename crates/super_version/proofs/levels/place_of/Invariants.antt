use Rattle.std.proofs.Common.{◌≡◌, ◌+◌, map, drop}
use Rattle.std.specs.Arc.{arc_value}
use Rattle.super_version.specs.Levels.{count_before}
use Rattle.super_version.proofs.levels.place_of.Given as goal

abbrev pub invariant-loop-place : goal.invariant-loop-place
invariant-loop-place l = count_before l.level l.table (map arc_value l.tables) ≡ l.place + count_before l.level l.table (map arc_value (drop l.place l.tables))
