use Rattle.std.proofs.Common.{map}
use Rattle.std.specs.Arc.{arc_value}
use Rattle.recovery.specs.Versions.{AreLevels}
use Rattle.recovery.proofs.version.levels_of.Given as goal

abbrev pub invariant-loop-level : goal.invariant-loop-level
invariant-loop-level l = AreLevels l.family l.opened l.level (map arc_value l.levels.items)
