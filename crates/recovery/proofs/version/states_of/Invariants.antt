use Rattle.std.proofs.Common.{map}
use Rattle.std.specs.Arc.{arc_value}
use Rattle.recovery.specs.Versions.{AreStates}
use Rattle.recovery.proofs.version.states_of.Given as goal

abbrev pub invariant-loop-index : goal.invariant-loop-index
invariant-loop-index l = AreStates l.opened l.versions l.families l.index (map arc_value l.states.items)
