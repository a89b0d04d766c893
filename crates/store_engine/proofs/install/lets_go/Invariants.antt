use Rattle.std.proofs.Common.{◌≡◌, true, map, take}
use Rattle.std.specs.Arc.{arc_value}
use Rattle.store_engine.specs.Dropping.{lets_go}
use Rattle.store_engine.proofs.install.lets_go.Given as goal

abbrev pub invariant-loop-state : goal.invariant-loop-state
invariant-loop-state l = lets_go l.fn.last.0 (map arc_value (take l.state-index l.families)) ≡ true
