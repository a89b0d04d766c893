use Rattle.floor_core.proofs.Admitting.{Admitting}
use Rattle.floor_core.proofs.machine.Core.admit.Given as goal

abbrev pub invariant-loop-i : goal.invariant-loop-i
invariant-loop-i l = Admitting l.self.store l.last l.ops l.i l.grown.items
