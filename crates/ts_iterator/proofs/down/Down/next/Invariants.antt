use Rattle.std.proofs.Common.{◌≡◌}
use Rattle.ts_iterator.specs.Rests.{rest_down}
use Rattle.ts_iterator.proofs.down.Down.next.Given as goal

abbrev pub invariant-loop-held : goal.invariant-loop-held
invariant-loop-held g l = rest_down g.C.Placed.items g.C.Placed.place l.self ≡ rest_down g.C.Placed.items g.C.Placed.place l.initial.self

abbrev pub decreases-loop-held : goal.decreases-loop-held
decreases-loop-held g l = g.C.Placed.place l.self.cursor
