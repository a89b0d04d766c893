use Rattle.std.proofs.Common.{◌≡◌, ◌+◌, ◌-◌, length}
use Rattle.ts_iterator.specs.Rests.{rest_up}
use Rattle.ts_iterator.proofs.up.Up.next.Given as goal

abbrev pub invariant-loop-held : goal.invariant-loop-held
invariant-loop-held g l = rest_up g.C.Placed.items g.C.Placed.place l.self ≡ rest_up g.C.Placed.items g.C.Placed.place l.initial.self

abbrev pub decreases-loop-held : goal.decreases-loop-held
decreases-loop-held g l = length (g.C.Placed.items l.self.cursor) + 1 - g.C.Placed.place l.self.cursor
