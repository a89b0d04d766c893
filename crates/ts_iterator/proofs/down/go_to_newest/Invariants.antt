use Rattle.std.proofs.Common.{◌≡◌, ◌+◌, ◌-◌, ◌≤◌, length}
use Rattle.ts_iterator.specs.Walks.{IsUptoSeen}
use Rattle.ts_iterator.proofs.down.go_to_newest.Given as goal

abbrev pub invariant-loop-found : goal.invariant-loop-found
invariant-loop-found g l = record {
  same : g.C.Placed.items l.cursor ≡ g.C.Placed.items l.initial.cursor;
  inside : 1 ≤ g.C.Placed.place l.cursor;
  upto : IsUptoSeen l.key l.t.0 l.s.0 (g.C.Placed.items l.cursor) (g.C.Placed.place l.cursor);
}

abbrev pub decreases-loop-found : goal.decreases-loop-found
decreases-loop-found g l = length (g.C.Placed.items l.cursor) + 1 - g.C.Placed.place l.cursor
