use Rattle.std.proofs.Common.{◌≡◌, ◌≤◌, length, None}
use Rattle.std.specs.Prelude.{slice_get, All, map}
use Rattle.merge_cursor.specs.Sides.{sides, back_of, key_lent}
use Rattle.merge_cursor.proofs.Loops.{TopFrom}
use Rattle.merge_cursor.proofs.children.highest.Given as goal

abbrev pub invariant-loop-i : goal.invariant-loop-i
invariant-loop-i g l = record {
  inside : l.i ≤ length l.children;
  over : map g.C.Placed.over l.children ≡ map g.C.Placed.over l.initial.children;
  same : sides g.C.Placed.items g.C.Placed.place l.children ≡ sides g.C.Placed.items g.C.Placed.place l.initial.children;
  started : All (λ c. 1 ≤ g.C.Placed.place c) l.children;
  from : TopFrom (sides g.C.Placed.items g.C.Placed.place l.initial.children) l.i l.top (key_lent l.best);
  top : back_of (slice_get (sides g.C.Placed.items g.C.Placed.place l.initial.children) l.top) ≡ key_lent l.best;
  none : key_lent l.best ≡ None → length l.children ≤ l.top;
}

abbrev pub decreases-loop-i : goal.decreases-loop-i
decreases-loop-i g l = l.i
