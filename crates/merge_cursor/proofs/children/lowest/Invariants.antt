use Rattle.std.proofs.Common.{◌≡◌, ◌≤◌, length, None}
use Rattle.std.specs.Prelude.{slice_get}
use Rattle.merge_cursor.specs.Sides.{sides, front_of, key_lent}
use Rattle.merge_cursor.proofs.Loops.{LowFrom}
use Rattle.merge_cursor.proofs.children.lowest.Given as goal

abbrev pub invariant-loop-i : goal.invariant-loop-i
invariant-loop-i g l = record {
  inside : l.i ≤ length l.children;
  from : LowFrom (sides g.C.Placed.items g.C.Placed.place l.children) l.i l.low (key_lent l.best);
  low : front_of (slice_get (sides g.C.Placed.items g.C.Placed.place l.children) l.low) ≡ key_lent l.best;
  none : key_lent l.best ≡ None → length l.children ≤ l.low;
}

abbrev pub decreases-loop-i : goal.decreases-loop-i
decreases-loop-i g l = l.i
