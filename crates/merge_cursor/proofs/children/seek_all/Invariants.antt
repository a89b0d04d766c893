use Rattle.std.proofs.Common.{◌≡◌, ℕ, ◌<◌, ◌≤◌, ◌+◌, ◌-◌, length, get_or}
use Rattle.ts_key.specs.Order.{sort_key_of}
use Rattle.ts_key.specs.Lists.{below}
use Rattle.std.specs.Prelude.{map}
use Rattle.merge_cursor.specs.Sides.{sides, lists}
use Rattle.merge_cursor.proofs.children.seek_all.Given as goal

abbrev pub invariant-loop-i : goal.invariant-loop-i
invariant-loop-i g l = record {
  inside : l.i ≤ length l.children;
  over : map g.C.Placed.over l.children ≡ map g.C.Placed.over l.initial.children;
  same : lists (sides g.C.Placed.items g.C.Placed.place l.children) ≡ lists (sides g.C.Placed.items g.C.Placed.place l.initial.children);
  at : (k : ℕ) (d : _) → k < l.i → g.C.Placed.place (get_or l.children k d) ≡ below (sort_key_of l.to) (g.C.Placed.items (get_or l.children k d)) + 1;
}

abbrev pub decreases-loop-i : goal.decreases-loop-i
decreases-loop-i g l = length l.initial.children - l.i
