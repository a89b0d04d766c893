use Rattle.std.proofs.Common.{◌≡◌, ◌<◌, ◌≤◌, ℕ, length}
use Rattle.std.specs.Prelude.{All}
use Rattle.merge_cursor.specs.Sides.{sides}
use Rattle.merge_tree.specs.Games.{IsWon}
use Rattle.merge_tree.proofs.games.play_all.Given as goal

abbrev pub invariant-loop-place : goal.invariant-loop-place
invariant-loop-place g l = record {
  count : length l.winners.items ≡ length l.cursors;
  inside : l.place ≤ length l.winners.items;
  within : All (λ w. w < length l.cursors) l.winners.items;
  won : (p : ℕ) → 1 ≤ p → l.place ≤ p → p < length l.winners.items → IsWon (sides g.C.Placed.items g.C.Placed.place l.cursors) l.winners.items p;
}

abbrev pub decreases-loop-place : goal.decreases-loop-place
decreases-loop-place g l = l.place
