use Rattle.std.proofs.Common.{◌≡◌, ◌<◌, length}
use Rattle.std.specs.Prelude.{All}
use Rattle.merge_cursor.specs.Sides.{sides}
use Rattle.merge_tree.specs.Games.{AreWonBut}
use Rattle.merge_tree.proofs.games.replay.Given as goal

abbrev pub invariant-loop-place : goal.invariant-loop-place
invariant-loop-place g l = record {
  count : length l.winners ≡ length l.cursors;
  inside : l.place < length l.winners;
  within : All (λ w. w < length l.cursors) l.winners;
  won : AreWonBut (sides g.C.Placed.items g.C.Placed.place l.cursors) l.winners l.place;
}

abbrev pub decreases-loop-place : goal.decreases-loop-place
decreases-loop-place g l = l.place
