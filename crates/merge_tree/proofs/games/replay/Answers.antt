use Rattle.std.proofs.Common.{◌≡◌, ◌<◌, length, subst, arith}
use Rattle.std.proofs.Math.ListN.{length-set}
use Rattle.std.proofs.lemmas.List.Elements.{All-set}
use Rattle.merge_cursor.specs.Sides.{sides}
use Rattle.merge_tree.specs.Games.{AreWonBut}
use Rattle.merge_tree.proofs.Wins.{won_all, won_but}
use Rattle.merge_tree.proofs.games.replay.Goals as goal

pub loop-place-preserved : goal.loop-place-preserved
loop-place-preserved g c =
    let ws = c.loop-place.winners in
    let n = c.loop-place.place in
    let v = c.loop-place.invariant in
    let q = length-set ws n c.game.result in
    record {
      count = omega (arith, q, v.count);
      inside = omega (arith, q, v.inside);
      within = All-set (λ w. w < length c.args.cursors.now) ws n c.game.result c.game.ensures.inside v.within;
      won = won_but (sides g.C.Placed.items g.C.Placed.place c.args.cursors.now) ws n c.game.result (omega arith) v.inside c.game.ensures.better v.won;
    }

pub returns-clause-won : goal.returns-clause-won
returns-clause-won g c =
    let ss = sides g.C.Placed.items g.C.Placed.place c.args.cursors.now in
    let ws = c.loop-place.winners in
    let z : c.loop-place.place ≡ 0 = omega arith in
    won_all ss ws (subst (λ n. AreWonBut ss ws n) z c.loop-place.invariant.won)
