use Rattle.std.proofs.Common.{◌+◌, ◌-◌, ◌*◌, ◌<◌, length, subst, arith}
use Rattle.std.proofs.Math.ListN.{length-set}
use Rattle.std.proofs.lemmas.List.Elements.{All-set}
use Rattle.merge_cursor.specs.Sides.{sides}
use Rattle.merge_tree.specs.Games.{IsBetter, winner_at}
use Rattle.merge_tree.proofs.Wins.{won_from}
use Rattle.merge_tree.proofs.games.play_all.Goals as goal

pub loop-place-preserved : goal.loop-place-preserved
loop-place-preserved g c =
    let ws = c.loop-place.winners.items in
    let n = c.loop-place.place - 1 in
    let v = c.loop-place.invariant in
    let q = length-set ws n c.game.result in
    let ss = sides g.C.Placed.items g.C.Placed.place c.args.cursors.now in
    let better = subst (λ v. IsBetter ss (winner_at v (2 * n)) (winner_at v (2 * n + 1)) c.game.result) c.deref.ensures.value c.game.ensures.better in
    record {
      count = omega (arith, q, v.count);
      inside = omega (arith, q, v.inside);
      within = All-set (λ w. w < length c.args.cursors.now) ws n c.game.result c.game.ensures.inside v.within;
      won = λ p l m o. won_from ss ws n c.game.result (omega arith) (omega arith) better (λ p' m' o'. v.won p' (omega arith) (omega arith) o') p m o;
    }
