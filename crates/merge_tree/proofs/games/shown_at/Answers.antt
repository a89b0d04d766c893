use Rattle.std.proofs.Common.{◌<◌, length, ◌∙◌, arith, rules}
use Rattle.merge_tree.proofs.Walks.{top_shown}
use Rattle.merge_tree.proofs.Wins.{winner_within}
use Rattle.merge_tree.proofs.games.shown_at.Goals as goal

pub returns : goal.returns
returns g c =
    let cs = c.args.cursors.now in
    let ws = c.args.winners.now in
    let w = c.winner_at.ensures in
    let some : 0 < length cs = search rules in
    let l = winner_within ws 1 (length cs) c.requires.count c.requires.within (omega (arith, some)) in
    c.at.ensures ∙ top_shown g.C.Placed.items g.C.Placed.place g.C.Placed.ordered cs ws c.requires.cut c.requires.started c.requires.count c.requires.won c.winner_at.result w (omega (arith, w, l)) c.index-cursors-winner_at.result c.index-cursors-winner_at.is
