use Rattle.std.proofs.Common.{ap, subst}
use Rattle.ts_key.specs.Lists.{merged}
use Rattle.merge_cursor.specs.Shows.{lists_are}
use Rattle.merge_cursor.proofs.Steps.{new_passed}
use Rattle.merge_cursor.specs.Sides.{sides}
use Rattle.merge_tree.specs.Games.{AreWon}
use Rattle.merge_tree.proofs.Walks.{first_is_cut}
use Rattle.merge_tree.proofs.tree.MergeTree.new.Goals as goal

pub invariant_of-result-clause-cut : goal.invariant_of-result-clause-cut
invariant_of-result-clause-cut g c = first_is_cut g.C.Placed.items g.C.Placed.place c.args.cursors.items c.requires

pub invariant_of-result-clause-won : goal.invariant_of-result-clause-won
invariant_of-result-clause-won g c =
    let items = g.C.Placed.items in
    let place = g.C.Placed.place in
    subst (λ cs. AreWon (sides items place cs) c.in_ok-winners.winners.items) c.deref.ensures.value c.in_ok-winners.ensures.won

pub returns-clause-items : goal.returns-clause-items
returns-clause-items g c = ap merged (lists_are g.C.Placed.items g.C.Placed.place c.args.cursors.items)

pub returns-clause-none : goal.returns-clause-none
returns-clause-none g c = new_passed g.C.Placed.items g.C.Placed.place c.args.cursors.items c.requires
