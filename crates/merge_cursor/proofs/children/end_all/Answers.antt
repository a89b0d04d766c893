use Rattle.std.proofs.Common.{◌≡◌, ◌+◌, length, get_or, sym, ap, ◌∙◌, arith}
use Rattle.std.proofs.Math.ListN.{length-set}
use Rattle.std.proofs.Math.Seq.{map-set_same}
use Rattle.merge_cursor.proofs.Steps.{end_merge, end_passed, lists_kept, each_more}
use Rattle.merge_cursor.proofs.children.end_all.Goals as goal

pub loop-i-preserved : goal.loop-i-preserved
loop-i-preserved g c =
    let items = g.C.Placed.items in
    let place = g.C.Placed.place in
    let now = c.loop-i.children in
    let old = c.index-children-i.result in
    let new = c.seek_end.new.self in
    let at_old : old ≡ get_or now c.loop-i.i old = c.index-children-i.is in
    let same : items new ≡ items old = c.seek_end.ensures.same ∙ ap items (sym at_old) in
    let at : place new ≡ length (items old) + 1 = c.seek_end.ensures.place ∙ ap (λ y. length (items y) + 1) (sym at_old) in
    record {
      inside = let e = length-set now c.loop-i.i new in omega arith;
      over = map-set_same g.C.Placed.over now c.loop-i.i new old (c.seek_end.ensures.over) ∙ c.loop-i.invariant.over;
      same = lists_kept items place now c.loop-i.i old new at_old same ∙ c.loop-i.invariant.same;
      at = each_more items place length now c.loop-i.i new (omega arith) c.loop-i.invariant.at (at ∙ ap (λ vs. length vs + 1) (sym same));
    }

pub returns-clause-merge : goal.returns-clause-merge
returns-clause-merge g c =
    let items = g.C.Placed.items in
    let place = g.C.Placed.place in
    end_merge items place g.C.Placed.ordered c.args.children.now c.loop-i.children c.loop-i.invariant.same
    (λ k d l. c.loop-i.invariant.at k d (omega arith)) c.lowest.result c.lowest.ensures

pub returns-clause-passed : goal.returns-clause-passed
returns-clause-passed g c =
    let items = g.C.Placed.items in
    let place = g.C.Placed.place in
    end_passed items place g.C.Placed.ordered c.args.children.now c.loop-i.children c.loop-i.invariant.same
    (λ k d l. c.loop-i.invariant.at k d (omega arith))
