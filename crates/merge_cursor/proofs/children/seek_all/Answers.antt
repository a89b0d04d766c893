use Rattle.std.proofs.Common.{◌≡◌, ◌+◌, get_or, sym, ap, ◌∙◌, arith}
use Rattle.std.proofs.Math.ListN.{length-set}
use Rattle.std.proofs.Math.Seq.{map-set_same}
use Rattle.ts_key.specs.Order.{sort_key_of}
use Rattle.ts_key.specs.Lists.{below}
use Rattle.merge_cursor.specs.Shows.{lists_are}
use Rattle.merge_cursor.proofs.Steps.{seek_merge, seek_passed, lists_kept, each_more}
use Rattle.merge_cursor.proofs.children.seek_all.Goals as goal

pub loop-i-preserved : goal.loop-i-preserved
loop-i-preserved g c =
    let items = g.C.Placed.items in
    let place = g.C.Placed.place in
    let now = c.loop-i.children in
    let old = c.index-children-i.result in
    let new = c.seek.new.self in
    let to = sort_key_of c.args.to.now in
    let at_old : old ≡ get_or now c.loop-i.i old = c.index-children-i.is in
    let same : items new ≡ items old = c.seek.ensures.same ∙ ap items (sym at_old) in
    let at : place new ≡ below to (items old) + 1 = c.seek.ensures.place ∙ ap (λ y. below to (items y) + 1) (sym at_old) in
    record {
      inside = let e = length-set now c.loop-i.i new in omega arith;
      over = map-set_same g.C.Placed.over now c.loop-i.i new old (c.seek.ensures.over) ∙ c.loop-i.invariant.over;
      same = lists_kept items place now c.loop-i.i old new at_old same ∙ c.loop-i.invariant.same;
      at = each_more items place (below to) now c.loop-i.i new (omega arith) c.loop-i.invariant.at (at ∙ ap (λ vs. below to vs + 1) (sym same));
    }

pub returns-clause-merge : goal.returns-clause-merge
returns-clause-merge g c =
    let items = g.C.Placed.items in
    let place = g.C.Placed.place in
    seek_merge items place g.C.Placed.ordered c.args.children.now c.loop-i.children (sort_key_of c.args.to.now) c.loop-i.invariant.same
    (λ k d l. c.loop-i.invariant.at k d (omega arith)) c.lowest.result c.lowest.ensures

pub returns-clause-passed : goal.returns-clause-passed
returns-clause-passed g c =
    let items = g.C.Placed.items in
    let place = g.C.Placed.place in
    seek_passed items place g.C.Placed.ordered c.args.children.now c.loop-i.children (sort_key_of c.args.to.now) c.loop-i.invariant.same
    (λ k d l. c.loop-i.invariant.at k d (omega arith))

pub returns-clause-items : goal.returns-clause-items
returns-clause-items g c =
    let items = g.C.Placed.items in
    let place = g.C.Placed.place in
    sym (lists_are items place c.loop-i.children) ∙ c.loop-i.invariant.same ∙ lists_are items place c.args.children.now
