use Rattle.std.proofs.Common.{◌≡◌, length, take, drop, ◌++◌, ap, ◌∙◌, arith}
use Rattle.std.proofs.lemmas.List.{take_at}
use Rattle.ts_key.specs.Order.{sort_key_of}
use Rattle.ts_key.specs.Lists.{merged, below}
use Rattle.merge_cursor.specs.Sides.{sides, all}
use Rattle.merge_cursor.specs.Shows.{lists_are}
use Rattle.merge_cursor.proofs.merge.Merge.seeking.Goals as goal

pub returns-clause-items : goal.returns-clause-items
returns-clause-items g c =
    let items = g.C.Placed.items in
    let place = g.C.Placed.place in
    let new = c.seek_all-lowest.new.children in
    let back : take c.args.children.len (new ++ drop (length new) c.args.children.items) ≡ new = take_at new (drop (length new) c.args.children.items) c.args.children.len (omega arith) in
    let same = c.seek_all-lowest.ensures.same ∙ ap (λ cs. all (sides items place cs)) c.deref_mut.ensures.value ∙ ap merged (lists_are items place c.args.children.items) in
    rw back same

pub returns-clause-place : goal.returns-clause-place
returns-clause-place g c =
    let items = g.C.Placed.items in
    let place = g.C.Placed.place in
    let new = c.seek_all-lowest.new.children in
    let back : take c.args.children.len (new ++ drop (length new) c.args.children.items) ≡ new = take_at new (drop (length new) c.args.children.items) c.args.children.len (omega arith) in
    let same = ap (λ cs. all (sides items place cs)) c.deref_mut.ensures.value ∙ ap merged (lists_are items place c.args.children.items) in
    rw back (c.seek_all-lowest.ensures.passed ∙ ap (below (sort_key_of c.args.to.now)) same)
