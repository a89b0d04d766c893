use Rattle.std.proofs.Common.{◌≡◌, length, get_or, sym, ap, ◌∙◌}
use Rattle.ts_key.specs.Lists.{onward}
use Rattle.std.proofs.Math.Seq.{map-set_same}
use Rattle.merge_cursor.proofs.Steps.{on_merge, on_all, on_passed}
use Rattle.merge_cursor.proofs.children.step_on.Goals as goal

pub returns-clause-merge : goal.returns-clause-merge
returns-clause-merge g c =
    let items = g.C.Placed.items in
    let place = g.C.Placed.place in
    let old = c.index-children-low.result in
    let at_old : old ≡ get_or c.args.children.now c.args.low old = c.index-children-low.is in
    on_merge items place g.C.Placed.ordered c.args.children.now c.args.low old c.next.new.self c.requires.merge c.requires.started c.requires.inside at_old
    (c.next.ensures.same ∙ ap items (sym at_old)) (c.next.ensures.place ∙ ap (λ y. onward (length (items y)) (place y)) (sym at_old))
    c.lowest.result c.lowest.ensures

pub returns-clause-same : goal.returns-clause-same
returns-clause-same g c =
    let items = g.C.Placed.items in
    let place = g.C.Placed.place in
    let old = c.index-children-low.result in
    let at_old : old ≡ get_or c.args.children.now c.args.low old = c.index-children-low.is in
    on_all items place g.C.Placed.ordered c.args.children.now c.args.low old c.next.new.self c.requires.merge c.requires.started c.requires.inside at_old
    (c.next.ensures.same ∙ ap items (sym at_old)) (c.next.ensures.place ∙ ap (λ y. onward (length (items y)) (place y)) (sym at_old))

pub returns-clause-passed : goal.returns-clause-passed
returns-clause-passed g c =
    let items = g.C.Placed.items in
    let place = g.C.Placed.place in
    let old = c.index-children-low.result in
    let at_old : old ≡ get_or c.args.children.now c.args.low old = c.index-children-low.is in
    on_passed items place g.C.Placed.ordered c.args.children.now c.args.low old c.next.new.self c.requires.merge c.requires.started c.requires.inside at_old
    (c.next.ensures.same ∙ ap items (sym at_old)) (c.next.ensures.place ∙ ap (λ y. onward (length (items y)) (place y)) (sym at_old))

pub returns-clause-over : goal.returns-clause-over
returns-clause-over g c = map-set_same g.C.Placed.over c.args.children.now c.args.low c.next.new.self c.index-children-low.result c.next.ensures.over
