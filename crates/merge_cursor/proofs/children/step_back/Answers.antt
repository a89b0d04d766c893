use Rattle.std.proofs.Common.{◌≡◌, ◌-◌, get_or, sym, ap, subst, ◌∙◌, arith}
use Rattle.std.proofs.Math.Seq.{map-set_same}
use Rattle.merge_cursor.specs.Sides.{passed, all, IsTop, IsMerge}
use Rattle.merge_cursor.proofs.Steps.{back_none, back_merge, back_all, back_passed, back_started, same_count}
use Rattle.merge_cursor.proofs.children.step_back.Goals as goal

pub returns-then-top-children-clause-passed : goal.returns-then-top-children-clause-passed
returns-then-top-children-clause-passed g c =
    let items = g.C.Placed.items in
    let place = g.C.Placed.place in
    let same = c.highest-top.ensures.same in
    let n = same_count items place c.highest-top.new.children c.args.children.now same in
    let z = back_none items place g.C.Placed.ordered c.args.children.now c.args.low c.highest-top.result c.requires.merge c.requires.started c.highest-top.ensures.top (omega arith) in
    (z, ap passed same ∙ z)

pub returns-clause-merge : goal.returns-clause-merge
returns-clause-merge g c =
    let items = g.C.Placed.items in
    let place = g.C.Placed.place in
    let same = c.highest-top.ensures.same in
    let now = c.highest-top.new.children in
    let old = c.index-children-top.result in
    let n = same_count items place now c.args.children.now same in
    let at_old : old ≡ get_or now c.highest-top.result old = c.index-children-top.is in
    back_merge items place g.C.Placed.ordered now c.args.low c.highest-top.result
    (subst (λ ss. IsMerge ss c.args.low) (sym same) c.requires.merge) c.highest-top.ensures.started
    (subst (λ ss. IsTop ss c.highest-top.result) (sym same) c.highest-top.ensures.top)
    old c.prev.new.self (omega arith) at_old (c.prev.ensures.same ∙ ap items (sym at_old)) (c.prev.ensures.place ∙ ap (λ y. place y - 1) (sym at_old))

pub returns-clause-started : goal.returns-clause-started
returns-clause-started g c =
    let items = g.C.Placed.items in
    let place = g.C.Placed.place in
    let same = c.highest-top.ensures.same in
    let now = c.highest-top.new.children in
    let old = c.index-children-top.result in
    let n = same_count items place now c.args.children.now same in
    let at_old : old ≡ get_or now c.highest-top.result old = c.index-children-top.is in
    back_started items place g.C.Placed.ordered now c.args.low c.highest-top.result
    (subst (λ ss. IsMerge ss c.args.low) (sym same) c.requires.merge) c.highest-top.ensures.started
    (subst (λ ss. IsTop ss c.highest-top.result) (sym same) c.highest-top.ensures.top)
    old c.prev.new.self (omega arith) at_old (c.prev.ensures.same ∙ ap items (sym at_old)) (c.prev.ensures.place ∙ ap (λ y. place y - 1) (sym at_old))

pub returns-clause-same : goal.returns-clause-same
returns-clause-same g c =
    let items = g.C.Placed.items in
    let place = g.C.Placed.place in
    let same = c.highest-top.ensures.same in
    let now = c.highest-top.new.children in
    let old = c.index-children-top.result in
    let n = same_count items place now c.args.children.now same in
    let at_old : old ≡ get_or now c.highest-top.result old = c.index-children-top.is in
    back_all items place g.C.Placed.ordered now c.args.low c.highest-top.result
    (subst (λ ss. IsMerge ss c.args.low) (sym same) c.requires.merge) c.highest-top.ensures.started
    (subst (λ ss. IsTop ss c.highest-top.result) (sym same) c.highest-top.ensures.top)
    old c.prev.new.self (omega arith) at_old (c.prev.ensures.same ∙ ap items (sym at_old)) (c.prev.ensures.place ∙ ap (λ y. place y - 1) (sym at_old))
    ∙ ap all same

pub returns-clause-passed : goal.returns-clause-passed
returns-clause-passed g c =
    let items = g.C.Placed.items in
    let place = g.C.Placed.place in
    let same = c.highest-top.ensures.same in
    let now = c.highest-top.new.children in
    let old = c.index-children-top.result in
    let n = same_count items place now c.args.children.now same in
    let at_old : old ≡ get_or now c.highest-top.result old = c.index-children-top.is in
    back_passed items place g.C.Placed.ordered now c.args.low c.highest-top.result
    (subst (λ ss. IsMerge ss c.args.low) (sym same) c.requires.merge) c.highest-top.ensures.started
    (subst (λ ss. IsTop ss c.highest-top.result) (sym same) c.highest-top.ensures.top)
    old c.prev.new.self (omega arith) at_old (c.prev.ensures.same ∙ ap items (sym at_old)) (c.prev.ensures.place ∙ ap (λ y. place y - 1) (sym at_old))
    ∙ ap passed same

pub returns-clause-over : goal.returns-clause-over
returns-clause-over g c = map-set_same g.C.Placed.over c.highest-top.new.children c.highest-top.result c.prev.new.self c.index-children-top.result c.prev.ensures.over ∙ c.highest-top.ensures.over
