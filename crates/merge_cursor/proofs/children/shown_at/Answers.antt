use Rattle.std.proofs.Common.{◌≡◌, get_or, sym, ◌∙◌, arith}
use Rattle.std.proofs.lemmas.List.{length-map}
use Rattle.merge_cursor.specs.Sides.{side, sides}
use Rattle.merge_cursor.specs.Shows.{ends_none}
use Rattle.merge_cursor.proofs.Steps.{shown_is}
use Rattle.merge_cursor.proofs.children.shown_at.Goals as goal

pub returns-then-low-children : goal.returns-then-low-children
returns-then-low-children g c =
    let items = g.C.Placed.items in
    let place = g.C.Placed.place in
    sym (ends_none (sides items place c.args.children.now) c.args.low c.requires.merge (let e = length-map c.args.children.now (side items place) in omega arith))

pub returns : goal.returns
returns g c =
    let items = g.C.Placed.items in
    let place = g.C.Placed.place in
    let old = c.index-children-low.result in
    let at_old : old ≡ get_or c.args.children.now c.args.low old = c.index-children-low.is in
    c.at.ensures ∙ shown_is items place g.C.Placed.ordered c.args.children.now c.args.low old c.requires.merge c.requires.started (omega arith) at_old
