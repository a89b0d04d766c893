use Rattle.std.proofs.Common.{Some, ap, sym, ◌∙◌, arith}
use Rattle.std.proofs.lemmas.List.{length-map}
use Rattle.std.proofs.lemmas.Option.{slice_get-get_or}
use Rattle.merge_cursor.specs.Sides.{side, sides, all, passed}
use Rattle.merge_cursor.specs.Shows.{ends_none}
use Rattle.merge_cursor.proofs.Steps.{shown_is, standing_at}
use Rattle.merge_cursor.proofs.merge.Merge.child.Goals as goal

pub returns-then-self-len-clause-stands : goal.returns-then-self-len-clause-stands
returns-then-self-len-clause-stands g c =
    let items = g.C.Placed.items in
    let place = g.C.Placed.place in
    let m = c.args.self.now in
    let ss = sides items place m.children.items in
    standing_at (all ss) (passed ss) m.before c.if-self.false
    ∙ ends_none ss m.lowest m.merge (let e = length-map m.children.items (side items place) in let v = m.children.ok.0 in omega arith)

pub returns-clause-stands : goal.returns-clause-stands
returns-clause-stands g c =
    let items = g.C.Placed.items in
    let place = g.C.Placed.place in
    let m = c.args.self.now in
    let ss = sides items place m.children.items in
    shown_is items place g.C.Placed.ordered m.children.items m.lowest c.index.result.now m.merge m.started (let v = m.children.ok.0 in omega arith) c.index.ensures
    ∙ sym (standing_at (all ss) (passed ss) m.before c.if-self.false)

pub returns-clause-lowest : goal.returns-clause-lowest
returns-clause-lowest g c =
    slice_get-get_or c.args.self.now.children.items c.args.self.now.lowest c.index.result.now (let v = c.args.self.now.children.ok.0 in omega arith)
    ∙ ap Some (sym c.index.ensures)
