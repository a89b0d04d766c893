use Rattle.std.proofs.Common.{◌≡◌, length, take, drop, ◌++◌, ◌+◌, ap, ◌∙◌, arith}
use Rattle.std.proofs.lemmas.List.{length-map, take_at}
use Rattle.merge_cursor.specs.Sides.{side, sides, passed, all}
use Rattle.merge_cursor.specs.Shows.{place_on, place_first, place_stays_at_end, ends_passed, passed_within}
use Rattle.merge_cursor.proofs.merge.MergeCursor.next.Goals as goal

pub returns-then-self-clause-place : goal.returns-then-self-clause-place
returns-then-self-clause-place g c =
    let ss = sides g.C.Placed.items g.C.Placed.place c.args.self.now.children.items in
    place_first c.args.self.now.before (length (all ss)) (passed ss) c.if-self.true c.args.self.now.ahead

pub returns-then-self-len-clause-place : goal.returns-then-self-len-clause-place
returns-then-self-len-clause-place g c =
    let items = g.C.Placed.items in
    let place = g.C.Placed.place in
    let new = c.step_on-self.new.children in
    let back : take c.args.self.now.children.len (new ++ drop (length new) c.args.self.now.children.items) ≡ new = take_at new (drop (length new) c.args.self.now.children.items) c.args.self.now.children.len (omega arith) in
    let value = c.deref_mut.ensures.value in
    let same : all (sides items place new) ≡ all (sides items place c.args.self.now.children.items) = c.step_on-self.ensures.same ∙ ap (λ cs. all (sides items place cs)) value in
    let more : passed (sides items place new) ≡ passed (sides items place c.args.self.now.children.items) + 1 = c.step_on-self.ensures.passed ∙ ap (λ cs. passed (sides items place cs) + 1) value in
    let room = passed_within (sides items place new) c.step_on-self.ensures.merge.cut in
    rw back (place_on c.args.self.now.before (length (all (sides items place c.args.self.now.children.items))) (passed (sides items place c.args.self.now.children.items)) (passed (sides items place new)) c.if-self.false more (omega (arith, room, ap length same)))

pub returns-else-self-len-clause-place : goal.returns-else-self-len-clause-place
returns-else-self-len-clause-place g c =
    let items = g.C.Placed.items in
    let place = g.C.Placed.place in
    let cs = c.args.self.now.children.items in
    place_stays_at_end c.args.self.now.before (length (all (sides items place cs))) (passed (sides items place cs)) c.if-self.false
    (ends_passed (sides items place cs) c.args.self.now.lowest c.args.self.now.merge (let e = length-map cs (side items place) in let v = c.args.self.now.children.ok.0 in omega arith))
