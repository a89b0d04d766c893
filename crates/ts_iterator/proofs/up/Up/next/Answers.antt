use Rattle.std.proofs.Common.{◌≡◌, ℕ, true, false, List, [], ◌∷◌, ◌++◌, ◌+◌, Some, length, sym, ap, ◌∙◌, arith}
use Rattle.std.specs.Option.{option_copied}
use Rattle.ts_key.specs.Items.{Item}
use Rattle.ts_key.specs.Counts.{count_of_within}
use Rattle.ts_key.specs.Lists.{below}
use Rattle.ts_key.specs.Order.{SortKey, is_before, sort_key_of}
use Rattle.udt_model.specs.declared.reply.Row.{Row}
use Rattle.ts_iterator.specs.Helds.{held_item}
use Rattle.ts_iterator.specs.Rests.{rest_up, rows_given}
use Rattle.ts_iterator.specs.Rows.{emit, end_of, is_past, rows_up}
use Rattle.ts_iterator.specs.Walks.{ahead}
use Rattle.ts_iterator.proofs.Passing.{further, skips}
use Rattle.ts_iterator.proofs.Steps.{ahead_none, past_high, skipped, given, goes_on}
use Rattle.ts_iterator.proofs.up.Up.next.Goals as goal

pub returns-in_default : goal.returns-in_default
returns-in_default g c =
    let x = c.loop-held.self in
    let vs = g.C.Placed.items x.cursor in
    let p = g.C.Placed.place x.cursor in
    let e : rest_up g.C.Placed.items g.C.Placed.place x ≡ [] = ap (rows_up x.floor x.high x.t.0 x.s.0 (option_copied x.decided)) (ahead_none vs p c.in_default.ensures) in
    (sym c.loop-held.invariant ∙ e, e)

pub returns-then-is_past : goal.returns-then-is_past
returns-then-is_past g c =
    let x = c.loop-held.self in
    let vs = g.C.Placed.items x.cursor in
    let p = g.C.Placed.place x.cursor in
    let v = held_item c.in-Some.held in
    let past : is_past x.high v.sort_key.key ≡ true = ap (λ (k : SortKey). is_past x.high k.key) (sym c.key_ref-key.ensures) ∙ sym c.is_past.ensures ∙ c.if-is_past.true in
    let e : rest_up g.C.Placed.items g.C.Placed.place x ≡ [] = past_high x.floor x.high x.t.0 x.s.0 (option_copied x.decided) vs p p v c.in-Some.ensures past in
    (sym c.loop-held.invariant ∙ e, e)

pub loop-held-smaller-else-is_worth_a_seek : goal.loop-held-smaller-else-is_worth_a_seek
loop-held-smaller-else-is_worth_a_seek g c =
    let x = c.loop-held.self in
    let v = held_item c.in-Some.held in
    let o = goes_on (g.C.Placed.items x.cursor) (g.C.Placed.place x.cursor) (g.C.Placed.place c.next.new.self) v c.in-Some.ensures c.next.ensures.place in
    omega (arith, o.0, o.1, ap length c.next.ensures.same)

pub loop-held-preserved-else-is_worth_a_seek : goal.loop-held-preserved-else-is_worth_a_seek
loop-held-preserved-else-is_worth_a_seek g c =
    let x = c.loop-held.self in
    let vs = g.C.Placed.items x.cursor in
    let p = g.C.Placed.place x.cursor in
    let q = g.C.Placed.place c.next.new.self in
    let v = held_item c.in-Some.held in
    let own = c.key_ref-key.ensures in
    let under : is_past x.high v.sort_key.key ≡ false = ap (λ (k : SortKey). is_past x.high k.key) (sym own) ∙ sym c.is_past.ensures ∙ c.if-is_past.false in
    ap (λ (ys : List Item). rows_up x.floor x.high x.t.0 x.s.0 (option_copied x.decided) (ahead q ys)) c.next.ensures.same
    ∙ skipped x.floor x.high x.t.0 x.s.0 (option_copied x.decided) vs p q v c.in-Some.ensures c.next.ensures.place under (sym (c.is_passed_over.ensures v (sym own)) ∙ c.if-is_passed_over.true)
    ∙ c.loop-held.invariant

pub loop-held-smaller-then-is_worth_a_seek : goal.loop-held-smaller-then-is_worth_a_seek
loop-held-smaller-then-is_worth_a_seek g c =
    let x = c.loop-held.self in
    let vs = g.C.Placed.items x.cursor in
    let p = g.C.Placed.place x.cursor in
    let v = held_item c.in-Some.held in
    let own = c.key_ref-key.ensures in
    let d = option_copied x.decided in
    let to = end_of d v.sort_key.key x.t.0 x.s.0 in
    let end_is : sort_key_of c.end_of-end.result ≡ to = c.end_of-end.ensures ∙ ap (λ (k : SortKey). end_of d k.key x.t.0 x.s.0) own in
    let under : is_past x.high v.sort_key.key ≡ false = ap (λ (k : SortKey). is_past x.high k.key) (sym own) ∙ sym c.is_past.ensures ∙ c.if-is_past.false in
    let before : is_before v.sort_key to ≡ true = ap (λ (k : SortKey). is_before k to) (sym own) ∙ ap (is_before (sort_key_of c.key_ref-key.result)) (sym end_is) ∙ c.is_worth_a_seek.ensures c.if-is_worth_a_seek.true in
    let l = further x.floor x.high x.t.0 x.s.0 d vs (g.C.Placed.ordered x.cursor) v under before p c.in-Some.ensures in
    let n = count_of_within (λ w. is_before w.sort_key to) vs in
    let place : g.C.Placed.place c.seek.new.self ≡ below to vs + 1 = c.seek.ensures.place ∙ ap (λ (k : SortKey). below k vs + 1) end_is in
    omega (arith, l, n, place, ap length c.seek.ensures.same)

pub loop-held-preserved-then-is_worth_a_seek : goal.loop-held-preserved-then-is_worth_a_seek
loop-held-preserved-then-is_worth_a_seek g c =
    let x = c.loop-held.self in
    let vs = g.C.Placed.items x.cursor in
    let p = g.C.Placed.place x.cursor in
    let q = g.C.Placed.place c.seek.new.self in
    let v = held_item c.in-Some.held in
    let own = c.key_ref-key.ensures in
    let d = option_copied x.decided in
    let to = end_of d v.sort_key.key x.t.0 x.s.0 in
    let end_is : sort_key_of c.end_of-end.result ≡ to = c.end_of-end.ensures ∙ ap (λ (k : SortKey). end_of d k.key x.t.0 x.s.0) own in
    let under : is_past x.high v.sort_key.key ≡ false = ap (λ (k : SortKey). is_past x.high k.key) (sym own) ∙ sym c.is_past.ensures ∙ c.if-is_past.false in
    let before : is_before v.sort_key to ≡ true = ap (λ (k : SortKey). is_before k to) (sym own) ∙ ap (is_before (sort_key_of c.key_ref-key.result)) (sym end_is) ∙ c.is_worth_a_seek.ensures c.if-is_worth_a_seek.true in
    let place : q ≡ below to vs + 1 = c.seek.ensures.place ∙ ap (λ (k : SortKey). below k vs + 1) end_is in
    ap (λ (ys : List Item). rows_up x.floor x.high x.t.0 x.s.0 d (ahead q ys)) c.seek.ensures.same
    ∙ skips x.floor x.high x.t.0 x.s.0 d vs (g.C.Placed.ordered x.cursor) v under before p q c.in-Some.ensures place
    ∙ c.loop-held.invariant

pub loop-held-smaller : goal.loop-held-smaller
loop-held-smaller g c =
    let x = c.loop-held.self in
    let v = held_item c.in-Some.held in
    let o = goes_on (g.C.Placed.items x.cursor) (g.C.Placed.place x.cursor) (g.C.Placed.place c.next-in-loop-held.new.self) v c.in-Some.ensures c.next-in-loop-held.ensures.place in
    omega (arith, o.0, o.1, ap length c.next-in-loop-held.ensures.same)

pub loop-held-preserved : goal.loop-held-preserved
loop-held-preserved g c =
    let x = c.loop-held.self in
    let vs = g.C.Placed.items x.cursor in
    let p = g.C.Placed.place x.cursor in
    let q = g.C.Placed.place c.next-in-loop-held.new.self in
    let v = held_item c.in-Some.held in
    let own = c.key_ref-key.ensures in
    let under : is_past x.high v.sort_key.key ≡ false = ap (λ (k : SortKey). is_past x.high k.key) (sym own) ∙ sym c.is_past.ensures ∙ c.if-is_past.false in
    let rows = λ (k : List ℕ) (ys : List Item). rows_up x.floor x.high x.t.0 x.s.0 (Some k) (ahead q ys) in
    let found = given x.floor x.high x.t.0 x.s.0 (option_copied x.decided) vs p q v c.in-Some.ensures c.next-in-loop-held.ensures.place under (sym (c.is_passed_over.ensures v (sym own)) ∙ c.if-is_passed_over.false) in
    let nothing : emit x.floor v ≡ [] = sym c.in_ok-row.ensures ∙ ap rows_given c.in_default-row.is in
    ap (rows c.key_ref-key.result.key.now) c.next-in-loop-held.ensures.same
    ∙ ap (λ (k : SortKey). rows k.key vs) own
    ∙ sym (found ∙ ap (λ (r : List Row). r ++ rows v.sort_key.key vs) nothing)
    ∙ c.loop-held.invariant

pub returns-in-Some-row : goal.returns-in-Some-row
returns-in-Some-row g c =
    let x = c.loop-held.self in
    let vs = g.C.Placed.items x.cursor in
    let p = g.C.Placed.place x.cursor in
    let q = g.C.Placed.place c.next-in-loop-held.new.self in
    let v = held_item c.in-Some.held in
    let own = c.key_ref-key.ensures in
    let under : is_past x.high v.sort_key.key ≡ false = ap (λ (k : SortKey). is_past x.high k.key) (sym own) ∙ sym c.is_past.ensures ∙ c.if-is_past.false in
    let rows = λ (k : List ℕ) (ys : List Item). rows_up x.floor x.high x.t.0 x.s.0 (Some k) (ahead q ys) in
    let found = given x.floor x.high x.t.0 x.s.0 (option_copied x.decided) vs p q v c.in-Some.ensures c.next-in-loop-held.ensures.place under (sym (c.is_passed_over.ensures v (sym own)) ∙ c.if-is_passed_over.false) in
    let one : emit x.floor v ≡ c.in-Some-row.row ∷ [] = sym c.in_ok-row.ensures ∙ ap rows_given c.in-Some-row.is in
    sym c.loop-held.invariant ∙ found
    ∙ ap (λ (r : List Row). r ++ rows v.sort_key.key vs) one
    ∙ ap (λ (k : SortKey). c.in-Some-row.row ∷ rows k.key vs) (sym own)
    ∙ ap (λ (ys : List Item). c.in-Some-row.row ∷ rows c.key_ref-key.result.key.now ys) (sym c.next-in-loop-held.ensures.same)
