use Rattle.std.proofs.Common.{◌≡◌, List, ◌∷◌, ◌++◌, ◌-◌, Some, None, sym, ap, ◌∙◌}
use Rattle.ts_key.specs.Order.{SortKey}
use Rattle.udt_model.specs.Orders.{is_below}
use Rattle.udt_model.specs.declared.reply.Row.{Row}
use Rattle.ts_iterator.specs.Helds.{item_held_by, held_item}
use Rattle.ts_iterator.specs.Rests.{rest_down, rows_given}
use Rattle.ts_iterator.specs.Rows.{least_key, rows_down}
use Rattle.ts_iterator.specs.Walks.{back_from}
use Rattle.ts_iterator.proofs.Ends.{told_at_end}
use Rattle.ts_iterator.proofs.StepsDown.{behind_none, ends_at, finds}
use Rattle.ts_iterator.proofs.down.Down.next.Goals as goal

pub returns-in_default : goal.returns-in_default
returns-in_default g c =
    let x = c.loop-held.self in
    let vs = g.C.Placed.items x.cursor in
    let p = g.C.Placed.place x.cursor in
    let none = behind_none vs p c.in_default.ensures in
    let was : rest_down g.C.Placed.items g.C.Placed.place x ≡ rows_given c.in_ok-row.row = ap (rows_down x.floor (least_key x.low) x.high x.t.0 x.s.0 (item_held_by x.best)) none ∙ sym c.in_ok-row.ensures in
    told_at_end c.in_ok-row.row (rest_down g.C.Placed.items g.C.Placed.place c.args.self.now) (rows_down x.floor (least_key x.low) x.high x.t.0 x.s.0 None (back_from p vs)) (sym c.loop-held.invariant ∙ was)
    (ap (rows_down x.floor (least_key x.low) x.high x.t.0 x.s.0 None) none)

pub returns-then-is_below : goal.returns-then-is_below
returns-then-is_below g c =
    let x = c.loop-held.self in
    let vs = g.C.Placed.items x.cursor in
    let p = g.C.Placed.place x.cursor in
    let v = held_item c.in-Some.held in
    let own = c.key_ref-key.ensures in
    let y = ap (λ (k : SortKey). is_below k.key (least_key x.low)) (sym own) ∙ sym c.is_below.ensures ∙ c.if-is_below.true in
    let was = ends_at x.floor (least_key x.low) x.high x.t.0 x.s.0 (item_held_by x.best) vs p v c.in-Some.ensures y in
    let now = ends_at x.floor (least_key x.low) x.high x.t.0 x.s.0 None vs p v c.in-Some.ensures y in
    told_at_end c.in_ok-row-2.row (rest_down g.C.Placed.items g.C.Placed.place c.args.self.now) (rows_down x.floor (least_key x.low) x.high x.t.0 x.s.0 None (back_from p vs)) (sym c.loop-held.invariant ∙ was ∙ sym c.in_ok-row-2.ensures) now

pub loop-held-smaller-then-is_passed_over : goal.loop-held-smaller-then-is_passed_over
loop-held-smaller-then-is_passed_over g c =
    let x = c.loop-held.self in
    let v = held_item c.in-Some.held in
    let own = c.key_ref-key.ensures in
    let inside = ap (λ (k : SortKey). is_below k.key (least_key x.low)) (sym own) ∙ sym c.is_below.ensures ∙ c.if-is_below.false in
    c.pass_over.ensures.lower v (sym own) (record { at = c.in-Some.ensures; inside = inside; is = sym (c.is_passed_over.ensures v (sym own)) ∙ c.if-is_passed_over.true })

pub loop-held-preserved-then-is_passed_over : goal.loop-held-preserved-then-is_passed_over
loop-held-preserved-then-is_passed_over g c =
    let x = c.loop-held.self in
    let v = held_item c.in-Some.held in
    let own = c.key_ref-key.ensures in
    let inside = ap (λ (k : SortKey). is_below k.key (least_key x.low)) (sym own) ∙ sym c.is_below.ensures ∙ c.if-is_below.false in
    c.pass_over.ensures.rest v (sym own) (record { at = c.in-Some.ensures; inside = inside; is = sym (c.is_passed_over.ensures v (sym own)) ∙ c.if-is_passed_over.true })
    ∙ c.loop-held.invariant

pub loop-held-smaller : goal.loop-held-smaller
loop-held-smaller g c =
    let x = c.loop-held.self in
    let v = held_item c.in-Some.held in
    let own = c.key_ref-key.ensures in
    let inside = ap (λ (k : SortKey). is_below k.key (least_key x.low)) (sym own) ∙ sym c.is_below.ensures ∙ c.if-is_below.false in
    c.pass_found.ensures.lower (record { at = c.in-Some.ensures; inside = inside; is = sym (c.is_passed_over.ensures v (sym own)) ∙ c.if-is_passed_over.false })

pub returns-in-Some-row : goal.returns-in-Some-row
returns-in-Some-row g c =
    let x = c.loop-held.self in
    let vs = g.C.Placed.items x.cursor in
    let p = g.C.Placed.place x.cursor in
    let v = held_item c.in-Some.held in
    let own = c.key_ref-key.ensures in
    let out = sym (c.is_passed_over.ensures v (sym own)) ∙ c.if-is_passed_over.false in
    let inside = ap (λ (k : SortKey). is_below k.key (least_key x.low)) (sym own) ∙ sym c.is_below.ensures ∙ c.if-is_below.false in
    let found = finds x.floor (least_key x.low) x.high x.t.0 x.s.0 (item_held_by x.best) vs p v c.in-Some.ensures inside out in
    let row = c.in_ok-row-3.ensures v (sym own) in
    let after = rows_down x.floor (least_key x.low) x.high x.t.0 x.s.0 (Some v) (back_from (p - 1) vs) in
    sym c.loop-held.invariant ∙ found
    ∙ ap (λ (r : List Row). r ++ after) (sym row ∙ ap rows_given c.in-Some-row.is)
    ∙ ap (λ (r : List Row). c.in-Some-row.row ∷ r) (sym (c.pass_found.ensures.rest (record { at = c.in-Some.ensures; inside = inside; is = out })))

pub loop-held-preserved : goal.loop-held-preserved
loop-held-preserved g c =
    let x = c.loop-held.self in
    let vs = g.C.Placed.items x.cursor in
    let p = g.C.Placed.place x.cursor in
    let v = held_item c.in-Some.held in
    let own = c.key_ref-key.ensures in
    let out = sym (c.is_passed_over.ensures v (sym own)) ∙ c.if-is_passed_over.false in
    let inside = ap (λ (k : SortKey). is_below k.key (least_key x.low)) (sym own) ∙ sym c.is_below.ensures ∙ c.if-is_below.false in
    let found = finds x.floor (least_key x.low) x.high x.t.0 x.s.0 (item_held_by x.best) vs p v c.in-Some.ensures inside out in
    let row = c.in_ok-row-3.ensures v (sym own) in
    let after = rows_down x.floor (least_key x.low) x.high x.t.0 x.s.0 (Some v) (back_from (p - 1) vs) in
    c.pass_found.ensures.rest (record { at = c.in-Some.ensures; inside = inside; is = out })
    ∙ sym (found ∙ ap (λ (r : List Row). r ++ after) (sym row ∙ ap rows_given c.in_default-row.is))
    ∙ c.loop-held.invariant
