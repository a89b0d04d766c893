use Rattle.std.proofs.Common.{◌≡◌, ℕ, ◌<◌, false, List, sym, ap, ◌∙◌, arith}
use Rattle.ts_key.specs.Items.{Item}
use Rattle.ts_key.specs.Lists.{below}
use Rattle.ts_key.specs.Order.{SortKey, is_before}
use Rattle.ts_iterator.specs.Helds.{item_held_by}
use Rattle.ts_iterator.specs.Rows.{least_key, rows_down}
use Rattle.ts_iterator.specs.Walks.{back_from, top_of}
use Rattle.ts_iterator.proofs.PassingDown.{lower_front, not_before_top, over_front}
use Rattle.ts_iterator.proofs.StepsDown.{passes}
use Rattle.ts_iterator.proofs.down.Down.pass_over.Goals as goal

pub returns-then-self-key-clause-lower : goal.returns-then-self-key-clause-lower
returns-then-self-key-clause-lower g c = λ v own h.
    let x = c.args.self.now in
    let k = c.args.key.now in
    let vs = g.C.Placed.items x.cursor in
    let ts : v.sort_key.ts ≡ k.ts.0 = ap (λ (p : SortKey). p.ts) own in
    let seq : v.sort_key.seq ≡ k.seq.0 = ap (λ (p : SortKey). p.seq) own in
    let above : x.t.0 < v.sort_key.ts = omega (arith, ts) in
    let from : is_before v.sort_key (top_of v.sort_key.key) ≡ false = not_before_top v.sort_key (omega (arith, ts)) (omega (arith, seq)) in
    let place = c.go_before.ensures.place ∙ ap (λ (p : SortKey). below (top_of p.key) vs) (sym own) in
    lower_front x.floor (least_key x.low) x.high x.t.0 x.s.0 (item_held_by x.best) v h.inside above from vs (g.C.Placed.place x.cursor) (g.C.Placed.place c.go_before.new.cursor) (g.C.Placed.ordered x.cursor) h.at place

pub returns-then-self-key-clause-rest : goal.returns-then-self-key-clause-rest
returns-then-self-key-clause-rest g c = λ v own h.
    let x = c.args.self.now in
    let k = c.args.key.now in
    let vs = g.C.Placed.items x.cursor in
    let p = g.C.Placed.place x.cursor in
    let q = g.C.Placed.place c.go_before.new.cursor in
    let best = item_held_by x.best in
    let ts : v.sort_key.ts ≡ k.ts.0 = ap (λ (p : SortKey). p.ts) own in
    let seq : v.sort_key.seq ≡ k.seq.0 = ap (λ (p : SortKey). p.seq) own in
    let above : x.t.0 < v.sort_key.ts = omega (arith, ts) in
    let from : is_before v.sort_key (top_of v.sort_key.key) ≡ false = not_before_top v.sort_key (omega (arith, ts)) (omega (arith, seq)) in
    let place = c.go_before.ensures.place ∙ ap (λ (p : SortKey). below (top_of p.key) vs) (sym own) in
    ap (λ (ys : List Item). rows_down x.floor (least_key x.low) x.high x.t.0 x.s.0 best (back_from q ys)) c.go_before.ensures.same
    ∙ over_front x.floor (least_key x.low) x.high x.t.0 x.s.0 best v h.inside above from vs p q (g.C.Placed.ordered x.cursor) h.at place
    ∙ passes x.floor (least_key x.low) x.high x.t.0 x.s.0 best vs p v h.at h.inside h.is

pub returns-else-are_many-clause-rest : goal.returns-else-are_many-clause-rest
returns-else-are_many-clause-rest g c = λ v own h.
    let x = c.args.self.now in
    let vs = g.C.Placed.items x.cursor in
    let p = g.C.Placed.place x.cursor in
    let best = item_held_by x.best in
    ap (λ (ys : List Item). rows_down x.floor (least_key x.low) x.high x.t.0 x.s.0 best (back_from (g.C.Placed.place c.prev.new.self) ys)) c.prev.ensures.same
    ∙ ap (λ (m : ℕ). rows_down x.floor (least_key x.low) x.high x.t.0 x.s.0 best (back_from m vs)) c.prev.ensures.place
    ∙ passes x.floor (least_key x.low) x.high x.t.0 x.s.0 best vs p v h.at h.inside h.is
