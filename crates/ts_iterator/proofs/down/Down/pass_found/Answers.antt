use Rattle.std.proofs.Common.{◌≡◌, ℕ, ◌-◌, List, Option, refl, ap, ◌∙◌, arith}
use Rattle.ts_key.specs.Items.{Item}
use Rattle.ts_key.specs.Firsts.{seen_of_key}
use Rattle.ts_iterator.specs.Helds.{item_held_by, held_item}
use Rattle.ts_iterator.specs.Rows.{least_key, rows_down}
use Rattle.ts_iterator.specs.Walks.{back_from}
use Rattle.ts_iterator.proofs.PassingDown.{counts_seen, from_newest, seen_counts}
use Rattle.ts_iterator.proofs.StepsDown.{lower_place}
use Rattle.ts_iterator.proofs.down.Down.pass_found.Goals as goal

pub returns-clause-lower : goal.returns-clause-lower
returns-clause-lower g c = λ h.
    let x = c.args.self.now in
    let v = held_item c.args.held in
    let found = c.go_to_best-self.ensures.best h.at (counts_seen x.floor (least_key x.low) x.high x.t.0 x.s.0 v.sort_key.key v refl h.is) in
    let lower = lower_place (g.C.Placed.items x.cursor) (g.C.Placed.place c.go_to_best-self.new.cursor) found.it found.stands in
    omega (arith, lower, found.upto, c.prev.ensures.place)

pub returns-clause-rest : goal.returns-clause-rest
returns-clause-rest g c = λ h.
    let x = c.args.self.now in
    let vs = g.C.Placed.items x.cursor in
    let p = g.C.Placed.place x.cursor in
    let q = g.C.Placed.place c.go_to_best-self.new.cursor in
    let v = held_item c.args.held in
    let key = v.sort_key.key in
    let found = c.go_to_best-self.ensures.best h.at (counts_seen x.floor (least_key x.low) x.high x.t.0 x.s.0 key v refl h.is) in
    let same : found.it.sort_key.key ≡ key = seen_of_key key x.t.0 x.s.0 found.it found.seen in
    let rows = λ (best : Option Item) (ys : List Item). rows_down x.floor (least_key x.low) x.high x.t.0 x.s.0 best ys in
    ap (λ (ys : List Item). rows (item_held_by c.go_to_best-self.result) (back_from (g.C.Placed.place c.prev.new.self) ys)) (c.prev.ensures.same ∙ c.go_to_best-self.ensures.same)
    ∙ ap (λ (m : ℕ). rows (item_held_by c.go_to_best-self.result) (back_from m vs)) c.prev.ensures.place
    ∙ ap (λ (best : Option Item). rows best (back_from (q - 1) vs)) found.is
    ∙ from_newest x.floor (least_key x.low) x.high x.t.0 x.s.0 found.it v same h.inside (seen_counts x.floor (least_key x.low) x.high x.t.0 x.s.0 key found.it v found.seen refl h.is) vs p q (g.C.Placed.ordered x.cursor) h.at found.stands found.upto
