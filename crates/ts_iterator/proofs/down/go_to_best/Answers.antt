use Rattle.std.proofs.Common.{◌≡◌, ℕ, true, List, refl, sym, ap, subst, arith}
use Rattle.ts_key.specs.Order.{SortKey}
use Rattle.ts_key.specs.Visible.{is_item_seen}
use Rattle.ts_iterator.specs.Helds.{item_held_by, held_item}
use Rattle.ts_iterator.specs.Walks.{StandsUpto}
use Rattle.ts_iterator.proofs.down.go_to_best.Goals as goal

pub returns-then-many-clause-best : goal.returns-then-many-clause-best
returns-then-many-clause-best g c = λ at seen.
    let x = c.args.cursor.now in
    let v = held_item c.args.held in
    let own = ap (λ (k : SortKey). k.key) c.key_ref.ensures in
    let found = c.go_to_newest.ensures.newest (g.C.Placed.place x) v at (subst (λ (k : List ℕ). is_item_seen k c.args.t.0 c.args.s.0 v ≡ true) (sym own) seen) in
    subst (λ (k : List ℕ). StandsUpto k c.args.t.0 c.args.s.0 (g.C.Placed.items x) (g.C.Placed.place x) (g.C.Placed.place c.go_to_newest.new.cursor) (item_held_by c.go_to_newest.result)) own found

pub returns-clause-best : goal.returns-clause-best
returns-clause-best g c = λ at seen. record { it = held_item c.args.held; is = refl; stands = at; seen = seen; upto = omega arith }
