-- The steps of a scan downwards over one version.
use Rattle.std.proofs.Common.{◌≡◌, ℕ, zero, suc, ◌-◌, ◌<◌, ◌≤◌, true, false, not, ◌||◌, List, [], ◌∷◌, ◌++◌, length, take, reverse, Option, Some, None, refl, sym, ap, ◌∙◌, arith}
use Rattle.std.specs.Prelude.{slice_get, nat_le}
use Rattle.std.proofs.lemmas.Bool.{le-leb, lt-leb}
use Rattle.std.proofs.lemmas.List.{reverse-append}
use Rattle.ts_key.specs.declared.numbers.Ts.{Ts}
use Rattle.ts_key.specs.Items.{Item}
use Rattle.ts_key.specs.Lists.{standing}
use Rattle.ts_key.specs.Visible.{is_item_within}
use Rattle.udt_model.specs.Orders.{is_below}
use Rattle.ts_iterator.specs.Rows.{rows_down, emit_of, given_before, is_past}
use Rattle.ts_iterator.specs.Walks.{back_from}

take_at : (vs : List Item) (n : ℕ) (v : Item) → slice_get vs n ≡ Some v → take (suc n) vs ≡ take n vs ++ v ∷ []
take_at [] n v e = absurd cc
take_at (x ∷ xs) zero v e = let q : x ≡ v = cc in ap (λ (y : Item). y ∷ []) q
take_at (x ∷ xs) (suc n) v e = ap (λ r. x ∷ r) (take_at xs n v e)

inside_at : (vs : List Item) (n : ℕ) (v : Item) → slice_get vs n ≡ Some v → n < length vs
inside_at [] n v e = absurd cc
inside_at (x ∷ xs) zero v e = omega arith
inside_at (x ∷ xs) (suc n) v e = let r = inside_at xs n v e in omega arith

pub past_at : (vs : List Item) (n : ℕ) → slice_get vs n ≡ None → length vs ≤ n
past_at [] n e = omega arith
past_at (x ∷ xs) zero e = absurd cc
past_at (x ∷ xs) (suc n) e = let r = past_at xs n e in omega arith

-- up to the last version it is what is taken, backwards
pub behind_upto : (vs : List Item) (p : ℕ) → p ≤ length vs → back_from p vs ≡ reverse (take p vs)
behind_upto vs p l = let y : nat_le p (length vs) ≡ true = le-leb p (length vs) l in rw y refl

pub down_at : (vs : List Item) (p : ℕ) (v : Item) → Some v ≡ standing vs p → back_from p vs ≡ v ∷ back_from (p - 1) vs
down_at vs zero v e = absurd cc
down_at vs (suc n) v e =
    let q : suc n - 1 ≡ n = omega arith in
    let l = inside_at vs n v (sym e) in
    behind_upto vs (suc n) (omega (arith, l))
    ∙ ap reverse (take_at vs n v (sym e)) ∙ reverse-append (take n vs) (v ∷ [])
    ∙ ap (λ r. v ∷ r) (sym (behind_upto vs n (omega (arith, l))) ∙ ap (λ m. back_from m vs) (sym q))

pub behind_none : (vs : List Item) (p : ℕ) → None ≡ standing vs p → back_from p vs ≡ []
behind_none vs zero e = behind_upto vs zero (omega arith)
behind_none vs (suc n) e = let l = past_at vs n (sym e) in let y : nat_le (suc n) (length vs) ≡ false = lt-leb (suc n) (length vs) (omega (arith, l)) in rw y refl

pub lower_place : (vs : List Item) (p : ℕ) (v : Item) → Some v ≡ standing vs p → p - 1 < p
lower_place vs zero v e = absurd cc
lower_place vs (suc n) v e = omega arith

module _ (floor : Ts) (low : List ℕ) (high : Option (List ℕ)) (t s : ℕ) (best : Option Item) (vs : List Item) (p : ℕ) (v : Item) (at : Some v ≡ standing vs p) where
  pub ends_at : is_below v.sort_key.key low ≡ true → rows_down floor low high t s best (back_from p vs) ≡ emit_of floor best
  ends_at y =
      let e : rows_down floor low high t s best (v ∷ back_from (p - 1) vs) ≡ emit_of floor best = rw y refl in
      ap (rows_down floor low high t s best) (down_at vs p v at) ∙ e

  pub passes : is_below v.sort_key.key low ≡ false → (is_past high v.sort_key.key || not (is_item_within t s v)) ≡ true → rows_down floor low high t s best (back_from (p - 1) vs) ≡ rows_down floor low high t s best (back_from p vs)
  passes x y =
      let e : rows_down floor low high t s best (v ∷ back_from (p - 1) vs) ≡ rows_down floor low high t s best (back_from (p - 1) vs) = rw (x, y) refl in
      sym (ap (rows_down floor low high t s best) (down_at vs p v at) ∙ e)

  pub finds : is_below v.sort_key.key low ≡ false → (is_past high v.sort_key.key || not (is_item_within t s v)) ≡ false → rows_down floor low high t s best (back_from p vs) ≡ given_before floor best v ++ rows_down floor low high t s (Some v) (back_from (p - 1) vs)
  finds x y =
      let e : rows_down floor low high t s best (v ∷ back_from (p - 1) vs) ≡ given_before floor best v ++ rows_down floor low high t s (Some v) (back_from (p - 1) vs) = rw (x, y) refl in
      ap (rows_down floor low high t s best) (down_at vs p v at) ∙ e
