-- The steps of a scan upwards over one version.
use Rattle.std.proofs.Common.{◌≡◌, ℕ, zero, suc, ◌+◌, ◌<◌, ◌≤◌, true, false, not, ◌||◌, List, [], ◌∷◌, ◌++◌, length, drop, Option, Some, None, refl, sym, ap, ◌∙◌, arith}
use Rattle.std.specs.Prelude.{slice_get, nat_le}
use Rattle.std.proofs.lemmas.Bool.{le-leb}
use Rattle.ts_key.specs.declared.numbers.Ts.{Ts}
use Rattle.ts_key.specs.Items.{Item}
use Rattle.ts_key.specs.Lists.{standing, onward}
use Rattle.ts_key.specs.Visible.{is_item_within}
use Rattle.ts_iterator.specs.Rows.{rows_up, emit, is_past, is_decided}
use Rattle.ts_iterator.specs.Walks.{ahead}

pub head_at : (vs : List Item) (n : ℕ) (v : Item) → slice_get vs n ≡ Some v → drop n vs ≡ v ∷ drop (suc n) vs
head_at [] n v e = absurd cc
head_at (x ∷ xs) zero v e = let q : x ≡ v = cc in ap (λ (y : Item). y ∷ xs) q
head_at (x ∷ xs) (suc n) v e = head_at xs n v e

end_at : (vs : List Item) (n : ℕ) → slice_get vs n ≡ None → drop n vs ≡ []
end_at [] zero e = refl
end_at [] (suc n) e = refl
end_at (x ∷ xs) zero e = absurd cc
end_at (x ∷ xs) (suc n) e = end_at xs n e

inside_at : (vs : List Item) (n : ℕ) (v : Item) → slice_get vs n ≡ Some v → n < length vs
inside_at [] n v e = absurd cc
inside_at (x ∷ xs) zero v e = omega arith
inside_at (x ∷ xs) (suc n) v e = let r = inside_at xs n v e in omega arith

onward_is : (len p : ℕ) → p ≤ len → onward len p ≡ p + 1
onward_is len p h = let y : nat_le p len ≡ true = le-leb p len h in rw y refl

-- what is ahead at a version
pub ahead_at : (vs : List Item) (p q : ℕ) (v : Item) → Some v ≡ standing vs p → q ≡ onward (length vs) p → ahead p vs ≡ v ∷ ahead q vs
ahead_at vs zero q v e o = absurd cc
ahead_at vs (suc n) q v e o =
    let l = inside_at vs n v (sym e) in
    let b : q ≡ suc (suc n) = let w = onward_is (length vs) (suc n) (omega arith) in omega arith in
    head_at vs n v (sym e) ∙ ap (λ k. v ∷ ahead k vs) (sym b)

pub ahead_none : (vs : List Item) (p : ℕ) → None ≡ standing vs p → ahead p vs ≡ []
ahead_none vs zero e = refl
ahead_none vs (suc n) e = end_at vs n (sym e)

pub goes_on : (vs : List Item) (p q : ℕ) (v : Item) → Some v ≡ standing vs p → q ≡ onward (length vs) p → (q ≡ p + 1) × (p ≤ length vs)
goes_on vs zero q v e o = absurd cc
goes_on vs (suc n) q v e o = let l = inside_at vs n v (sym e) in let w = onward_is (length vs) (suc n) (omega arith) in (omega arith, omega arith)

module _ (floor : Ts) (high : Option (List ℕ)) (t s : ℕ) (decided : Option (List ℕ)) (vs : List Item) (p q : ℕ) (v : Item) (at : Some v ≡ standing vs p) where
  pub ends : is_past high v.sort_key.key ≡ true → (vs' : List Item) → rows_up floor high t s decided (v ∷ vs') ≡ []
  ends y vs' = rw y refl

  pub past_high : is_past high v.sort_key.key ≡ true → rows_up floor high t s decided (ahead p vs) ≡ []
  past_high y = ap (rows_up floor high t s decided) (ahead_at vs p (onward (length vs) p) v at refl) ∙ ends y (ahead (onward (length vs) p) vs)

  module _ (o : q ≡ onward (length vs) p) (n : is_past high v.sort_key.key ≡ false) where
    pub skipped : (is_decided decided v.sort_key.key || not (is_item_within t s v)) ≡ true → rows_up floor high t s decided (ahead q vs) ≡ rows_up floor high t s decided (ahead p vs)
    skipped y =
        let e : rows_up floor high t s decided (v ∷ ahead q vs) ≡ rows_up floor high t s decided (ahead q vs) = rw (n, y) refl in
        sym (ap (rows_up floor high t s decided) (ahead_at vs p q v at o) ∙ e)

    pub given : (is_decided decided v.sort_key.key || not (is_item_within t s v)) ≡ false → rows_up floor high t s decided (ahead p vs) ≡ emit floor v ++ rows_up floor high t s (Some v.sort_key.key) (ahead q vs)
    given y =
        let e : rows_up floor high t s decided (v ∷ ahead q vs) ≡ emit floor v ++ rows_up floor high t s (Some v.sort_key.key) (ahead q vs) = rw (n, y) refl in
        ap (rows_up floor high t s decided) (ahead_at vs p q v at o) ∙ e
