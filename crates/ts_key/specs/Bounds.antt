-- Where halving a list in order ends.
use Rattle.std.proofs.Common.{◌≡◌, ℕ, zero, suc, ◌-◌, ◌<◌, ◌≤◌, true, false, List, [], ◌∷◌, length, get_or, Some, refl, sym, ap, subst, ◌∙◌, inl, inr, arith}
use Rattle.std.specs.Prelude.{map, slice_get}
use Rattle.std.specs.List.{AllByRecursion}
use Rattle.std.proofs.lemmas.Bool.{cases_Bool}
use Rattle.ts_key.specs.Order.{SortKey, is_before}
use Rattle.ts_key.specs.Items.{Item}
use Rattle.ts_key.specs.Lists.{IsOrdered, below, standing}
use Rattle.ts_key.specs.Orders.{upto_before}

-- a list of what stands for versions, as `f` says
module _ {X : Type 0} (f : X → Item) where
  abbrev Ordered : List X → Type 0
  Ordered xs = IsOrdered (map f xs)

  all_at : (P : Item → Type 0) (xs : List X) → AllByRecursion P (map f xs) → (j : ℕ) (d : X) → j < length xs → P (f (get_or xs j d))
  all_at P [] h j d l = absurd (omega arith)
  all_at P (x ∷ xs) h zero d l = h.0
  all_at P (x ∷ xs) h (suc j) d l = all_at P xs h.1 j d (omega arith)

  -- with one all at smaller indices stand before it
  pub before_on : (to : SortKey) (xs : List X) → Ordered xs → (i j : ℕ) (d e : X) → i ≤ j → j < length xs → is_before (f (get_or xs j e)).sort_key to ≡ true → is_before (f (get_or xs i d)).sort_key to ≡ true
  before_on to [] s i j d e o l h = absurd (omega arith)
  before_on to (x ∷ xs) s zero zero d e o l h = h
  before_on to (x ∷ xs) s zero (suc j) d e o l h =
      let w = f (get_or xs j e) in
      upto_before (f x).sort_key w.sort_key to (all_at (λ u. is_before u.sort_key (f x).sort_key ≡ false) xs s.0 j e (omega arith)) h
  before_on to (x ∷ xs) s (suc i) zero d e o l h = absurd (omega arith)
  before_on to (x ∷ xs) s (suc i) (suc j) d e o l h = before_on to xs s.1 i j d e (omega arith) (omega arith) h

  -- with one no one at larger indices does
  pub from_on : (to : SortKey) (xs : List X) → Ordered xs → (i j : ℕ) (d e : X) → i ≤ j → j < length xs → is_before (f (get_or xs i d)).sort_key to ≡ false → is_before (f (get_or xs j e)).sort_key to ≡ false
  from_on to xs s i j d e o l h =
      elim (cases_Bool (is_before (f (get_or xs j e)).sort_key to)) [
        | inl y ↦ let z : is_before (f (get_or xs i d)).sort_key to ≡ true = before_on to xs s i j d e o l y in absurd cc
        | inr y ↦ y
      ]

  -- where all up to n stand before it and no later one does, there are n that do
  pub below_is : (to : SortKey) (xs : List X) (n : ℕ) → n ≤ length xs → ((k : ℕ) (d : X) → k < n → is_before (f (get_or xs k d)).sort_key to ≡ true) → ((k : ℕ) (d : X) → n ≤ k → k < length xs → is_before (f (get_or xs k d)).sort_key to ≡ false) → n ≡ below to (map f xs)
  below_is to [] n l h g = omega arith
  below_is to (x ∷ xs) zero l h g =
      let y : is_before (f x).sort_key to ≡ false = g zero x (omega arith) (omega arith) in
      let r : zero ≡ below to (map f xs) = below_is to xs zero (omega arith) (λ k d q. absurd (omega arith)) (λ k d a b. g (suc k) d (omega arith) (omega arith)) in
      rw y (omega arith)
  below_is to (x ∷ xs) (suc n) l h g =
      let y : is_before (f x).sort_key to ≡ true = h zero x (omega arith) in
      let r : n ≡ below to (map f xs) = below_is to xs n (omega arith) (λ k d q. h (suc k) d (omega arith)) (λ k d a b. g (suc k) d (omega arith) (omega arith)) in
      rw y (omega arith)

  item_at : (xs : List X) (n : ℕ) (x : X) → n < length xs → x ≡ get_or xs n x → slice_get (map f xs) n ≡ Some (f x)
  item_at [] n x l is = absurd (omega arith)
  item_at (y ∷ ys) zero x l is = ap (λ (w : X). Some (f w)) (sym is)
  item_at (y ∷ ys) (suc n) x l is = item_at ys n x (omega arith) is

  -- what stands at a place of a cursor
  pub stands_at : (xs : List X) (p : ℕ) (x : X) (v : Item) → (p ≡ 0 → ⊥) → p ≤ length xs → x ≡ get_or xs (p - 1) x → v ≡ f x → Some v ≡ standing (map f xs) p
  stands_at xs zero x v n l is e = absurd (n refl)
  stands_at xs (suc m) x v n l is e =
      let q : suc m - 1 ≡ m = omega arith in
      let is' : x ≡ get_or xs m x = subst (λ k. x ≡ get_or xs k x) q is in
      ap Some e ∙ sym (item_at xs m x (omega arith) is')
