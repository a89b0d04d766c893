-- A seek past versions of one key that give nothing more.
use Rattle.std.proofs.Common.{◌≡◌, ℕ, zero, suc, ◌+◌, ◌<◌, ◌≤◌, Bool, true, false, not, ◌&&◌, ◌||◌, List, [], ◌∷◌, drop, Option, Some, refl, sym, ap, subst, ◌∙◌, inl, inr, arith}
use Rattle.std.specs.Prelude.{slice_get}
use Rattle.std.specs.List.{AllByRecursion}
use Rattle.std.specs.Ordering.{is_lt}
use Rattle.std.specs.Str.{bytes_eq}
use Rattle.std.proofs.lemmas.Bool.{cases_Bool}
use Rattle.std.proofs.lemmas.Slice.Eq.{bytes_eq-Decides}
use Rattle.ts_key.specs.declared.numbers.Ts.{Ts}
use Rattle.ts_key.specs.Order.{SortKey, is_before}
use Rattle.ts_key.specs.Orders.{before_itself, less_from, upto_before}
use Rattle.ts_key.specs.Items.{Item}
use Rattle.ts_key.specs.Lists.{IsOrdered, below, standing}
use Rattle.ts_key.specs.Ordered.{none_low}
use Rattle.ts_key.specs.Counts.{get_In, In_after}
use Rattle.ts_key.specs.Firsts.{key_before, key_upto, unseen}
use Rattle.ts_key.specs.Visible.{is_item_within}
use Rattle.udt_model.specs.Orders.{is_below}
use Rattle.ts_iterator.specs.Rows.{end_of, is_decided, is_past, rows_up}
use Rattle.ts_iterator.specs.Walks.{ahead}
use Rattle.ts_iterator.proofs.Keys.{key_back}
use Rattle.ts_iterator.proofs.Ranges.{drop_sorted}
use Rattle.ts_iterator.proofs.Steps.{head_at}

clash : (b : Bool) → b ≡ true → b ≡ false → ⊥
clash b x y = cc

drop_none : (k : ℕ) → drop {A = Item} k [] ≡ []
drop_none zero = refl
drop_none (suc k) = refl

drop_more : (n m : ℕ) (vs : List Item) → drop (n + m) vs ≡ drop m (drop n vs)
drop_more zero m vs = let z : zero + m ≡ m = omega arith in ap (λ (k : ℕ). drop k vs) z
drop_more (suc n) m [] = drop_none (suc n + m) ∙ sym (drop_none m)
drop_more (suc n) m (v ∷ vs) = let z : suc n + m ≡ suc (n + m) = omega arith in ap (λ (k : ℕ). drop k (v ∷ vs)) z ∙ drop_more n m vs

-- up to a version that stands before it all do
cut : (to : SortKey) (vs : List Item) (n : ℕ) (v : Item) → IsOrdered vs → slice_get vs n ≡ Some v → is_before v.sort_key to ≡ true → below to vs ≡ n + below to (drop n vs)
cut to [] n v so e h = absurd cc
cut to (x ∷ xs) zero v so e h = omega arith
cut to (x ∷ xs) (suc n) v so e h =
    let upto : is_before v.sort_key x.sort_key ≡ false = In_after (λ w. is_before w.sort_key x.sort_key ≡ false) v xs so.0 (get_In xs n v e) in
    let y : is_before x.sort_key to ≡ true = upto_before x.sort_key v.sort_key to upto h in
    let r = cut to xs n v so.1 e h in
    rw y (omega (arith, r))

end_key : (d : Option (List ℕ)) (k : List ℕ) (t s : ℕ) → (end_of d k t s).key ≡ k
end_key d k t s =
    elim (cases_Bool (is_decided d k)) [
      | inl y ↦ rw y refl
      | inr y ↦ rw y refl
    ]

or_true : (b : Bool) → (b || true) ≡ true
or_true true = refl
or_true false = refl

module _ (floor : Ts) (high : Option (List ℕ)) (t s : ℕ) (d : Option (List ℕ)) where
  same_key : (v w : Item) → is_before w.sort_key v.sort_key ≡ false → is_before w.sort_key (end_of d v.sort_key.key t s) ≡ true → w.sort_key.key ≡ v.sort_key.key
  same_key v w upto h =
      let e = end_key d v.sort_key.key t s in
      elim (key_upto v.sort_key w.sort_key upto) [
        | inr q ↦ sym q
        | inl l ↦ elim (key_before w.sort_key (end_of d v.sort_key.key t s) (less_from w.sort_key (end_of d v.sort_key.key t s) h)) [
          | inl m ↦
              let back : is_below w.sort_key.key v.sort_key.key ≡ true = subst (λ (k : List ℕ). is_below w.sort_key.key k ≡ true) e (ap is_lt m) in
              absurd (clash (is_below w.sort_key.key v.sort_key.key) back (key_back v.sort_key.key w.sort_key.key (ap is_lt l)))
          | inr q ↦ q ∙ e
        ]
      ]

  nothing_too : (v w : Item) → is_before w.sort_key v.sort_key ≡ false → is_before w.sort_key (end_of d v.sort_key.key t s) ≡ true → (is_decided d w.sort_key.key || not (is_item_within t s w)) ≡ true
  nothing_too v w upto h =
      let q = same_key v w upto h in
      elim (cases_Bool (is_decided d v.sort_key.key)) [
        | inl y ↦ ap (λ b. b || not (is_item_within t s w)) (ap (is_decided d) q ∙ y)
        | inr y ↦
            let before : is_before w.sort_key (record { key = v.sort_key.key; ts = t; seq = s }) ≡ true = rw y at h in
            let own : bytes_eq w.sort_key.key v.sort_key.key ≡ true = (bytes_eq-Decides w.sort_key.key v.sort_key.key).1 q in
            let none : is_item_within t s w ≡ false = ap (λ b. b && is_item_within t s w) (sym own) ∙ unseen v.sort_key.key t s w before in
            ap (λ b. is_decided d w.sort_key.key || not b) none ∙ or_true (is_decided d w.sort_key.key)
      ]

  -- the versions up to that end give nothing
  skip_run : (v : Item) (xs : List Item) → is_past high v.sort_key.key ≡ false → AllByRecursion (λ w. is_before w.sort_key v.sort_key ≡ false) xs → IsOrdered xs → rows_up floor high t s d (drop (below (end_of d v.sort_key.key t s) xs) xs) ≡ rows_up floor high t s d xs
  skip_run v [] p a so = refl
  skip_run v (x ∷ xs) p a so =
      let to = end_of d v.sort_key.key t s in
      elim (cases_Bool (is_before x.sort_key to)) [
        | inl y ↦
            let n : below to (x ∷ xs) ≡ suc (below to xs) = rw y (omega arith) in
            let q = same_key v x a.0 y in
            let inside : is_past high x.sort_key.key ≡ false = ap (is_past high) q ∙ p in
            let nothing = nothing_too v x a.0 y in
            let r : rows_up floor high t s d (x ∷ xs) ≡ rows_up floor high t s d xs = rw (inside, nothing) refl in
            ap (λ m. rows_up floor high t s d (drop m (x ∷ xs))) n ∙ skip_run v xs p a.1 so.1 ∙ sym r
        | inr y ↦
            let z = none_low to x xs so.0 y in
            let n : below to (x ∷ xs) ≡ zero = rw y (omega (arith, z)) in
            ap (λ m. rows_up floor high t s d (drop m (x ∷ xs))) n
      ]

  module _ (vs : List Item) (so : IsOrdered vs) (v : Item) (p : is_past high v.sort_key.key ≡ false) (before : is_before v.sort_key (end_of d v.sort_key.key t s) ≡ true) where
    further_at : (n : ℕ) → slice_get vs n ≡ Some v → suc n ≤ below (end_of d v.sort_key.key t s) vs
    further_at n e =
        let to = end_of d v.sort_key.key t s in
        let one : below to (drop n vs) ≡ suc (below to (drop (suc n) vs)) = ap (below to) (head_at vs n v e) ∙ rw before (omega arith) in
        let c = cut to vs n v so e before in
        omega (arith, one, c)

    skips_at : (n : ℕ) → slice_get vs n ≡ Some v → rows_up floor high t s d (drop (below (end_of d v.sort_key.key t s) vs) vs) ≡ rows_up floor high t s d (drop n vs)
    skips_at n e =
        let to = end_of d v.sort_key.key t s in
        let rest = drop (suc n) vs in
        let is = head_at vs n v e in
        let o : IsOrdered (v ∷ rest) = subst IsOrdered is (drop_sorted floor t s high [] n vs so) in
        ap (λ m. rows_up floor high t s d (drop m vs)) (cut to vs n v so e before)
        ∙ ap (rows_up floor high t s d) (drop_more n (below to (drop n vs)) vs)
        ∙ ap (λ (xs : List Item). rows_up floor high t s d (drop (below to xs) xs)) is
        ∙ skip_run v (v ∷ rest) p (before_itself v.sort_key, o.0) o
        ∙ sym (ap (rows_up floor high t s d) is)

    pub further : (place : ℕ) → Some v ≡ standing vs place → place < below (end_of d v.sort_key.key t s) vs + 1
    further zero e = absurd cc
    further (suc n) e = let l = further_at n (sym e) in omega (arith, l)

    pub skips : (place next : ℕ) → Some v ≡ standing vs place → next ≡ below (end_of d v.sort_key.key t s) vs + 1 → rows_up floor high t s d (ahead next vs) ≡ rows_up floor high t s d (ahead place vs)
    skips zero next e q = absurd cc
    skips (suc n) next e q =
        let m : next ≡ suc (below (end_of d v.sort_key.key t s) vs) = omega (arith, q) in
        ap (λ k. rows_up floor high t s d (ahead k vs)) m ∙ skips_at n (sym e)
