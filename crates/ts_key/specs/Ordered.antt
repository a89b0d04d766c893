-- Lists in which none stands before one that it comes after.
use Rattle.std.proofs.Common.{◌≡◌, ℕ, zero, suc, ◌+◌, ◌≤◌, Bool, true, false, not, List, [], ◌∷◌, length, Option, Some, None, refl, sym, ap, ◌∙◌, inl, inr, arith}
use Rattle.std.specs.Prelude.{if◌then◌else◌, slice_get}
use Rattle.std.specs.List.{AllByRecursion}
use Rattle.std.specs.Ordering.{is_eq}
use Rattle.std.specs.declared.cmp.Ordering.TheVariants.{Less}
use Rattle.std.proofs.lemmas.Bool.{cases_Bool}
use Rattle.ts_key.specs.Order.{SortKey, sort_cmp, is_before}
use Rattle.ts_key.specs.Items.{Item}
use Rattle.ts_key.specs.Lists.{IsSorted, IsOrdered, IsDistinct, count_of, below, standing, with_item, stored_items}
use Rattle.ts_key.specs.Orders.{less_from, before_from, before_back, cmp_itself, upto_upto, apart_before}
use Rattle.ts_key.specs.Counts.{get_In, In_after, count_of-stored, count_of_some}

pub clash : (b : Bool) → b ≡ true → b ≡ false → ⊥
clash b x y = cc

pub not_true : (b : Bool) → b ≡ false → not b ≡ true
not_true b e = ap not e

pub not_false : (b : Bool) → not b ≡ true → b ≡ false
not_false true e = absurd cc
not_false false e = refl

-- ---- strictly sorted lists are ordered, and ordered ones without two at one place sorted

after_ordered : (v : Item) (vs : List Item) → AllByRecursion (λ w. sort_cmp v.sort_key w.sort_key ≡ Less) vs → AllByRecursion (λ w. is_before w.sort_key v.sort_key ≡ false) vs
after_ordered v [] h = tt
after_ordered v (w ∷ ws) h = (before_back v.sort_key w.sort_key (before_from v.sort_key w.sort_key h.0), after_ordered v ws h.1)

pub ordered_from : (vs : List Item) → IsSorted vs → IsOrdered vs
ordered_from [] s = tt
ordered_from (v ∷ vs) s = (after_ordered v vs s.0, ordered_from vs s.1)

abbrev here : SortKey → List Item → ℕ
here p vs = count_of (λ v. is_eq (sort_cmp v.sort_key p)) vs

after_sorted : (v : Item) (vs : List Item) → here v.sort_key vs ≡ 0 → AllByRecursion (λ w. is_before w.sort_key v.sort_key ≡ false) vs → AllByRecursion (λ w. sort_cmp v.sort_key w.sort_key ≡ Less) vs
after_sorted v [] n h = tt
after_sorted v (w ∷ ws) n h =
    let apart : v.sort_key ≡ w.sort_key → ⊥ = λ q.
    let e : is_eq (sort_cmp w.sort_key v.sort_key) ≡ true = ap (λ p. is_eq (sort_cmp p v.sort_key)) (sym q) ∙ ap is_eq (cmp_itself v.sort_key) in
    let m : 1 ≤ here v.sort_key (w ∷ ws) = count_of_some (λ u. is_eq (sort_cmp u.sort_key v.sort_key)) w (w ∷ ws) (inl refl) e in omega (arith, m, n) in
    (less_from v.sort_key w.sort_key (apart_before v.sort_key w.sort_key h.0 apart), after_sorted v ws (omega (arith, n)) h.1)

pub sorted_from : (vs : List Item) → IsOrdered vs → IsDistinct vs → IsSorted vs
sorted_from [] o one = tt
sorted_from (v ∷ vs) o one =
    let e : is_eq (sort_cmp v.sort_key v.sort_key) ≡ true = ap is_eq (cmp_itself v.sort_key) in
    let h : (if is_eq (sort_cmp v.sort_key v.sort_key) then 1 else 0) + here v.sort_key vs ≤ 1 = one v.sort_key in
    let h' : 1 + here v.sort_key vs ≤ 1 = rw e at h in
    (after_sorted v vs (omega (arith, h')) o.0, sorted_from vs o.1 (λ p. let t : here p (v ∷ vs) ≤ 1 = one p in omega (arith, t)))

-- the merged list has no two at one place where the joined one hasn't
pub stored_distinct : (w : List Item) → IsDistinct w → IsDistinct (stored_items w)
stored_distinct w one p = let h = count_of-stored (λ v. is_eq (sort_cmp v.sort_key p)) w in let q : here p w ≤ 1 = one p in omega (arith, h, q)

-- ---- the stored list is ordered

all_with_item : (P : Item → Type 0) (v : Item) (xs : List Item) → P v → AllByRecursion P xs → AllByRecursion P (with_item v xs)
all_with_item P v [] p h = (p, tt)
all_with_item P v (x ∷ xs) p h =
    elim (cases_Bool (is_before x.sort_key v.sort_key)) [
      | inl y ↦ rw y (h.0, all_with_item P v xs p h.1)
      | inr y ↦ rw y (p, h)
    ]

pub rest_after : (v x : Item) (xs : List Item) → is_before x.sort_key v.sort_key ≡ false → AllByRecursion (λ w. is_before w.sort_key x.sort_key ≡ false) xs → AllByRecursion (λ w. is_before w.sort_key v.sort_key ≡ false) xs
rest_after v x [] l h = tt
rest_after v x (w ∷ ws) l h = (upto_upto v.sort_key x.sort_key w.sort_key l h.0, rest_after v x ws l h.1)

with_item_ordered : (v : Item) (xs : List Item) → IsOrdered xs → IsOrdered (with_item v xs)
with_item_ordered v [] o = (tt, tt)
with_item_ordered v (x ∷ xs) o =
    elim (cases_Bool (is_before x.sort_key v.sort_key)) [
      | inl y ↦ rw y (all_with_item (λ w. is_before w.sort_key x.sort_key ≡ false) v xs (before_back x.sort_key v.sort_key y) o.0, with_item_ordered v xs o.1)
      | inr y ↦ rw y ((y, rest_after v x xs y o.0), o)
    ]

pub stored_ordered : (w : List Item) → IsOrdered (stored_items w)
stored_ordered [] = tt
stored_ordered (x ∷ xs) = with_item_ordered x (stored_items xs) (stored_ordered xs)

-- ---- neighbours

pub past_end : (vs : List Item) (n : ℕ) → slice_get vs n ≡ None → suc n ≤ length vs → ⊥
past_end [] n e l = absurd (omega arith)
past_end (x ∷ xs) zero e l = cc
past_end (x ∷ xs) (suc n) e l = past_end xs n e (omega arith)

-- the one after a version isn't before it
pub next_upto : (vs : List Item) (n : ℕ) (v w : Item) → IsOrdered vs → slice_get vs n ≡ Some v → slice_get vs (suc n) ≡ Some w → is_before w.sort_key v.sort_key ≡ false
next_upto [] n v w o e f = absurd cc
next_upto (x ∷ xs) zero v w o e f =
    let q : x ≡ v = cc in
    ap (λ (u : Item). is_before w.sort_key u.sort_key) (sym q) ∙ In_after (λ u. is_before u.sort_key x.sort_key ≡ false) w xs o.0 (get_In xs zero w f)
next_upto (x ∷ xs) (suc n) v w o e f = next_upto xs n v w o.1 e f

-- ---- the ones below a place

pub none_low : (to : SortKey) (v : Item) (vs : List Item) → AllByRecursion (λ w. is_before w.sort_key v.sort_key ≡ false) vs → is_before v.sort_key to ≡ false → count_of (λ w. is_before w.sort_key to) vs ≡ 0
none_low to v [] h e = refl
none_low to v (w ∷ ws) h e =
    let y : is_before w.sort_key to ≡ false = upto_upto to v.sort_key w.sort_key e h.0 in
    rw y (let r : count_of (λ u. is_before u.sort_key to) ws ≡ 0 = none_low to v ws h.1 e in omega arith)

back_on : (to : SortKey) (x : Item) (xs : List Item) (w : Item) (n : ℕ) → slice_get (x ∷ xs) n ≡ Some w → is_before x.sort_key to ≡ true → (standing xs n ≡ Some w → is_before w.sort_key to ≡ true) → is_before w.sort_key to ≡ true
back_on to x xs w zero e y ih = let r : x ≡ w = cc in ap (λ (u : Item). is_before u.sort_key to) (sym r) ∙ y
back_on to x xs w (suc n) e y ih = ih e

no_item : (w : Item) → None ≡ Some w → ⊥
no_item w e = cc

pub below_back : (to : SortKey) (vs : List Item) (w : Item) → IsOrdered vs → standing vs (below to vs) ≡ Some w → is_before w.sort_key to ≡ true
below_back to [] w o e = absurd cc
below_back to (x ∷ xs) w o e =
    elim (cases_Bool (is_before x.sort_key to)) [
      | inl y ↦ (
          let n : below to (x ∷ xs) ≡ suc (below to xs) = rw y (omega arith) in
          back_on to x xs w (below to xs) (ap (standing (x ∷ xs)) (sym n) ∙ e) y (below_back to xs w o.1))
      | inr y ↦ (
          let z = none_low to x xs o.0 y in
          let n : below to (x ∷ xs) ≡ 0 = rw y (omega (arith, z)) in
          absurd (no_item w (ap (standing (x ∷ xs)) (sym n) ∙ e)))
    ]

pub below_front : (to : SortKey) (vs : List Item) (w : Item) → IsOrdered vs → slice_get vs (below to vs) ≡ Some w → is_before w.sort_key to ≡ false
below_front to [] w o e = absurd cc
below_front to (x ∷ xs) w o e =
    elim (cases_Bool (is_before x.sort_key to)) [
      | inl y ↦ (
          let n : below to (x ∷ xs) ≡ suc (below to xs) = rw y (omega arith) in
          below_front to xs w o.1 (ap (slice_get (x ∷ xs)) (sym n) ∙ e))
      | inr y ↦ (
          let z = none_low to x xs o.0 y in
          let n : below to (x ∷ xs) ≡ 0 = rw y (omega (arith, z)) in
          let q : Some x ≡ Some w = ap (slice_get (x ∷ xs)) (sym n) ∙ e in
          let r : x ≡ w = cc in ap (λ (u : Item). is_before u.sort_key to) (sym r) ∙ y)
    ]

-- ---- counts of a test that holds up to some place

none_pass : (q : Item → Bool) (v : Item) (vs : List Item) → ((u w : Item) → is_before w.sort_key u.sort_key ≡ false → q w ≡ true → q u ≡ true) → AllByRecursion (λ w. is_before w.sort_key v.sort_key ≡ false) vs → q v ≡ false → count_of q vs ≡ 0
none_pass q v [] down h e = refl
none_pass q v (w ∷ ws) down h e =
    elim (cases_Bool (q w)) [
      | inl y ↦ absurd (clash (q v) (down v w h.0 y) e)
      | inr y ↦ rw y (let r : count_of q ws ≡ 0 = none_pass q v ws down h.1 e in omega arith)
    ]

back_tail : (q : Item → Bool) (x : Item) (xs : List Item) (n : ℕ) → ((w : Item) → slice_get (x ∷ xs) n ≡ Some w → q w ≡ true) → (w : Item) → standing xs n ≡ Some w → q w ≡ true
back_tail q x xs zero b w e = absurd cc
back_tail q x xs (suc m) b w e = b w e

first_passes : (q : Item → Bool) → ((u w : Item) → is_before w.sort_key u.sort_key ≡ false → q w ≡ true → q u ≡ true) → (x : Item) (xs : List Item) (n : ℕ) → AllByRecursion (λ w. is_before w.sort_key x.sort_key ≡ false) xs → suc n ≤ length (x ∷ xs)
    → ((w : Item) → slice_get (x ∷ xs) n ≡ Some w → q w ≡ true) → (o : Option Item) → slice_get (x ∷ xs) n ≡ o → q x ≡ true
first_passes q down x xs n a l b None e = absurd (past_end (x ∷ xs) n e l)
first_passes q down x xs n a l b (Some w) e =
    elim (get_In (x ∷ xs) n w e) [
      | inl r ↦ ap q r ∙ b w e
      | inr i ↦ down x w (In_after (λ u. is_before u.sort_key x.sort_key ≡ false) w xs a i) (b w e)
    ]

-- exactly those that are passed pass it
pub count_cut : (q : Item → Bool) → ((u w : Item) → is_before w.sort_key u.sort_key ≡ false → q w ≡ true → q u ≡ true) → (vs : List Item) (p : ℕ) → IsOrdered vs → p ≤ length vs
    → ((w : Item) → standing vs p ≡ Some w → q w ≡ true) → ((w : Item) → slice_get vs p ≡ Some w → q w ≡ false) → count_of q vs ≡ p
count_cut q down [] p o l b f = omega arith
count_cut q down (x ∷ xs) zero o l b f =
    let y = f x refl in
    let z = none_pass q x xs down o.0 y in
    rw y (omega (arith, z))
count_cut q down (x ∷ xs) (suc n) o l b f =
    let y : q x ≡ true = first_passes q down x xs n o.0 (omega arith) b (slice_get (x ∷ xs) n) refl in
    let r = count_cut q down xs n o.1 (omega arith) (back_tail q x xs n b) f in
    rw y (omega (arith, r))

-- where no two of the lists' versions stand at one place, the merged list is strictly sorted
pub stored_sorted : (w : List Item) → IsDistinct w → IsSorted (stored_items w)
stored_sorted w one = sorted_from (stored_items w) (stored_ordered w) (stored_distinct w one)
