-- How many versions of a list pass a test.
use Rattle.std.proofs.Common.{◌≡◌, ℕ, zero, suc, ◌+◌, ◌<◌, ◌≤◌, Bool, true, false, List, [], ◌∷◌, ◌++◌, length, Some, refl, ap, subst, ◌∙◌, ◌⊎◌, inl, inr, arith}
use Rattle.std.specs.Prelude.{if◌then◌else◌, slice_get}
use Rattle.std.specs.List.{AllByRecursion}
use Rattle.std.specs.declared.cmp.Ordering.TheVariants.{Less}
use Rattle.std.proofs.lemmas.Bool.{cases_Bool}
use Rattle.ts_key.specs.Order.{SortKey, sort_cmp, is_before}
use Rattle.ts_key.specs.Items.{Item}
use Rattle.ts_key.specs.Lists.{count_of, with_item, stored_items}
use Rattle.ts_key.specs.Orders.{before_from, before_trans}

abbrev pub In : Item → List Item → Type 0
In v [] = ⊥
In v (x ∷ xs) = (x ≡ v) ⊎ In v xs

pub get_In : (vs : List Item) (i : ℕ) (v : Item) → slice_get vs i ≡ Some v → In v vs
get_In [] i v e = absurd cc
get_In (x ∷ xs) zero v e = inl cc
get_In (x ∷ xs) (suc i) v e = inr (get_In xs i v e)

-- ---- counts over joined lists

pub count_of-append : (p : Item → Bool) (xs ys : List Item) → count_of p (xs ++ ys) ≡ count_of p xs + count_of p ys
count_of-append p [] ys = omega arith
count_of-append p (x ∷ xs) ys = omega (arith, count_of-append p xs ys)

pub count_of-with_item : (p : Item → Bool) (v : Item) (xs : List Item) → count_of p (with_item v xs) ≡ (if p v then 1 else 0) + count_of p xs
count_of-with_item p v [] = refl
count_of-with_item p v (x ∷ xs) =
    elim (cases_Bool (is_before x.sort_key v.sort_key)) [
      | inl y ↦ rw y (omega (arith, count_of-with_item p v xs))
      | inr y ↦ rw y refl
    ]

pub count_of-stored : (p : Item → Bool) (xs : List Item) → count_of p (stored_items xs) ≡ count_of p xs
count_of-stored p [] = refl
count_of-stored p (x ∷ xs) = count_of-with_item p x (stored_items xs) ∙ ap (λ n. (if p x then 1 else 0) + n) (count_of-stored p xs)

pub length-with_item : (v : Item) (xs : List Item) → length (with_item v xs) ≡ suc (length xs)
length-with_item v [] = refl
length-with_item v (x ∷ xs) =
    elim (cases_Bool (is_before x.sort_key v.sort_key)) [
      | inl y ↦ rw y (ap suc (length-with_item v xs))
      | inr y ↦ rw y refl
    ]

pub length-stored : (xs : List Item) → length (stored_items xs) ≡ length xs
length-stored [] = refl
length-stored (x ∷ xs) = length-with_item x (stored_items xs) ∙ ap suc (length-stored xs)

pub count_of_within : (p : Item → Bool) (vs : List Item) → count_of p vs ≤ length vs
count_of_within p [] = omega arith
count_of_within p (v ∷ vs) =
    let h = count_of_within p vs in
    elim (cases_Bool (p v)) [ inl y ↦ rw y (omega arith) | inr y ↦ rw y (omega arith) ]

pub count_of_some : (p : Item → Bool) (v : Item) (vs : List Item) → In v vs → p v ≡ true → 1 ≤ count_of p vs
count_of_some p v [] h e = absurd h
count_of_some p v (x ∷ xs) (inl q) e = let y : p x ≡ true = ap p q ∙ e in rw y (omega arith)
count_of_some p v (x ∷ xs) (inr h) e = let r = count_of_some p v xs h e in omega arith

pub count_of_more : (p q : Item → Bool) → ((v : Item) → p v ≡ true → q v ≡ true) → (vs : List Item) → count_of p vs ≤ count_of q vs
count_of_more p q h [] = omega arith
count_of_more p q h (v ∷ vs) =
    let r = count_of_more p q h vs in
    elim (cases_Bool (p v)) [
      | inl y ↦ let z = h v y in rw (y, z) (omega arith)
      | inr y ↦ rw y (omega arith)
    ]

-- ---- a sorted list

-- a version has as many before it as its index says
pub none_before : (to : SortKey) (v : Item) (vs : List Item) → AllByRecursion (λ w. sort_cmp v.sort_key w.sort_key ≡ Less) vs → is_before v.sort_key to ≡ false → count_of (λ w. is_before w.sort_key to) vs ≡ 0
none_before to v [] h e = refl
none_before to v (w ∷ ws) h e =
    elim (cases_Bool (is_before w.sort_key to)) [
      | inl y ↦ absurd (let z : is_before v.sort_key to ≡ true = before_trans v.sort_key w.sort_key to (before_from v.sort_key w.sort_key h.0) y in cc)
      | inr y ↦ rw y (let r : count_of (λ u. is_before u.sort_key to) ws ≡ 0 = none_before to v ws h.1 e in omega arith)
    ]

pub In_after : (P : Item → Type 0) (v : Item) (vs : List Item) → AllByRecursion P vs → In v vs → P v
In_after P v [] h i = absurd i
In_after P v (x ∷ xs) h (inl q) = let e : P x = h.0 in (λ (y : Item) (r : x ≡ y). subst P r e) v q
In_after P v (x ∷ xs) h (inr i) = In_after P v xs h.1 i

pub get_inside : (vs : List Item) (i : ℕ) (v : Item) → slice_get vs i ≡ Some v → i < length vs
get_inside [] i v e = absurd cc
get_inside (x ∷ xs) zero v e = omega arith
get_inside (x ∷ xs) (suc i) v e = let r = get_inside xs i v e in omega arith
