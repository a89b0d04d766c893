-- Sorting by numbers: the result is known.
use Rattle.std.proofs.Common.{◌≡◌, ℕ, suc, ◌<◌, ◌≤◌, Bool, true, false, not, ◌&&◌, List, [], ◌∷◌, length, get_or, refl, sym, ap, ◌∙◌, arith, inl, inr}
use Rattle.std.specs.Prelude.{◌==◌, nat_lt, filter}
use Rattle.std.specs.List.{AllByRecursion}
use Rattle.std.specs.List.Sorted.{IsNonDecreasingBy, IsStableByKey, ties}
use Rattle.std.specs.Ordering.{nat_cmp, is_lt}
use Rattle.std.proofs.lemmas.Bool.{cases_Bool, cases_order, eq-eqb, ltb-true, lt-ltb}
use Rattle.std.proofs.lemmas.Bool.Decides.{nat_tests}
use Rattle.compaction.specs.Plans.{Leveled, with_leveled, by_number}

abbrev number : Leveled → ℕ
number t = t.table.number

-- of the same number as another
abbrev same : Leveled → Leveled → Bool
same z t = number t == number z

-- ---- lists whose numbers don't fall

abbrev Rises : List Leveled → Type 0
Rises [] = Unit {0}
Rises (t ∷ ts) = AllByRecursion (λ o. number t ≤ number o) ts × Rises ts

all_at : (P : Leveled → Type 0) (ts : List Leveled) → ((j : ℕ) (d : Leveled) → j < length ts → P (get_or ts j d)) → AllByRecursion P ts
all_at P [] h = tt
all_at P (t ∷ ts) h = (h 0 t (omega arith), all_at P ts (λ j d l. h (suc j) d (omega (arith, l))))

rises_from : (ts : List Leveled) → IsNonDecreasingBy number ts → Rises ts
rises_from [] h = tt
rises_from (t ∷ ts) h = (
  all_at (λ o. number t ≤ number o) ts (λ j d l. h 0 (suc j) d (omega arith) (omega (arith, l))),
  rises_from ts (λ i j d le l. h (suc i) (suc j) d (omega (arith, le)) (omega (arith, l))),
)

all_more : (P Q : Leveled → Type 0) (ts : List Leveled) → ((t : Leveled) → P t → Q t) → AllByRecursion P ts → AllByRecursion Q ts
all_more P Q [] f h = tt
all_more P Q (t ∷ ts) f h = (f t h.0, all_more P Q ts f h.1)

all_with : (P : Leveled → Type 0) (t : Leveled) (ts : List Leveled) → P t → AllByRecursion P ts → AllByRecursion P (with_leveled t ts)
all_with P t [] p h = (p, tt)
all_with P t (o ∷ os) p h =
    elim (cases_Bool (nat_lt (number o) (number t))) [
      | inl y ↦ rw y (h.0, all_with P t os p h.1)
      | inr y ↦ rw y (p, h)
    ]

le_from : (a b : ℕ) → nat_lt a b ≡ false → b ≤ a
le_from a b h = grind (arith, nat_tests, h)

lt_from : (a b : ℕ) → nat_lt a b ≡ true → a < b
lt_from a b h = ltb-true a b h

rises_with : (t : Leveled) (ts : List Leveled) → Rises ts → Rises (with_leveled t ts)
rises_with t [] h = (tt, tt)
rises_with t (o ∷ os) h =
    elim (cases_Bool (nat_lt (number o) (number t))) [
      | inl y ↦ let l : number o ≤ number t = (let k = lt_from (number o) (number t) y in omega (arith, k)) in rw y (all_with (λ z. number o ≤ number z) t os l h.0, rises_with t os h.1)
      | inr y ↦ let l : number t ≤ number o = le_from (number o) (number t) y in rw y ((l, all_more (λ z. number o ≤ number z) (λ z. number t ≤ number z) os (λ z k. omega (arith, l, k)) h.0), h)
    ]

rises_sorted : (ts : List Leveled) → Rises (by_number ts)
rises_sorted [] = tt
rises_sorted (t ∷ ts) = rises_with t (by_number ts) (rises_sorted ts)

-- ---- of one number the order stays

not_same : (a b k : ℕ) → a < b → (a == k) ≡ true → (b == k) ≡ false
not_same a b k l h = grind (arith, nat_tests, l, h)

filter_with : (z t : Leveled) (ts : List Leveled) → filter (same z) (with_leveled t ts) ≡ filter (same z) (t ∷ ts)
filter_with z t [] = refl
filter_with z t (o ∷ os) =
    elim (cases_Bool (nat_lt (number o) (number t))) [
      | inl y ↦ elim (cases_Bool (same z o)) [
        | inl s ↦
            let n : same z t ≡ false = not_same (number o) (number t) (number z) (lt_from (number o) (number t) y) s in
            let ih : filter (same z) (with_leveled t os) ≡ filter (same z) os = filter_with z t os ∙ (rw n refl) in
            rw y (rw (s, n) (ap (λ r. o ∷ r) ih))
        | inr s ↦ rw y (rw s (filter_with z t os))
      ]
      | inr y ↦ rw y refl
    ]

filter_head : (z t : Leveled) (ts us : List Leveled) → filter (same z) ts ≡ filter (same z) us → filter (same z) (t ∷ ts) ≡ filter (same z) (t ∷ us)
filter_head z t ts us e = elim (cases_Bool (same z t)) [ inl y ↦ rw y (ap (λ r. t ∷ r) e) | inr y ↦ rw y e ]

filter_sorted : (z : Leveled) (ts : List Leveled) → filter (same z) (by_number ts) ≡ filter (same z) ts
filter_sorted z [] = refl
filter_sorted z (t ∷ ts) = filter_with z t (by_number ts) ∙ filter_head z t (by_number ts) ts (filter_sorted z ts)

-- ---- what is known of a list by both

same_itself : (z : Leveled) → same z z ≡ true
same_itself z = eq-eqb (number z) (number z) refl

none_above : (z : Leveled) (ts : List Leveled) → AllByRecursion (λ o. number z < number o) ts → filter (same z) ts ≡ []
none_above z [] h = refl
none_above z (t ∷ ts) h =
    let l : number z < number t = h.0 in
    let n : same z t ≡ false = grind (arith, nat_tests, l) in
    rw n (none_above z ts h.1)

head_of : (t u : Leveled) (ts us : List Leveled) → t ∷ ts ≡ u ∷ us → t ≡ u
head_of t u ts us e = cc

tail_of : (t u : Leveled) (ts us : List Leveled) → t ∷ ts ≡ u ∷ us → ts ≡ us
tail_of t u ts us e = cc

kept_head : (z t : Leveled) (ts : List Leveled) → same z t ≡ true → filter (same z) (t ∷ ts) ≡ t ∷ filter (same z) ts
kept_head z t ts e = rw e refl

lost_head : (z t : Leveled) (ts : List Leveled) → same z t ≡ false → filter (same z) (t ∷ ts) ≡ filter (same z) ts
lost_head z t ts e = rw e refl

above_all : (t u : Leveled) (us : List Leveled) → number t < number u → AllByRecursion (λ o. number u ≤ number o) us → AllByRecursion (λ o. number t < number o) (u ∷ us)
above_all t u us l h = (l, all_more (λ o. number u ≤ number o) (λ o. number t < number o) us (λ o k. omega (arith, l, k)) h)

some_none : (t : Leveled) (ts us : List Leveled) → filter (same t) (t ∷ ts) ≡ filter (same t) us → filter (same t) us ≡ [] → ⊥
some_none t ts us e n = let k : t ∷ filter (same t) ts ≡ [] = sym (kept_head t t ts (same_itself t)) ∙ e ∙ n in cc

abbrev Alike : List Leveled → List Leveled → Type 0
Alike ts us = (z : Leveled) → filter (same z) ts ≡ filter (same z) us

tails_alike : (t : Leveled) (ts us : List Leveled) → Alike (t ∷ ts) (t ∷ us) → Alike ts us
tails_alike t ts us h z =
    elim (cases_Bool (same z t)) [
      | inl y ↦ tail_of t t (filter (same z) ts) (filter (same z) us) (sym (kept_head z t ts y) ∙ h z ∙ kept_head z t us y)
      | inr y ↦ sym (lost_head z t ts y) ∙ h z ∙ lost_head z t us y
    ]

one_list : (ts us : List Leveled) → Rises ts → Rises us → Alike ts us → ts ≡ us
one_list [] [] r s h = refl
one_list [] (u ∷ us) r s h = absurd (some_none u us [] (sym (h u)) refl)
one_list (t ∷ ts) [] r s h = absurd (some_none t ts [] (h t) refl)
one_list (t ∷ ts) (u ∷ us) r s h =
    elim (cases_order (number t) (number u)) [
      | inl e ↦
          let y : same t u ≡ true = eq-eqb (number u) (number t) (sym e) in
          let hd : t ≡ u = head_of t u (filter (same t) ts) (filter (same t) us) (sym (kept_head t t ts (same_itself t)) ∙ h t ∙ kept_head t u us y) in
          let more : Alike (t ∷ ts) (t ∷ us) = λ z. h z ∙ ap (λ o. filter (same z) (o ∷ us)) (sym hd) in
          ap (λ o. o ∷ ts) hd ∙ ap (λ l. u ∷ l) (one_list ts us r.1 s.1 (tails_alike t ts us more))
      | inr o ↦ elim o [
        | inl l ↦ absurd (some_none t ts (u ∷ us) (h t) (none_above t (u ∷ us) (above_all t u us l s.0)))
        | inr l ↦ absurd (some_none u us (t ∷ ts) (sym (h u)) (none_above u (t ∷ ts) (above_all u t ts l r.0)))
      ]
    ]

-- ---- what a stable sort gives

tie_is : (z t : Leveled) → ties (λ (x y : Leveled). is_lt (nat_cmp (number x) (number y))) z t ≡ same z t
tie_is z t = tie (number z) (number t)
  where
    tie : (a b : ℕ) → (not (is_lt (nat_cmp a b)) && not (is_lt (nat_cmp b a))) ≡ (b == a)
    tie a b = elim (cases_order a b) [
      | inl e ↦ (let y : nat_lt a b ≡ false = grind (arith, nat_tests, e) in let z : nat_lt b a ≡ false = grind (arith, nat_tests, e) in let x : (a == b) ≡ true = eq-eqb a b e in let w : (b == a) ≡ true = eq-eqb b a (sym e) in rw (y, z, x, w) refl)
      | inr o ↦ elim o [
        | inl l ↦ (let y : nat_lt a b ≡ true = lt-ltb a b l in let w : (b == a) ≡ false = grind (arith, nat_tests, l) in rw (y, w) refl)
        | inr l ↦ (let y : nat_lt a b ≡ false = grind (arith, nat_tests, l) in let z : nat_lt b a ≡ true = lt-ltb b a l in let x : (a == b) ≡ false = grind (arith, nat_tests, l) in let w : (b == a) ≡ false = grind (arith, nat_tests, l) in rw (y, z, x, w) refl)
      ]
    ]

filter_alike : (p q : Leveled → Bool) → ((t : Leveled) → p t ≡ q t) → (ts : List Leveled) → filter p ts ≡ filter q ts
filter_alike p q h [] = refl
filter_alike p q h (t ∷ ts) = let e = h t in let ih = filter_alike p q h ts in elim (cases_Bool (q t)) [ inl y ↦ (let x : p t ≡ true = e ∙ y in rw (x, y) (ap (λ l. t ∷ l) ih)) | inr y ↦ (let x : p t ≡ false = e ∙ y in rw (x, y) ih) ]

pub sorted_is : (ts us : List Leveled) → IsNonDecreasingBy number us → IsStableByKey number nat_cmp ts us → us ≡ by_number ts
sorted_is ts us up stable =
    one_list us (by_number ts) (rises_from us up) (rises_sorted ts) (λ z.
    filter_alike (same z) (ties (λ (x y : Leveled). is_lt (nat_cmp (number x) (number y))) z) (λ t. sym (tie_is z t)) us
    ∙ stable z
    ∙ filter_alike (ties (λ (x y : Leveled). is_lt (nat_cmp (number x) (number y))) z) (same z) (tie_is z) ts
    ∙ sym (filter_sorted z ts))
