-- Lists in which no number comes twice, and whose items are the same, are one in another order.
use Rattle.std.proofs.Common.{◌≡◌, ℕ, ◌+◌, ◌≤◌, ◌==◌, Bool, List, [], ◌∷◌, ◌++◌, map, refl, sym, ap, ◌∙◌, subst, arith, inl, inr}
use Rattle.std.specs.Prelude.{filter, if◌then◌else◌}
use Rattle.std.specs.List.{sum_by}
use Rattle.std.specs.List.Sorted.{IsPermutation}
use Rattle.std.proofs.lemmas.Bool.{cases_Bool, eq-eqb, eqb-true}
use Rattle.std.proofs.lemmas.List.Recursion.{is_sum_by}
use Rattle.std.proofs.lemmas.List.Sorted.{IsPermutation-cons, IsPermutation-middle, IsPermutation-refl, IsPermutation-sym, IsPermutation-trans, sum_by-IsPermutation}
use Rattle.floor_laws.proofs.Members.{In, In-append, In-left, In-map, In-right}
use Rattle.floor_laws.proofs.Tables.{Sorted}

-- how many have this number
abbrev pub times : {X : Type 0} → (X → ℕ) → ℕ → List X → ℕ
times number k [] = 0
times number k (x ∷ xs) = (if number x == k then 1 else 0) + times number k xs

-- no number comes twice
abbrev pub Once : {X : Type 0} → (X → ℕ) → List X → Type 0
Once number xs = (k : ℕ) → times number k xs ≤ 1

pub times-append : {X : Type 0} (number : X → ℕ) (k : ℕ) (xs ys : List X) → times number k (xs ++ ys) ≡ times number k xs + times number k ys
times-append number k [] ys = omega arith
times-append number k (x ∷ xs) ys = omega (arith, times-append number k xs ys)

pub times-map : {X Y : Type 0} (number : Y → ℕ) (f : X → Y) (k : ℕ) (xs : List X) → times number k (map f xs) ≡ times (λ (x : X). number (f x)) k xs
times-map number f k [] = refl
times-map number f k (x ∷ xs) = ap (λ (n : ℕ). (if number (f x) == k then 1 else 0) + n) (times-map number f k xs)

pub times-moved : {X : Type 0} (number : X → ℕ) (k : ℕ) (xs ys : List X) → IsPermutation xs ys → times number k ys ≡ times number k xs
times-moved {X} number k xs ys moved =
    let one : X → ℕ = λ x. if number x == k then 1 else 0 in
    let is : (zs : List X) → times number k zs ≡ sum_by one zs = is_sum_by (times number k) one refl (λ x zs. refl) in
    is ys ∙ sum_by-IsPermutation one xs ys moved ∙ sym (is xs)

pub times-some : {X : Type 0} (number : X → ℕ) (x : X) (xs : List X) → In x xs → 1 ≤ times number (number x) xs
times-some number x [] i = absurd i
times-some number x (y ∷ ys) (inl q) = let e = eq-eqb (number y) (number x) (ap number q) in rw e (omega arith)
times-some number x (y ∷ ys) (inr i) = let r = times-some number x ys i in omega (arith, r)

pub times-none : {X : Type 0} (number : X → ℕ) (k : ℕ) (xs : List X) → ((x : X) → In x xs → number x ≡ k → ⊥) → times number k xs ≡ 0
times-none number k [] h = refl
times-none number k (x ∷ xs) h = elim (cases_Bool (number x == k)) [
  | inl y ↦ absurd (h x (inl refl) (eqb-true (number x) k y))
  | inr y ↦ let r = times-none number k xs (λ z i. h z (inr i)) in rw y (omega (arith, r))
]

pub times-filter : {X : Type 0} (number : X → ℕ) (k : ℕ) (p : X → Bool) (xs : List X) → times number k (filter p xs) ≤ times number k xs
times-filter number k p [] = omega arith
times-filter number k p (x ∷ xs) =
    let r = times-filter number k p xs in
    elim (cases_Bool (p x)) [ inl y ↦ rw y (omega (arith, r)) | inr y ↦ rw y (omega (arith, r)) ]

-- numbers that ascend come once
pub once-sorted : {X : Type 0} (number : X → ℕ) (xs : List X) → Sorted (map number xs) → Once number xs
once-sorted number [] h = λ k. omega arith
once-sorted number (x ∷ xs) h = λ k.
    let r = once-sorted number xs h.1 k in
    elim (cases_Bool (number x == k)) [
      | inl y ↦
          let none = times-none number k xs (λ z i e. let l = h.0 (number z) (In-map number z xs i) in let q = eqb-true (number x) k y in omega (arith, l, e, q)) in
          rw y (omega (arith, none))
      | inr y ↦ rw y (omega (arith, r))
    ]

-- ---- the same items

pub record Split {X : Type 0} (x : X) (xs : List X) : Type 0 where
  pub front : List X
  pub back : List X
  pub is : xs ≡ front ++ x ∷ back

pub split_at : {X : Type 0} (x : X) (xs : List X) → In x xs → Split x xs
split_at x [] i = absurd i
split_at {X} x (y ∷ ys) (inl q) = record { front = []; back = ys; is = ap (λ (z : X). z ∷ ys) q }
split_at {X} x (y ∷ ys) (inr i) = let s = split_at x ys i in record { front = y ∷ s.front; back = s.back; is = ap (λ (zs : List X). y ∷ zs) s.is }

two_of : {X : Type 0} (number : X → ℕ) (x z : X) (front back : List X) → Once number (front ++ x ∷ back) → In z (front ++ back) → x ≡ z → ⊥
two_of number x z front back once i q =
    let a = once (number x) in
    let b = times-append number (number x) front (x ∷ back) in
    let c = times-append number (number x) front back in
    let d : 1 ≤ times number (number x) (front ++ back) = subst (λ (n : ℕ). 1 ≤ times number n (front ++ back)) (sym (ap number q)) (times-some number z (front ++ back) i) in
    let e : times number (number x) (x ∷ back) ≡ 1 + times number (number x) back = let y = eq-eqb (number x) (number x) refl in rw y refl in
    omega (arith, a, b, c, d, e)

pub same_once : {X : Type 0} (number : X → ℕ) (xs ys : List X) → Once number xs → Once number ys → ((x : X) → In x xs → In x ys) → ((x : X) → In x ys → In x xs) → IsPermutation xs ys
same_once number [] [] a b to from = IsPermutation-refl []
same_once number [] (y ∷ ys) a b to from = absurd (from y (inl refl))
same_once {X} number (x ∷ xs) ys a b to from =
    let s = split_at x ys (to x (inl refl)) in
    let l = s.front in
    let r = s.back in
    let once : Once number (l ++ x ∷ r) = subst (Once number) s.is b in
    let a2 : Once number xs = λ k. let u = a k in omega (arith, u) in
    let b2 : Once number (l ++ r) = λ k. let u = once k in let v = times-append number k l (x ∷ r) in let w = times-append number k l r in omega (arith, u, v, w) in
    let to2 : (z : X) → In z xs → In z (l ++ r) = λ z i. elim (In-append z l (x ∷ r) (subst (In z) s.is (to z (inr i)))) [
      | inl j ↦ In-left z l r j
      | inr j ↦ elim j [ inl q ↦ absurd (two_of number x z [] xs a i q) | inr k ↦ In-right z l r k ]
    ] in
    let from2 : (z : X) → In z (l ++ r) → In z xs = λ z i.
    let there : In z (l ++ x ∷ r) = elim (In-append z l r i) [ inl j ↦ In-left z l (x ∷ r) j | inr j ↦ In-right z l (x ∷ r) (inr j) ] in
    elim (from z (subst (In z) (sym s.is) there)) [ inl q ↦ absurd (two_of number x z l r once i q) | inr j ↦ j ] in
    IsPermutation-trans (x ∷ xs) (x ∷ (l ++ r)) ys (IsPermutation-cons x xs (l ++ r) (same_once number xs (l ++ r) a2 b2 to2 from2))
    (subst (IsPermutation (x ∷ (l ++ r))) (sym s.is) (IsPermutation-sym (l ++ x ∷ r) (x ∷ (l ++ r)) (IsPermutation-middle l x r)))
