-- The order of keys, and keys in spans.
use Rattle.std.proofs.Common.{◌≡◌, ℕ, Bool, true, false, not, ◌&&◌, ◌||◌, List, [], ◌∷◌, refl, sym, ap, ◌∙◌, arith, inl, inr, subst}
use Rattle.std.specs.Prelude.{◌==◌, nat_lt}
use Rattle.std.specs.Cmp.Lexicographic.{slice_cmp}
use Rattle.std.specs.Ordering.{nat_cmp, is_lt, is_le}
use Rattle.std.proofs.lemmas.Bool.{cases_Bool, false≢true, and_parts, and_from, or_left, or_right, or_cases, ltb-true, lt-ltb, eqb-true, eq-eqb, cases_order, or_parts}
use Rattle.std.proofs.lemmas.Bool.Decides.{nat_tests}
use Rattle.std.proofs.lemmas.Cmp.{same_from_slice_cmp}
use Rattle.ts_key.specs.declared.version.Version.{Version}
use Rattle.udt_model.specs.declared.reply.KeySpan.{KeySpan}
use Rattle.udt_model.specs.Orders.{is_below, is_at_most, is_in, meets, lower_of, higher_of, span_of_both, span_of_key, span_of}
use Rattle.floor_laws.proofs.Members.{In}

-- ---- the bytewise order, by recursion

abbrev pub key_le : List ℕ → List ℕ → Bool
key_le [] b = true
key_le (x ∷ xs) [] = false
key_le (x ∷ xs) (y ∷ ys) = nat_lt x y || (x == y && key_le xs ys)

abbrev key_lt : List ℕ → List ℕ → Bool
key_lt [] [] = false
key_lt [] (y ∷ ys) = true
key_lt (x ∷ xs) [] = false
key_lt (x ∷ xs) (y ∷ ys) = nat_lt x y || (x == y && key_lt xs ys)

pub at_most_is : (a b : List ℕ) → is_at_most a b ≡ key_le a b
at_most_is a b = same_from_slice_cmp nat_cmp is_le key_le refl (λ _ _. refl) (λ _ _. refl) (λ x y xs ys o h. grind (arith, nat_tests)) a b (slice_cmp nat_cmp a b) refl

below_is : (a b : List ℕ) → is_below a b ≡ key_lt a b
below_is a b = same_from_slice_cmp nat_cmp is_lt key_lt refl (λ _ _. refl) (λ _ _. refl) (λ x y xs ys o h. grind (arith, nat_tests)) a b (slice_cmp nat_cmp a b) refl

key_le_itself : (a : List ℕ) → key_le a a ≡ true
key_le_itself [] = refl
key_le_itself (x ∷ xs) = or_right (nat_lt x x) (x == x && key_le xs xs) (and_from (x == x) (key_le xs xs) (eq-eqb x x refl) (key_le_itself xs))

key_le_trans : (a b c : List ℕ) → key_le a b ≡ true → key_le b c ≡ true → key_le a c ≡ true
key_le_trans [] b c h k = refl
key_le_trans (x ∷ xs) [] c h k = absurd (false≢true h)
key_le_trans (x ∷ xs) (y ∷ ys) [] h k = absurd (false≢true k)
key_le_trans (x ∷ xs) (y ∷ ys) (z ∷ zs) h k =
    elim (or_cases (nat_lt x y) (x == y && key_le xs ys) h) [
      | inl a ↦ elim (or_cases (nat_lt y z) (y == z && key_le ys zs) k) [
        | inl b ↦ or_left (nat_lt x z) (x == z && key_le xs zs) (lt-ltb x z (omega (arith, ltb-true x y a, ltb-true y z b)))
        | inr b ↦ or_left (nat_lt x z) (x == z && key_le xs zs) (lt-ltb x z (let r = and_parts (y == z) (key_le ys zs) b in let e = eqb-true y z r.0 in omega (arith, ltb-true x y a, e)))
      ]
      | inr a ↦
          let r = and_parts (x == y) (key_le xs ys) a in
          let e = eqb-true x y r.0 in
          elim (or_cases (nat_lt y z) (y == z && key_le ys zs) k) [
            | inl b ↦ or_left (nat_lt x z) (x == z && key_le xs zs) (lt-ltb x z (omega (arith, ltb-true y z b, e)))
            | inr b ↦
                let s = and_parts (y == z) (key_le ys zs) b in
                or_right (nat_lt x z) (x == z && key_le xs zs) (and_from (x == z) (key_le xs zs) (eq-eqb x z (e ∙ eqb-true y z s.0)) (key_le_trans xs ys zs r.1 s.1))
          ]
    ]

key_le_same : (a b : List ℕ) → key_le a b ≡ true → key_le b a ≡ true → a ≡ b
key_le_same [] [] h k = refl
key_le_same [] (y ∷ ys) h k = absurd (false≢true k)
key_le_same (x ∷ xs) [] h k = absurd (false≢true h)
key_le_same (x ∷ xs) (y ∷ ys) h k =
    elim (or_cases (nat_lt x y) (x == y && key_le xs ys) h) [
      | inl a ↦ elim (or_cases (nat_lt y x) (y == x && key_le ys xs) k) [
        | inl b ↦ absurd (omega (arith, ltb-true x y a, ltb-true y x b))
        | inr b ↦ absurd (let e = eqb-true y x (and_parts (y == x) (key_le ys xs) b).0 in omega (arith, ltb-true x y a, e))
      ]
      | inr a ↦
          let r = and_parts (x == y) (key_le xs ys) a in
          let e = eqb-true x y r.0 in
          elim (or_cases (nat_lt y x) (y == x && key_le ys xs) k) [
            | inl b ↦ absurd (omega (arith, ltb-true y x b, e))
            | inr b ↦ let s = key_le_same xs ys r.1 (and_parts (y == x) (key_le ys xs) b).1 in ap (λ z. z ∷ xs) e ∙ ap (λ z. y ∷ z) s
          ]
    ]

key_lt_not : (a b : List ℕ) → key_lt a b ≡ not (key_le b a)
key_lt_not [] [] = refl
key_lt_not [] (y ∷ ys) = refl
key_lt_not (x ∷ xs) [] = refl
key_lt_not (x ∷ xs) (y ∷ ys) = let h = key_lt_not xs ys in grind (arith, nat_tests)

key_le_total : (a b : List ℕ) → key_le a b ≡ false → key_le b a ≡ true
key_le_total [] b h = absurd (false≢true (sym h))
key_le_total (x ∷ xs) [] h = refl
key_le_total (x ∷ xs) (y ∷ ys) h =
    let p = or_parts (nat_lt x y) (x == y && key_le xs ys) h in
    elim (cases_order x y) [
      | inl e ↦
          let no : key_le xs ys ≡ false = elim (cases_Bool (key_le xs ys)) [
            | inl z ↦ absurd (false≢true (sym p.1 ∙ and_from (x == y) (key_le xs ys) (eq-eqb x y e) z))
            | inr z ↦ z
          ] in
          or_right (nat_lt y x) (y == x && key_le ys xs) (and_from (y == x) (key_le ys xs) (eq-eqb y x (sym e)) (key_le_total xs ys no))
      | inr o ↦ elim o [
        | inl lt ↦ absurd (false≢true (sym p.0 ∙ lt-ltb x y lt))
        | inr lt ↦ or_left (nat_lt y x) (y == x && key_le ys xs) (lt-ltb y x lt)
      ]
    ]

pub at_most_total : (a b : List ℕ) → is_at_most a b ≡ false → is_at_most b a ≡ true
at_most_total a b y = at_most_is b a ∙ key_le_total a b (sym (at_most_is a b) ∙ y)

pub at_most_itself : (a : List ℕ) → is_at_most a a ≡ true
at_most_itself a = at_most_is a a ∙ key_le_itself a

pub at_most_trans : (a b c : List ℕ) → is_at_most a b ≡ true → is_at_most b c ≡ true → is_at_most a c ≡ true
at_most_trans a b c h k = at_most_is a c ∙ key_le_trans a b c (sym (at_most_is a b) ∙ h) (sym (at_most_is b c) ∙ k)

pub at_most_same : (a b : List ℕ) → is_at_most a b ≡ true → is_at_most b a ≡ true → a ≡ b
at_most_same a b h k = key_le_same a b (sym (at_most_is a b) ∙ h) (sym (at_most_is b a) ∙ k)

pub below_not : (a b : List ℕ) → is_below a b ≡ not (is_at_most b a)
below_not a b = below_is a b ∙ key_lt_not a b ∙ ap not (sym (at_most_is b a))

pub below_at_most : (a b : List ℕ) → is_below a b ≡ true → is_at_most a b ≡ true
below_at_most a b h =
    elim (cases_Bool (is_at_most a b)) [
      | inl y ↦ y
      | inr y ↦
          let k : is_below b a ≡ true = below_not b a ∙ ap not y in
          let n : is_at_most b a ≡ false = false_of (is_at_most b a) (sym (below_not a b) ∙ h) in
          let m : is_at_most b a ≡ true = at_most_total a b y in
          absurd (false≢true (sym n ∙ m))
    ] where
      false_of : (x : Bool) → not x ≡ true → x ≡ false
      false_of true e = absurd (false≢true e)
      false_of false e = refl

pub not_below : (a b : List ℕ) → is_below a b ≡ false → is_at_most b a ≡ true
not_below a b h =
    elim (cases_Bool (is_at_most b a)) [
      | inl y ↦ y
      | inr y ↦ absurd (false≢true (sym h ∙ below_not a b ∙ ap not y))
    ]

-- ---- the ends of spans

pub lower_left : (a b : List ℕ) → is_at_most (lower_of a b) a ≡ true
lower_left a b = elim (cases_Bool (is_below b a)) [ inl y ↦ rw y (below_at_most b a y) | inr y ↦ rw y (at_most_itself a) ]

pub lower_right : (a b : List ℕ) → is_at_most (lower_of a b) b ≡ true
lower_right a b = elim (cases_Bool (is_below b a)) [ inl y ↦ rw y (at_most_itself b) | inr y ↦ rw y (not_below b a y) ]

pub higher_left : (a b : List ℕ) → is_at_most a (higher_of a b) ≡ true
higher_left a b = elim (cases_Bool (is_below a b)) [ inl y ↦ rw y (below_at_most a b y) | inr y ↦ rw y (at_most_itself a) ]

pub higher_right : (a b : List ℕ) → is_at_most b (higher_of a b) ≡ true
higher_right a b = elim (cases_Bool (is_below a b)) [ inl y ↦ rw y (at_most_itself b) | inr y ↦ rw y (not_below a b y) ]

pub is_in_parts : (a : KeySpan) (k : List ℕ) → is_in a k ≡ true → (is_at_most a.low k ≡ true) × (is_at_most k a.high ≡ true)
is_in_parts a k h = and_parts (is_at_most a.low k) (is_at_most k a.high) h

pub is_in_from : (a : KeySpan) (k : List ℕ) → is_at_most a.low k ≡ true → is_at_most k a.high ≡ true → is_in a k ≡ true
is_in_from a k h g = and_from (is_at_most a.low k) (is_at_most k a.high) h g

pub joined_left : (a b : KeySpan) (k : List ℕ) → is_in a k ≡ true → is_in (span_of_both a b) k ≡ true
joined_left a b k h =
    let p = is_in_parts a k h in
    is_in_from (span_of_both a b) k (at_most_trans (lower_of a.low b.low) a.low k (lower_left a.low b.low) p.0) (at_most_trans k a.high (higher_of a.high b.high) p.1 (higher_left a.high b.high))

pub joined_right : (a b : KeySpan) (k : List ℕ) → is_in b k ≡ true → is_in (span_of_both a b) k ≡ true
joined_right a b k h =
    let p = is_in_parts b k h in
    is_in_from (span_of_both a b) k (at_most_trans (lower_of a.low b.low) b.low k (lower_right a.low b.low) p.0) (at_most_trans k b.high (higher_of a.high b.high) p.1 (higher_right a.high b.high))

span_of_one : (k : List ℕ) → is_in (span_of_key k) k ≡ true
span_of_one k = is_in_from (span_of_key k) k (at_most_itself k) (at_most_itself k)

-- a version's key lies in the span
pub span_has : (vs : List Version) (v : Version) → In v vs → is_in (span_of vs) v.key ≡ true
span_has [] v i = absurd i
span_has (x ∷ []) v (inl q) = subst (λ (z : Version). is_in (span_of_key x.key) z.key ≡ true) q (span_of_one x.key)
span_has (x ∷ []) v (inr i) = absurd i
span_has (x ∷ y ∷ ys) v (inl q) = subst (λ (z : Version). is_in (span_of (x ∷ y ∷ ys)) z.key ≡ true) q (joined_left (span_of_key x.key) (span_of (y ∷ ys)) x.key (span_of_one x.key))
span_has (x ∷ y ∷ ys) v (inr i) = joined_right (span_of_key x.key) (span_of (y ∷ ys)) v.key (span_has (y ∷ ys) v i)

pub meets_from : (k : List ℕ) (a b : KeySpan) → is_in a k ≡ true → is_in b k ≡ true → meets a b ≡ true
meets_from k a b h g =
    let p = is_in_parts a k h in
    let q = is_in_parts b k g in
    and_from (is_at_most a.low b.high) (is_at_most b.low a.high) (at_most_trans a.low k b.high p.0 q.1) (at_most_trans b.low k a.high q.0 p.1)

pub meets_swap : (a b : KeySpan) → meets a b ≡ true → meets b a ≡ true
meets_swap a b h = let p = and_parts (is_at_most a.low b.high) (is_at_most b.low a.high) h in and_from (is_at_most b.low a.high) (is_at_most a.low b.high) p.1 p.0

-- the ends of the span of versions are keys of theirs
pub record Ends (vs : List Version) : Type 0 where
  pub low : Version
  pub low_in : In low vs
  pub low_is : low.key ≡ (span_of vs).low
  pub high : Version
  pub high_in : In high vs
  pub high_is : high.key ≡ (span_of vs).high

pub ends_of : (x : Version) (xs : List Version) → Ends (x ∷ xs)
ends_of x [] = record { low = x; low_in = inl refl; low_is = refl; high = x; high_in = inl refl; high_is = refl }
ends_of x (y ∷ ys) =
    let r = ends_of y ys in
    let lo : (v : Version) × In v (x ∷ y ∷ ys) × (v.key ≡ lower_of x.key (span_of (y ∷ ys)).low) =
    elim (cases_Bool (is_below (span_of (y ∷ ys)).low x.key)) [
      | inl b ↦ (r.low, inr r.low_in, rw b r.low_is)
      | inr b ↦ (x, inl refl, rw b refl)
    ] in
    let hi : (v : Version) × In v (x ∷ y ∷ ys) × (v.key ≡ higher_of x.key (span_of (y ∷ ys)).high) =
    elim (cases_Bool (is_below x.key (span_of (y ∷ ys)).high)) [
      | inl b ↦ (r.high, inr r.high_in, rw b r.high_is)
      | inr b ↦ (x, inl refl, rw b refl)
    ] in
    record { low = lo.0; low_in = lo.1; low_is = lo.2; high = hi.0; high_in = hi.1; high_is = hi.2 }
