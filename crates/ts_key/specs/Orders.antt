-- The stored order is total, and tells any two sort keys apart.
use Rattle.std.proofs.Common.{◌≡◌, ℕ, Bool, true, false, refl, sym, ap, ◌∙◌, ◌⊎◌, inl, inr}
use Rattle.std.specs.Ordering.{nat_cmp, ordering_then, ordering_reverse, is_lt, is_eq}
use Rattle.std.specs.Cmp.{IsTotalOrder, on_total, back_total, then_total, nat_cmp_total, ranked}
use Rattle.std.specs.Cmp.Lexicographic.{slice_cmp, nat_list_cmp_total}
use Rattle.std.specs.declared.cmp.Ordering.{Ordering}
use Rattle.std.specs.declared.cmp.Ordering.TheVariants.{Less, Equal, Greater}
use Rattle.std.proofs.lemmas.Map.Lookups.{exact_bytes}
use Rattle.ts_key.specs.Order.{SortKey, sort_cmp, is_before}

pub sort_cmp_total : IsTotalOrder sort_cmp
sort_cmp_total = then_total (on_total (λ (p : SortKey). p.key) nat_list_cmp_total) (then_total (back_total (on_total (λ (p : SortKey). p.ts) nat_cmp_total)) (back_total (on_total (λ (p : SortKey). p.seq) nat_cmp_total)))

then_equal : (a b : Ordering) → ordering_then a b ≡ Equal → (a ≡ Equal) × (b ≡ Equal)
then_equal Less b e = absurd cc
then_equal Equal b e = (refl, e)
then_equal Greater b e = absurd cc

nat_equal : (x y : ℕ) → nat_cmp x y ≡ Equal → x ≡ y
nat_equal x y e = ranked x y Equal (sym e)

pub sort_cmp_equal : (a b : SortKey) → sort_cmp a b ≡ Equal → a ≡ b
sort_cmp_equal a b e =
    let p = then_equal (slice_cmp nat_cmp a.key b.key) (ordering_then (nat_cmp b.ts a.ts) (nat_cmp b.seq a.seq)) e in
    let q = then_equal (nat_cmp b.ts a.ts) (nat_cmp b.seq a.seq) p.1 in
    let k : a.key ≡ b.key = exact_bytes a.key b.key p.0 in
    let t : b.ts ≡ a.ts = nat_equal b.ts a.ts q.0 in
    let s : b.seq ≡ a.seq = nat_equal b.seq a.seq q.1 in
    λ i. record { key = k i; ts = sym t i; seq = sym s i }

-- the same of a comparison part by part
pub parts_equal : (a b : SortKey) → ordering_then (ordering_then (slice_cmp nat_cmp a.key b.key) (nat_cmp b.ts a.ts)) (nat_cmp b.seq a.seq) ≡ Equal → a ≡ b
parts_equal a b e =
    let p = then_equal (ordering_then (slice_cmp nat_cmp a.key b.key) (nat_cmp b.ts a.ts)) (nat_cmp b.seq a.seq) e in
    let q = then_equal (slice_cmp nat_cmp a.key b.key) (nat_cmp b.ts a.ts) p.0 in
    let k : a.key ≡ b.key = exact_bytes a.key b.key q.0 in
    let t : b.ts ≡ a.ts = nat_equal b.ts a.ts q.1 in
    let s : b.seq ≡ a.seq = nat_equal b.seq a.seq p.1 in
    λ i. record { key = k i; ts = sym t i; seq = sym s i }

-- ---- the order as a test

pub is_Less : (o : Ordering) → is_lt o ≡ true → o ≡ Less
is_Less Less e = refl
is_Less Equal e = absurd cc
is_Less Greater e = absurd cc

pub is_Equal : (o : Ordering) → is_eq o ≡ true → o ≡ Equal
is_Equal Less e = absurd cc
is_Equal Equal e = refl
is_Equal Greater e = absurd cc

pub before_from : (a b : SortKey) → sort_cmp a b ≡ Less → is_before a b ≡ true
before_from a b e = ap is_lt e

pub less_from : (a b : SortKey) → is_before a b ≡ true → sort_cmp a b ≡ Less
less_from a b e = is_Less (sort_cmp a b) e

pub before_trans : (a b c : SortKey) → is_before a b ≡ true → is_before b c ≡ true → is_before a c ≡ true
before_trans a b c x y = before_from a c (sort_cmp_total.trans a b c (less_from a b x) (less_from b c y))

self_back : (o : Ordering) → o ≡ ordering_reverse o → o ≡ Equal
self_back Less e = absurd cc
self_back Equal e = refl
self_back Greater e = absurd cc

pub cmp_itself : (a : SortKey) → sort_cmp a a ≡ Equal
cmp_itself a = self_back (sort_cmp a a) (sort_cmp_total.antisymm a a)

pub before_itself : (a : SortKey) → is_before a a ≡ false
before_itself a = ap is_lt (cmp_itself a)

-- how two places stand to each other
cases_on : (o : Ordering) (a b : SortKey) → sort_cmp a b ≡ o → sort_cmp b a ≡ ordering_reverse o → (is_before a b ≡ true) ⊎ ((a ≡ b) ⊎ (is_before b a ≡ true))
cases_on Less a b x y = inl (ap is_lt x)
cases_on Equal a b x y = inr (inl (sort_cmp_equal a b x))
cases_on Greater a b x y = inr (inr (ap is_lt y))

pub cases_before : (a b : SortKey) → (is_before a b ≡ true) ⊎ ((a ≡ b) ⊎ (is_before b a ≡ true))
cases_before a b = cases_on (sort_cmp a b) a b refl (sort_cmp_total.antisymm b a)

true_false : (b : Bool) → b ≡ true → b ≡ false → ⊥
true_false b x y = cc

before_back_on : (o : Bool) (a b : SortKey) → is_before a b ≡ true → is_before b a ≡ o → o ≡ false
before_back_on true a b x y = absurd (true_false (is_before a a) (before_trans a b a x y) (before_itself a))
before_back_on false a b x y = refl

pub before_back : (a b : SortKey) → is_before a b ≡ true → is_before b a ≡ false
before_back a b x = before_back_on (is_before b a) a b x refl

-- a isn't after b, which is before c
pub upto_before : (a b c : SortKey) → is_before b a ≡ false → is_before b c ≡ true → is_before a c ≡ true
upto_before a b c x y =
    elim (cases_before a b) [
      | inl l ↦ before_trans a b c l y
      | inr r ↦ elim r [ inl e ↦ ap (λ p. is_before p c) e ∙ y | inr l ↦ absurd (true_false (is_before b a) l x) ]
    ]

pub before_upto : (a b c : SortKey) → is_before a b ≡ true → is_before c b ≡ false → is_before a c ≡ true
before_upto a b c x y =
    elim (cases_before b c) [
      | inl l ↦ before_trans a b c x l
      | inr r ↦ elim r [ inl e ↦ ap (λ p. is_before a p) (sym e) ∙ x | inr l ↦ absurd (true_false (is_before c b) l y) ]
    ]

upto_on : (o : Bool) (a b c : SortKey) → is_before b a ≡ false → is_before c b ≡ false → is_before c a ≡ o → o ≡ false
upto_on true a b c x y z = absurd (true_false (is_before c b) (before_upto c a b z x) y)
upto_on false a b c x y z = refl

pub upto_upto : (a b c : SortKey) → is_before b a ≡ false → is_before c b ≡ false → is_before c a ≡ false
upto_upto a b c x y = upto_on (is_before c a) a b c x y refl

pub apart_before : (a b : SortKey) → is_before b a ≡ false → (a ≡ b → ⊥) → is_before a b ≡ true
apart_before a b x n =
    elim (cases_before a b) [
      | inl l ↦ l
      | inr r ↦ elim r [ inl e ↦ absurd (n e) | inr l ↦ absurd (true_false (is_before b a) l x) ]
    ]
