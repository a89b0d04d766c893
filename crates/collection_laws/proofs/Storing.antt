-- The stored order is total, and a list in it is fixed by what it holds.
use Rattle.std.proofs.Common.{◌≡◌, ℕ, zero, suc, ◌+◌, ◌<◌, ◌≤◌, Bool, true, false, cond, not, ◌&&◌, ◌||◌, List, [], ◌∷◌, length, get_or, refl, sym, ap, subst, ◌∙◌, ◌⊎◌, inl, inr, arith}
use Rattle.std.specs.Prelude.{◌==◌, nat_lt, nat_le, filter, map, if◌then◌else◌}
use Rattle.std.specs.List.{All, AllByRecursion, AllPairs, Contains, list_any, sum_by}
use Rattle.std.specs.List.Sorted.{IsPermutation}
use Rattle.std.specs.Str.{bytes_eq}
use Rattle.std.specs.Ordering.{nat_cmp, ordering_then, ordering_reverse, is_lt, is_eq}
use Rattle.std.specs.Cmp.{IsTotalOrder, IsStrictWeakOrder, on_total, back_total, then_total, nat_cmp_total, ranked}
use Rattle.std.specs.Cmp.Lexicographic.{slice_cmp, nat_list_cmp_total}
use Rattle.std.specs.declared.cmp.Ordering.{Ordering}
use Rattle.std.specs.declared.cmp.Ordering.TheVariants.{Less, Equal, Greater}
use Rattle.std.proofs.lemmas.Bool.{cases_Bool, and_parts}
use Rattle.std.proofs.lemmas.Bool.Decides.{nat_tests}
use Rattle.std.proofs.lemmas.Cmp.{tied_itself}
use Rattle.std.proofs.lemmas.List.Kept.{AllPairs-cons, AllPairs-filter}
use Rattle.std.proofs.lemmas.List.Sums.{sum_by-cons}
use Rattle.std.proofs.lemmas.List.Sorted.{Contains-permutation, IsPermutation-sym, ranks_by, sorted_far, sum_by-IsPermutation}
use Rattle.std.proofs.lemmas.Map.Lookups.{exact_bytes}
use Rattle.std.proofs.lemmas.Map.Text.{is_eq-slice_cmp}
use Rattle.std.proofs.lemmas.Slice.Eq.{bytes_eq-Decides}
use Rattle.ts_key.specs.Items.{item_of, items_of}
use Rattle.ts_key.specs.Lists.{IsSorted}
use Rattle.ts_key.specs.Order.{sort_cmp}
use Rattle.ts_key.specs.declared.numbers.Seq.{Seq}
use Rattle.ts_key.specs.declared.numbers.Ts.{Ts}
use Rattle.ts_key.specs.declared.version.Version.{Version}
use Rattle.udt_model.specs.declared.reply.KeySpan.{KeySpan}
use Rattle.udt_model.specs.Versions.{is_newer, is_put, up_to}
use Rattle.udt_model.specs.Orders.{is_below, is_version_before, is_in_some, with_version, stored}
use Rattle.collection_laws.specs.Places.{HaveOnePlace, AreApart, AreSortedByPlace, AreStored}
use Rattle.udt_model.specs.Collecting.{hides, is_hidden, is_seen_at, is_ever_seen, seen_of, is_put_below, is_useless, without_useless, collect}

-- ---- the order

-- how two versions stand to each other
abbrev pub version_cmp : Version → Version → Ordering
version_cmp a b = sort_cmp (item_of a).sort_key (item_of b).sort_key

pub version_cmp_total : IsTotalOrder version_cmp
version_cmp_total =
    then_total (on_total (λ (v : Version). v.key) nat_list_cmp_total)
    (then_total (back_total (on_total (λ (v : Version). v.ts.0) nat_cmp_total)) (back_total (on_total (λ (v : Version). v.seq.0) nat_cmp_total)))

then_lt : (x y : Ordering) → is_lt (ordering_then x y) ≡ (is_lt x || (is_eq x && is_lt y))
then_lt Less y = refl
then_lt Equal y = refl
then_lt Greater y = refl

lt_nat : (x y : ℕ) → is_lt (nat_cmp x y) ≡ nat_lt x y
lt_nat x y = on_tests (nat_lt x y) (x == y)
  where
    on_tests : (b c : Bool) → is_lt (cond b Less (cond c Equal Greater)) ≡ b
    on_tests true c = refl
    on_tests false true = refl
    on_tests false false = refl

eq_nat : (x y : ℕ) → is_eq (nat_cmp y x) ≡ (x == y)
eq_nat x y = on_tests (nat_lt y x) (y == x) (not_both x y) ∙ turned x y
  where
    on_tests : (b c : Bool) → (b ≡ true → c ≡ false) → is_eq (cond b Less (cond c Equal Greater)) ≡ c
    on_tests true c h = sym (h refl)
    on_tests false true h = refl
    on_tests false false h = refl

    not_both : (x y : ℕ) → nat_lt y x ≡ true → (y == x) ≡ false
    not_both x y h = grind (arith, nat_tests)

    turned : (x y : ℕ) → (y == x) ≡ (x == y)
    turned x y = grind (arith, nat_tests)

pub before_is : (a b : Version) → is_version_before a b ≡ is_lt (version_cmp a b)
before_is a b =
    sym (then_lt (slice_cmp nat_cmp a.key b.key) (ordering_then (nat_cmp b.ts.0 a.ts.0) (nat_cmp b.seq.0 a.seq.0))
    ∙ (λ i. is_below a.key b.key || (is_eq-slice_cmp a.key b.key i && (then_lt (nat_cmp b.ts.0 a.ts.0) (nat_cmp b.seq.0 a.seq.0)
    ∙ (λ j. lt_nat b.ts.0 a.ts.0 j || (eq_nat a.ts.0 b.ts.0 j && lt_nat b.seq.0 a.seq.0 j))) i)))

less_is : (o : Ordering) → is_lt o ≡ true → o ≡ Less
less_is Less h = refl
less_is Equal h = absurd cc
less_is Greater h = absurd cc

not_less : (o : Ordering) → is_lt o ≡ false → (o ≡ Equal) ⊎ (o ≡ Greater)
not_less Less h = absurd cc
not_less Equal h = inl refl
not_less Greater h = inr refl

pub before_less : (a b : Version) → is_version_before a b ≡ true → version_cmp a b ≡ Less
before_less a b h = less_is (version_cmp a b) (sym (before_is a b) ∙ h)

pub less_before : (a b : Version) → version_cmp a b ≡ Less → is_version_before a b ≡ true
less_before a b h = before_is a b ∙ ap is_lt h

pub before_trans : (a b c : Version) → is_version_before a b ≡ true → is_version_before b c ≡ true → is_version_before a c ≡ true
before_trans a b c h k = less_before a c (version_cmp_total.trans a b c (before_less a b h) (before_less b c k))

pub before_back : (a b : Version) → is_version_before a b ≡ true → is_version_before b a ≡ false
before_back a b h = before_is b a ∙ ap is_lt (version_cmp_total.antisymm b a ∙ ap ordering_reverse (before_less a b h))

pub before_itself : (a : Version) → is_version_before a a ≡ false
before_itself a = before_is a a ∙ ap is_lt (tied_itself version_cmp_total a)

then_equal : (a b : Ordering) → ordering_then a b ≡ Equal → (a ≡ Equal) × (b ≡ Equal)
then_equal Less b e = absurd cc
then_equal Equal b e = (refl, e)
then_equal Greater b e = absurd cc

nat_equal : (x y : ℕ) → nat_cmp x y ≡ Equal → x ≡ y
nat_equal x y e = ranked x y Equal (sym e)

pub equal_place : (a b : Version) → version_cmp a b ≡ Equal → HaveOnePlace a b
equal_place a b e =
    let p = then_equal (slice_cmp nat_cmp a.key b.key) (ordering_then (nat_cmp b.ts.0 a.ts.0) (nat_cmp b.seq.0 a.seq.0)) e in
    let q = then_equal (nat_cmp b.ts.0 a.ts.0) (nat_cmp b.seq.0 a.seq.0) p.1 in
    (exact_bytes a.key b.key p.0, sym (nat_equal b.ts.0 a.ts.0 q.0), sym (nat_equal b.seq.0 a.seq.0 q.1))

-- of two at different places the one stands before the other, or the other way round
pub apart_before : (a b : Version) → (HaveOnePlace a b → ⊥) → is_version_before a b ≡ false → is_version_before b a ≡ true
apart_before a b n h =
    elim (not_less (version_cmp a b) (sym (before_is a b) ∙ h)) [
      | inl e ↦ absurd (n (equal_place a b e))
      | inr g ↦ less_before b a (version_cmp_total.antisymm b a ∙ ap ordering_reverse g)
    ]

-- ---- what a list holds

-- v is one of the list
abbrev pub In : Version → List Version → Type 0
In v [] = ⊥
In v (x ∷ xs) = (v ≡ x) ⊎ In v xs

-- each of the one is one of the other
pub record HoldSame (xs ys : List Version) : Type 0 where
  pub to : (v : Version) → In v xs → In v ys
  pub back : (v : Version) → In v ys → In v xs

pub in_from : (xs : List Version) (v : Version) → Contains xs v → In v xs
in_from [] v h = let l = h.1 in absurd (omega (arith, l))
in_from (x ∷ xs) v h = at (in_from xs v) h.0 h.1 h.2
  where
    at : (Contains xs v → In v xs) → (k : ℕ) → k < length (x ∷ xs) → get_or (x ∷ xs) k v ≡ v → In v (x ∷ xs)
    at rest zero l e = inl (sym e)
    at rest (suc k) l e = inr (rest (k, omega (arith, l), e))

pub contains_from : (xs : List Version) (v : Version) → In v xs → Contains xs v
contains_from [] v h = absurd h
contains_from (x ∷ xs) v (inl e) = (0, omega arith, sym e)
contains_from (x ∷ xs) v (inr h) = let r = contains_from xs v h in let l = r.1 in (suc r.0, omega (arith, l), r.2)

pub same_from : (xs ys : List Version) → IsPermutation xs ys → HoldSame xs ys
same_from xs ys p = record {
  to = λ v h. in_from ys v (Contains-permutation xs ys v p (contains_from xs v h));
  back = λ v h. in_from xs v (Contains-permutation ys xs v (IsPermutation-sym xs ys p) (contains_from ys v h));
}

pub same_turned : (xs ys : List Version) → HoldSame xs ys → HoldSame ys xs
same_turned xs ys h = record { to = h.back; back = h.to }

pub same_through : (xs ys zs : List Version) → HoldSame xs ys → HoldSame ys zs → HoldSame xs zs
same_through xs ys zs h k = record { to = λ v p. k.to v (h.to v p); back = λ v p. h.back v (k.back v p) }

-- what holds of each holds of one
pub in_all : (P : Version → Type 0) (xs : List Version) (v : Version) → AllByRecursion P xs → In v xs → P v
in_all P [] v a h = absurd h
in_all P (x ∷ xs) v a (inl e) = subst P (sym e) a.0
in_all P (x ∷ xs) v a (inr h) = in_all P xs v a.1 h

pub all_in : (P : Version → Type 0) (xs : List Version) → ((v : Version) → In v xs → P v) → AllByRecursion P xs
all_in P [] h = tt
all_in P (x ∷ xs) h = (h x (inl refl), all_in P xs (λ v k. h v (inr k)))

pub all_from : (P : Version → Type 0) (xs : List Version) → All P xs → AllByRecursion P xs
all_from P [] h = tt
all_from P (x ∷ xs) h = (h 0 x (omega arith), all_from P xs (λ k d l. h (suc k) d (omega (arith, l))))

pub pairs_head : (R : Version → Version → Type 0) (x : Version) (xs : List Version) → AllPairs R (x ∷ xs) → AllByRecursion (R x) xs
pairs_head R x xs h = all_from (R x) xs (λ k d l. h 0 (suc k) d (omega arith) (omega (arith, l)))

pub pairs_tail : (R : Version → Version → Type 0) (x : Version) (xs : List Version) → AllPairs R (x ∷ xs) → AllPairs R xs
pairs_tail R x xs h = λ i j d a b. h (suc i) (suc j) d (omega (arith, a)) (omega (arith, b))

-- ---- a filter

pub in_filter : (p : Version → Bool) (xs : List Version) (v : Version) → In v (filter p xs) → In v xs × (p v ≡ true)
in_filter p [] v h = absurd h
in_filter p (x ∷ xs) v h = on (in_filter p xs v) (p x) refl h
  where
    on : (In v (filter p xs) → In v xs × (p v ≡ true)) → (b : Bool) → p x ≡ b → In v (cond b (x ∷ filter p xs) (filter p xs)) → In v (x ∷ xs) × (p v ≡ true)
    on rest true e (inl k) = (inl k, ap p k ∙ e)
    on rest true e (inr k) = let r = rest k in (inr r.0, r.1)
    on rest false e k = let r = rest k in (inr r.0, r.1)

pub in_filter_from : (p : Version → Bool) (xs : List Version) (v : Version) → In v xs → p v ≡ true → In v (filter p xs)
in_filter_from p [] v h e = absurd h
in_filter_from p (x ∷ xs) v (inl k) e = subst (λ b. In v (cond b (x ∷ filter p xs) (filter p xs))) (sym (sym (ap p k) ∙ e)) (inl k)
in_filter_from p (x ∷ xs) v (inr k) e = on (in_filter_from p xs v k e) (p x)
  where
    on : In v (filter p xs) → (b : Bool) → In v (cond b (x ∷ filter p xs) (filter p xs))
    on rest true = inr rest
    on rest false = rest

-- tests that agree keep the same of lists that hold the same
pub same_filter : (p q : Version → Bool) (xs ys : List Version) → HoldSame xs ys → ((v : Version) → p v ≡ q v) → HoldSame (filter p xs) (filter q ys)
same_filter p q xs ys h e = record {
  to = λ v k. let r = in_filter p xs v k in in_filter_from q ys v (h.to v r.0) (sym (e v) ∙ r.1);
  back = λ v k. let r = in_filter q ys v k in in_filter_from p xs v (h.back v r.0) (e v ∙ r.1);
}

pub any_in : (p : Version → Bool) (xs : List Version) (v : Version) → In v xs → p v ≡ true → list_any p xs ≡ true
any_in p [] v h e = absurd h
any_in p (x ∷ xs) v (inl k) e = ap (λ b. b || list_any p xs) (sym (ap p k) ∙ e)
any_in p (x ∷ xs) v (inr k) e = ap (λ b. p x || b) (any_in p xs v k e) ∙ or_true (p x)
  where
    or_true : (b : Bool) → (b || true) ≡ true
    or_true true = refl
    or_true false = refl

pub in_any : (p : Version → Bool) (xs : List Version) → list_any p xs ≡ true → (v : Version) × In v xs × (p v ≡ true)
in_any p [] h = absurd cc
in_any p (x ∷ xs) h =
    elim (cases_Bool (p x)) [
      | inl y ↦ (x, inl refl, y)
      | inr n ↦ let r = in_any p xs (sym (ap (λ b. b || list_any p xs) n) ∙ h) in (r.0, inr r.1, r.2)
    ]

pub same_any : (p : Version → Bool) (xs ys : List Version) → HoldSame xs ys → list_any p xs ≡ list_any p ys
same_any p xs ys h = both (list_any p xs) (list_any p ys)
    (λ e. let r = in_any p xs e in any_in p ys r.0 (h.to r.0 r.1) r.2)
    (λ e. let r = in_any p ys e in any_in p xs r.0 (h.back r.0 r.1) r.2)
  where
    both : (a b : Bool) → (a ≡ true → b ≡ true) → (b ≡ true → a ≡ true) → a ≡ b
    both true b f g = sym (f refl)
    both false true f g = g refl
    both false false f g = refl

pub all_filter : (P : Version → Type 0) (p : Version → Bool) (xs : List Version) → AllByRecursion P xs → AllByRecursion P (filter p xs)
all_filter P p xs h = all_in P (filter p xs) (λ v k. in_all P xs v h (in_filter p xs v k).0)

pub stored_filter : (p : Version → Bool) (xs : List Version) → AreStored xs → AreStored (filter p xs)
stored_filter p [] h = tt
stored_filter p (x ∷ xs) h = on (stored_filter p xs h.1) (p x)
  where
    on : AreStored (filter p xs) → (b : Bool) → AreStored (cond b (x ∷ filter p xs) (filter p xs))
    on rest true = (all_filter (λ w. is_version_before x w ≡ true) p xs h.0, rest)
    on rest false = rest

-- ---- a list in the stored order

in_with : (x v : Version) (os : List Version) → In x (with_version v os) → (x ≡ v) ⊎ In x os
in_with x v [] (inl e) = inl e
in_with x v [] (inr h) = absurd h
in_with x v (o ∷ os) h = on (in_with x v os) (is_version_before o v) h
  where
    on : (In x (with_version v os) → (x ≡ v) ⊎ In x os) → (b : Bool) → In x (if b then o ∷ with_version v os else v ∷ o ∷ os) → (x ≡ v) ⊎ In x (o ∷ os)
    on rest true (inl e) = inr (inl e)
    on rest true (inr k) = elim (rest k) [ inl e ↦ inl e | inr m ↦ inr (inr m) ]
    on rest false (inl e) = inl e
    on rest false (inr k) = inr k

with_in : (x v : Version) (os : List Version) → (x ≡ v) ⊎ In x os → In x (with_version v os)
with_in x v [] (inl e) = inl e
with_in x v [] (inr h) = absurd h
with_in x v (o ∷ os) h = on (with_in x v os) (is_version_before o v) h
  where
    on : ((x ≡ v) ⊎ In x os → In x (with_version v os)) → (b : Bool) → (x ≡ v) ⊎ In x (o ∷ os) → In x (if b then o ∷ with_version v os else v ∷ o ∷ os)
    on rest true (inl e) = inr (rest (inl e))
    on rest true (inr (inl e)) = inl e
    on rest true (inr (inr k)) = inr (rest (inr k))
    on rest false (inl e) = inl e
    on rest false (inr k) = inr k

pub same_stored : (vs : List Version) → HoldSame vs (stored vs)
same_stored vs = record { to = to vs; back = back vs }
  where
    to : (vs : List Version) (x : Version) → In x vs → In x (stored vs)
    to [] x h = h
    to (v ∷ vs) x (inl e) = with_in x v (stored vs) (inl e)
    to (v ∷ vs) x (inr h) = with_in x v (stored vs) (inr (to vs x h))

    back : (vs : List Version) (x : Version) → In x (stored vs) → In x vs
    back [] x h = h
    back (v ∷ vs) x h = elim (in_with x v (stored vs) h) [ inl e ↦ inl e | inr k ↦ inr (back vs x k) ]

with_sorted : (v : Version) (os : List Version) → AreStored os → AllByRecursion (λ o. HaveOnePlace v o → ⊥) os → AreStored (with_version v os)
with_sorted v [] s a = (tt, tt)
with_sorted v (o ∷ os) s a = on (with_sorted v os s.1 a.1) (is_version_before o v) refl
  where
    on : AreStored (with_version v os) → (b : Bool) → is_version_before o v ≡ b → AreStored (if b then o ∷ with_version v os else v ∷ o ∷ os)
    on rest true e = (
      all_in (λ w. is_version_before o w ≡ true) (with_version v os) (λ w k. elim (in_with w v os k) [
        | inl q ↦ ap (λ x. is_version_before o x) q ∙ e
        | inr m ↦ in_all (λ w. is_version_before o w ≡ true) os w s.0 m
      ]),
      rest,
    )
    on rest false e =
        let first : is_version_before v o ≡ true = apart_before o v (λ p. a.0 (sym p.0, sym p.1, sym p.2)) e in
        ((first, all_in (λ w. is_version_before v w ≡ true) os (λ w m. before_trans v o w first (in_all (λ w. is_version_before o w ≡ true) os w s.0 m))), s)

-- versions apart, put in order
pub stored_sorted : (vs : List Version) → AreApart vs → AreStored (stored vs)
stored_sorted [] a = tt
stored_sorted (v ∷ vs) a =
    with_sorted v (stored vs) (stored_sorted vs (pairs_tail (λ x y. HaveOnePlace x y → ⊥) v vs a))
    (all_in (λ o. HaveOnePlace v o → ⊥) (stored vs) (λ o k. in_all (λ o. HaveOnePlace v o → ⊥) vs o (pairs_head (λ x y. HaveOnePlace x y → ⊥) v vs a) ((same_stored vs).back o k)))

-- a list in order stays
pub stored_is : (vs : List Version) → AreStored vs → stored vs ≡ vs
stored_is [] s = refl
stored_is (v ∷ vs) s = ap (with_version v) (stored_is vs s.1) ∙ first vs s.0
  where
    first : (vs : List Version) → AllByRecursion (λ w. is_version_before v w ≡ true) vs → with_version v vs ≡ v ∷ vs
    first [] h = refl
    first (w ∷ ws) h = ap (λ b. if b then w ∷ with_version v ws else v ∷ w ∷ ws) (before_back v w h.0)

clash : (b : Bool) → b ≡ true → b ≡ false → ⊥
clash b x y = cc

-- two lists in order that hold the same are one
pub stored_once : (xs ys : List Version) → AreStored xs → AreStored ys → HoldSame xs ys → xs ≡ ys
stored_once [] [] s t h = refl
stored_once [] (y ∷ ys) s t h = absurd (h.back y (inl refl))
stored_once (x ∷ xs) [] s t h = absurd (h.to x (inl refl))
stored_once (x ∷ xs) (y ∷ ys) s t h =
    let e = same_head (h.to x (inl refl)) (h.back y (inl refl)) in
    let rest = stored_once xs ys s.1 t.1 (record {
      to = λ v k. later v y ys (λ q. never x v (e ∙ sym q) (in_all (λ w. is_version_before x w ≡ true) xs v s.0 k)) (h.to v (inr k));
      back = λ v k. later v x xs (λ q. never y v (sym e ∙ sym q) (in_all (λ w. is_version_before y w ≡ true) ys v t.0 k)) (h.back v (inr k));
    }) in
    λ i. e i ∷ rest i
  where
    never : (a b : Version) → a ≡ b → is_version_before a b ≡ true → ⊥
    never a b q k = clash (is_version_before a b) k (ap (λ w. is_version_before a w) (sym q) ∙ before_itself a)

    same_head : (x ≡ y) ⊎ In x ys → (y ≡ x) ⊎ In y xs → x ≡ y
    same_head (inl e) q = e
    same_head (inr k) (inl e) = sym e
    same_head (inr k) (inr m) =
        absurd (clash (is_version_before x y) (in_all (λ w. is_version_before x w ≡ true) xs y s.0 m) (before_back y x (in_all (λ w. is_version_before y w ≡ true) ys x t.0 k)))

    later : (v z : Version) (zs : List Version) → (v ≡ z → ⊥) → (v ≡ z) ⊎ In v zs → In v zs
    later v z zs n (inl e) = absurd (n e)
    later v z zs n (inr k) = k

-- versions apart have one order
pub stored_by_holding : (xs ys : List Version) → AreApart xs → AreStored ys → HoldSame xs ys → stored xs ≡ ys
stored_by_holding xs ys a s h = stored_once (stored xs) ys (stored_sorted xs a) s (same_through (stored xs) xs ys (same_turned xs (stored xs) (same_stored xs)) h)

-- ---- a collection goes by what a list holds

module _ (floor : Ts) (seqs : List Seq) (deeper : List KeySpan) where
  hidden_same : (xs ys : List Version) → HoldSame xs ys → (v : Version) → is_hidden xs floor v ≡ is_hidden ys floor v
  hidden_same xs ys h v = same_any (λ o. hides floor o v) xs ys h

  seen_at_same : (xs ys : List Version) → HoldSame xs ys → (v : Version) (ss : List Seq) → list_any (is_seen_at xs floor v) ss ≡ list_any (is_seen_at ys floor v) ss
  seen_at_same xs ys h v [] = refl
  seen_at_same xs ys h v (s ∷ ss) =
      λ i. (nat_le v.seq.0 s.0 && not (hidden_same (up_to s.0 xs) (up_to s.0 ys) (same_filter (λ u. nat_le u.seq.0 s.0) (λ u. nat_le u.seq.0 s.0) xs ys h (λ u. refl)) v i)) || seen_at_same xs ys h v ss i

  pub seen_same : (xs ys : List Version) → HoldSame xs ys → HoldSame (seen_of xs floor seqs) (seen_of ys floor seqs)
  seen_same xs ys h = same_filter (is_ever_seen xs floor seqs) (is_ever_seen ys floor seqs) xs ys h (λ v i. not (hidden_same xs ys h v i) || seen_at_same xs ys h v seqs i)

  pub kept_same : (xs ys : List Version) → HoldSame xs ys → HoldSame (without_useless floor deeper (seen_of xs floor seqs)) (without_useless floor deeper (seen_of ys floor seqs))
  kept_same xs ys h =
      let k = seen_same xs ys h in
      same_filter (λ v. not (is_useless (seen_of xs floor seqs) floor deeper v)) (λ v. not (is_useless (seen_of ys floor seqs) floor deeper v)) (seen_of xs floor seqs) (seen_of ys floor seqs) k
      (λ v. ap (λ b. not (not (is_put v.op) && nat_le v.ts.0 floor.0 && not (is_in_some deeper v.key) && not b)) (same_any (is_put_below v) (seen_of xs floor seqs) (seen_of ys floor seqs) k))

  -- of versions apart what is kept is kept of the same in order
  pub collect_by_order : (xs ys : List Version) → AreApart xs → AreStored ys → HoldSame xs ys → collect xs floor seqs deeper ≡ without_useless floor deeper (seen_of ys floor seqs)
  collect_by_order xs ys a s h =
      stored_by_holding (without_useless floor deeper (seen_of xs floor seqs)) (without_useless floor deeper (seen_of ys floor seqs))
      (AllPairs-filter (λ x y. HaveOnePlace x y → ⊥) (λ v. not (is_useless (seen_of xs floor seqs) floor deeper v)) (seen_of xs floor seqs)
      (AllPairs-filter (λ x y. HaveOnePlace x y → ⊥) (is_ever_seen xs floor seqs) xs a))
      (stored_filter (λ v. not (is_useless (seen_of ys floor seqs) floor deeper v)) (seen_of ys floor seqs) (stored_filter (is_ever_seen ys floor seqs) ys s))
      (kept_same xs ys h)

-- ---- a sorted list

pub before_ranks : IsStrictWeakOrder is_version_before
before_ranks = subst IsStrictWeakOrder (λ i x y. sym (before_is x y) i) (ranks_by version_cmp_total (λ (v : Version). v))

-- versions apart that are sorted stand in the stored order
pub stored_from : (vs : List Version) → AreSortedByPlace vs → AreApart vs → AreStored vs
stored_from [] o a = tt
stored_from (v ∷ vs) o a = (
  all_from (λ w. is_version_before v w ≡ true) vs (λ k d l. apart_before (get_or vs k d) v
      (λ p. a 0 (suc k) d (omega arith) (omega (arith, l)) (sym p.0, sym p.1, sym p.2))
      (sorted_far is_version_before before_ranks (v ∷ vs) o 0 (suc k) d (omega arith) (omega (arith, l)))),
  stored_from vs (λ k d l m. subst (λ i. is_version_before (get_or (v ∷ vs) i d) (get_or vs k d) ≡ false) (more k) (o (suc k) d (omega arith) (omega (arith, m)))) (pairs_tail (λ x y. HaveOnePlace x y → ⊥) v vs a),
)
  where
    more : (k : ℕ) → suc k + 1 ≡ suc (k + 1)
    more k = omega arith

-- ---- how many have a place

same_place : Version → Version → Bool
same_place a b = bytes_eq a.key b.key && (a.ts.0 == b.ts.0 && a.seq.0 == b.seq.0)

same_place_is : (a b : Version) → same_place a b ≡ true → HaveOnePlace a b
unfolding same_place
same_place_is a b h =
    let r = and_parts (bytes_eq a.key b.key) (a.ts.0 == b.ts.0 && a.seq.0 == b.seq.0) h in
    let q = and_parts (a.ts.0 == b.ts.0) (a.seq.0 == b.seq.0) r.1 in
    ((bytes_eq-Decides a.key b.key).0 r.0, equal_from a.ts.0 b.ts.0 q.0, equal_from a.seq.0 b.seq.0 q.1)
  where
    equal_from : (x y : ℕ) → (x == y) ≡ true → x ≡ y
    equal_from x y e = grind (arith, nat_tests)

place_is_same : (a b : Version) → HaveOnePlace a b → same_place a b ≡ true
unfolding same_place
place_is_same a b p = λ i. (bytes_eq-Decides a.key b.key).1 p.0 i && (test_from a.ts.0 b.ts.0 p.1 i && test_from a.seq.0 b.seq.0 p.2 i)
  where
    test_from : (x y : ℕ) → x ≡ y → (x == y) ≡ true
    test_from x y e = grind (arith, nat_tests)

abbrev one_at : Version → Version → ℕ
one_at v o = if same_place v o then 1 else 0

abbrev number_at : Version → List Version → ℕ
number_at v xs = sum_by (one_at v) xs

place_through : (v x o : Version) → HaveOnePlace v x → HaveOnePlace v o → HaveOnePlace x o
place_through v x o p q = (sym p.0 ∙ q.0, sym p.1 ∙ q.1, sym p.2 ∙ q.2)

at_cons : (v o : Version) (os : List Version) (b : Bool) → same_place v o ≡ b → number_at v (o ∷ os) ≡ (if b then 1 else 0) + number_at v os
at_cons v o os b e = sum_by-cons (one_at v) o os ∙ ap (λ c. (if c then 1 else 0) + number_at v os) e

none_at : (v x : Version) (xs : List Version) → HaveOnePlace v x → AllByRecursion (λ o. HaveOnePlace x o → ⊥) xs → number_at v xs ≡ 0
none_at v x [] p h = refl
none_at v x (o ∷ os) p h =
    elim (cases_Bool (same_place v o)) [
      | inl y ↦ absurd (h.0 (place_through v x o p (same_place_is v o y)))
      | inr n ↦ let e : number_at v (o ∷ os) ≡ 0 + number_at v os = at_cons v o os false n in let r = none_at v x os p h.1 in omega (arith, e, r)
    ]

few_at : (v : Version) (xs : List Version) → AreApart xs → number_at v xs ≤ 1
few_at v [] a = omega arith
few_at v (x ∷ xs) a =
    elim (cases_Bool (same_place v x)) [
      | inl y ↦
          let z = none_at v x xs (same_place_is v x y) (pairs_head (λ x y. HaveOnePlace x y → ⊥) x xs a) in
          let e : number_at v (x ∷ xs) ≡ 1 + number_at v xs = at_cons v x xs true y in
          omega (arith, z, e)
      | inr n ↦
          let r = few_at v xs (pairs_tail (λ x y. HaveOnePlace x y → ⊥) x xs a) in
          let e : number_at v (x ∷ xs) ≡ 0 + number_at v xs = at_cons v x xs false n in
          omega (arith, r, e)
    ]

one_there : (v : Version) (xs : List Version) (k : ℕ) (d : Version) → k < length xs → HaveOnePlace v (get_or xs k d) → 1 ≤ number_at v xs
one_there v [] k d l p = absurd (omega (arith, l))
one_there v (x ∷ xs) zero d l p =
    let e : number_at v (x ∷ xs) ≡ 1 + number_at v xs = at_cons v x xs true (place_is_same v x p) in
    omega (arith, e)
one_there v (x ∷ xs) (suc k) d l p =
    let r = one_there v xs k d (omega (arith, l)) p in
    let e : number_at v (x ∷ xs) ≡ one_at v x + number_at v xs = sum_by-cons (one_at v) x xs in
    omega (arith, r, e)

apart_from_few : (ys : List Version) → ((v : Version) → number_at v ys ≤ 1) → AreApart ys
apart_from_few [] h = λ i j d a b. absurd (omega (arith, b))
apart_from_few (y ∷ ys) h =
    AllPairs-cons (λ x y. HaveOnePlace x y → ⊥) y ys
    (λ k d l p.
    let r = one_there y ys k d l p in
    let f = h y in
    let e : number_at y (y ∷ ys) ≡ 1 + number_at y ys = at_cons y y ys true (place_is_same y y (refl, refl, refl)) in
    omega (arith, r, f, e))
    (apart_from_few ys (λ v. let f = h v in let e : number_at v (y ∷ ys) ≡ one_at v y + number_at v ys = sum_by-cons (one_at v) y ys in omega (arith, f, e)))

-- versions apart stay so in another order
pub apart_moved : (xs ys : List Version) → IsPermutation xs ys → AreApart xs → AreApart ys
apart_moved xs ys p a = apart_from_few ys (λ v. let f = few_at v xs a in let e = sum_by-IsPermutation (one_at v) xs ys p in omega (arith, f, e))

-- versions apart, put in order in another way
pub sorted_is_stored : (xs ys : List Version) → AreApart xs → IsPermutation xs ys → AreSortedByPlace ys → ys ≡ stored xs
sorted_is_stored xs ys a p o = sym (stored_by_holding xs ys a (stored_from ys o (apart_moved xs ys p a)) (same_from xs ys p))

-- ---- as items

-- versions whose items are sorted stand in the stored order, and the other way round
pub stored_from_sorted : (vs : List Version) → IsSorted (items_of vs) → AreStored vs
stored_from_sorted [] s = tt
stored_from_sorted (v ∷ vs) s = (each v vs s.0, stored_from_sorted vs s.1)
  where
    each : (v : Version) (ws : List Version) → AllByRecursion (λ i. sort_cmp (item_of v).sort_key i.sort_key ≡ Less) (items_of ws) → AllByRecursion (λ w. is_version_before v w ≡ true) ws
    each v [] h = tt
    each v (w ∷ ws) h = (less_before v w h.0, each v ws h.1)

pub sorted_from_stored : (vs : List Version) → AreStored vs → IsSorted (items_of vs)
sorted_from_stored [] s = tt
sorted_from_stored (v ∷ vs) s = (each v vs s.0, sorted_from_stored vs s.1)
  where
    each : (v : Version) (ws : List Version) → AllByRecursion (λ w. is_version_before v w ≡ true) ws → AllByRecursion (λ i. sort_cmp (item_of v).sort_key i.sort_key ≡ Less) (items_of ws)
    each v [] h = tt
    each v (w ∷ ws) h = (before_less v w h.0, each v ws h.1)
