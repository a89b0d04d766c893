-- Lists that get one more.
use Rattle.std.proofs.Common.{◌≡◌, ◌⊎◌, inl, inr, ℕ, zero, suc, ◌+◌, ◌<◌, ◌≤◌, Bool, true, List, [], ◌∷◌, ◌++◌, length, map, get_or, Some, refl, sym, ap, ◌∙◌, subst, arith, length-append}
use Rattle.std.specs.Prelude.{IfOk, Result, Ok, Err, nat_lt, slice_get}
use Rattle.std.specs.Cmp.{IsStrictWeakOrder}
use Rattle.std.specs.List.{list_all}
use Rattle.std.specs.List.Sorted.{IsSortedBy, IsPermutation}
use Rattle.std.proofs.lemmas.Bool.{and_parts, ne_eqb}
use Rattle.std.proofs.lemmas.Cmp.{nat_list_cmp_total}
use Rattle.std.proofs.lemmas.List.{get_or-map, length-map, map-append}
use Rattle.std.proofs.lemmas.List.Sorted.{IsPermutation-map}
use Rattle.std.proofs.lemmas.List.MinMax.{ranks_by, IsStrictWeakOrder-flip, IsStrictWeakOrder-by_number}
use Rattle.ts_key.specs.declared.version.Version.{Version}
use Rattle.sorted_run.specs.Sorts.{sorted}
use Rattle.memtable.specs.Memtables.{KeepsRuns, Memtable}
use Rattle.manifest_fold.specs.declared.fold.FamilyFold.{FamilyFold}
use Rattle.super_version.specs.Levels.{table_properties, stands_before}
use Rattle.super_version.specs.Live.{Live}
use Rattle.super_version.specs.Writes.{of_family}
use Rattle.super_version.specs.declared.family.FamilyState.{FamilyState}
use Rattle.recovery.specs.Versions.{AreLevels, AreStates, IsLevel, ShowsFamily, family_number, is_own, level_tables}
use Rattle.recovery.specs.declared.tables.Opened.{Opened}
use Rattle.ts_key.specs.declared.numbers.Family.{Family}

-- what stands at an index of a list with one more
pub get_push : {X : Type 0} (xs : List X) (x y : X) (i : ℕ) → slice_get (xs ++ x ∷ []) i ≡ Some y → (slice_get xs i ≡ Some y) ⊎ ((i ≡ length xs) × (x ≡ y))
get_push [] x y zero e = let same : x ≡ y = cc in inr (refl, same)
get_push [] x y (suc i) e = absurd cc
get_push (z ∷ xs) x y zero e = inl e
get_push (z ∷ xs) x y (suc i) e =
    elim (get_push xs x y i e) [
      | inl before ↦ inl before
      | inr last ↦ inr (ap suc last.0, last.1)
    ]

length_push : {X : Type 0} (xs : List X) (x : X) (n : ℕ) → length xs ≡ n → length (xs ++ x ∷ []) ≡ n + 1
length_push xs x n e = length-append xs (x ∷ []) ∙ ap (λ (k : ℕ). k + 1) e

-- one level more
pub level_more : (family : Family) (opened : List Opened) (n : ℕ) (levels : List (List Live)) (shown : List Live) → AreLevels family opened n levels → IsLevel n (level_tables family n opened) shown → AreLevels family opened (n + 1) (levels ++ shown ∷ [])
level_more family opened n levels shown so_far level = record {
  all = length_push levels shown n so_far.all;
  each = λ l other there.
      elim (get_push levels shown other l there) [
        | inl before ↦ so_far.each l other before
        | inr last ↦ subst (λ (k : ℕ). IsLevel k (level_tables family k opened) other) (sym (last.0 ∙ so_far.all)) (subst (IsLevel n (level_tables family n opened)) last.1 level)
      ];
}

-- one family more
pub state_more : (opened : List Opened) (versions : List Version) (families : List FamilyFold) (n : ℕ) (states : List FamilyState) (f : FamilyFold) (state : FamilyState) → AreStates opened versions families n states
    → slice_get families n ≡ Some f → ShowsFamily (family_number n) opened versions f state → AreStates opened versions families (n + 1) (states ++ state ∷ [])
state_more opened versions families n states f state so_far here shows = record {
  all = length_push states state n so_far.all;
  each = λ i g other of there.
      elim (get_push states state other i there) [
        | inl before ↦ so_far.each i g other of before
        | inr last ↦
            let at : i ≡ n = last.0 ∙ so_far.all in
            let same : Some f ≡ Some g = sym here ∙ subst (λ (k : ℕ). slice_get families k ≡ Some g) at of in
            let one : f ≡ g = cc in
            subst (λ (k : ℕ). ShowsFamily (family_number k) opened versions g other) (sym at) (subst (λ (h : FamilyFold). ShowsFamily (family_number n) opened versions h other) one (subst (ShowsFamily (family_number n) opened versions f) last.1 shows))
      ];
}

-- what stands in a list at an index
pub get_at : {X : Type 0} (xs : List X) (i : ℕ) (x : X) → i < length xs → x ≡ get_or xs i x → slice_get xs i ≡ Some x
get_at [] i x within is = absurd (omega (arith, within))
get_at (y ∷ ys) zero x within is = ap (λ z. Some z) (sym is)
get_at (y ∷ ys) (suc i) x within is = get_at ys i x (omega (arith, within)) is

-- ---- the order of a level

newest_order : IsStrictWeakOrder (stands_before 0)
newest_order = IsStrictWeakOrder-flip (λ (x : Live) (y : Live). nat_lt (table_properties x).greatest_seq.0 (table_properties y).greatest_seq.0) (IsStrictWeakOrder-by_number (λ (t : Live). (table_properties t).greatest_seq.0))

pub least_order : IsStrictWeakOrder (stands_before 1)
least_order = ranks_by nat_list_cmp_total (λ (t : Live). (table_properties t).least)

pulled : {A : Type 0} (f : A → Live) (lt : Live → Live → Bool) → IsStrictWeakOrder lt → IsStrictWeakOrder (λ (a : A) (b : A). lt (f a) (f b))
pulled f lt o = record { one_way = λ x y. o.one_way (f x) (f y); chain = λ x y z. o.chain (f x) (f y) (f z) }

pub newest_on : {A : Type 0} (f : A → Live) → IsStrictWeakOrder (λ (a : A) (b : A). stands_before 0 (f a) (f b))
newest_on f = pulled f (stands_before 0) newest_order

pub least_on : {A : Type 0} (f : A → Live) → IsStrictWeakOrder (λ (a : A) (b : A). stands_before 1 (f a) (f b))
least_on f = pulled f (stands_before 1) least_order

sorted_map : {X Y : Type 0} (f : X → Y) (lt : Y → Y → Bool) (xs : List X) → IsSortedBy (λ (a : X) (b : X). lt (f a) (f b)) xs → IsSortedBy lt (map f xs)
sorted_map f lt [] sorted = λ k d low within. absurd (omega (arith, within))
sorted_map f lt (x ∷ xs) sorted = λ k d low within.
    let many : length (map f (x ∷ xs)) ≡ length (x ∷ xs) = simp length-map in
    let next : k + 1 < length (x ∷ xs) = omega (arith, within, many) in
    let here : k < length (x ∷ xs) = omega (arith, next) in
    ap (λ z. lt z (get_or (map f (x ∷ xs)) k d)) (get_or-map f (x ∷ xs) (k + 1) x d next)
    ∙ ap (λ z. lt (f (get_or (x ∷ xs) (k + 1) x)) z) (get_or-map f (x ∷ xs) k x d here) ∙ sorted k x low next

pub level_from : {A : Type 0} (f : A → Live) (kind : ℕ) (xs ys : List A) → IsPermutation xs ys → IsSortedBy (λ (a : A) (b : A). stands_before kind (f a) (f b)) ys → IsLevel kind (map f xs) (map f ys)
level_from f kind xs ys moved sorted = record { same = IsPermutation-map f xs ys moved; order = sorted_map f (stands_before kind) ys sorted }

-- a level of one kind
pub level_of_kind : (level kind : ℕ) (tables from shown to : List Live) → ((a b : Live) → stands_before level a b ≡ stands_before kind a b) → IsLevel kind from to → from ≡ tables → shown ≡ to → IsLevel level tables shown
level_of_kind level kind tables from shown to alike sorted is there = record {
  same = subst (λ (l : List Live). IsPermutation l shown) is (subst (IsPermutation from) (sym there) sorted.same);
  order = subst (IsSortedBy (stands_before level)) (sym there) (λ k d low within. alike (get_or to (k + 1) d) (get_or to k d) ∙ sorted.order k d low within);
}

pub on_newest : (level : ℕ) → level ≡ 0 → (a b : Live) → stands_before level a b ≡ stands_before 0 a b
on_newest level is a b = ap (λ (k : ℕ). stands_before k a b) is

pub on_deeper : (level : ℕ) → (level ≡ 0 → ⊥) → (a b : Live) → stands_before level a b ≡ stands_before 1 a b
on_deeper level apart a b = rw (ne_eqb level 0 apart) refl

-- ---- shared items

pub shared_push : {A X : Type 0} (f : A → X) (xs ys : List A) (a : A) (x : X) → ys ≡ xs ++ a ∷ [] → f a ≡ x → map f ys ≡ map f xs ++ x ∷ []
shared_push f xs ys a x is one = ap (map f) is ∙ map-append f xs (a ∷ []) ∙ ap (λ z. map f xs ++ z ∷ []) one

-- where all versions are of one family, they are its own
pub own_alone : (family : Family) (vs : List Version) → list_all (is_own family) vs ≡ true → of_family family vs ≡ vs
own_alone family [] all = refl
own_alone family (v ∷ vs) all =
    let both = and_parts (is_own family v) (list_all (is_own family) vs) all in
    let own = both.0 in
    rw own (ap (λ r. v ∷ r) (own_alone family vs both.1))

-- a memtable of versions alone has them in one run
pub one_run : {E : Type 0} (vs : List Version) (old : Memtable) (r : Result Memtable E) → old.runs ≡ [] → (vs ≡ [] → IfOk r (λ m. m ≡ old)) → (1 ≤ length vs → IfOk r (λ m. KeepsRuns vs old.runs m.runs)) → IfOk r (λ m. length m.runs ≤ 1)
one_run vs old (Err e) none copy keeps = tt
one_run [] old (Ok m) none copy keeps =
    let count : length m.runs ≡ 0 = ap (λ (k : Memtable). length k.runs) (copy refl) ∙ ap (λ (rs : List (List Version)). length rs) none in
    omega (arith, count)
one_run (v ∷ vs) old (Ok m) none copy keeps =
    let runs : m.runs ≡ sorted (v ∷ vs) ∷ [] = subst (λ (rs : List (List Version)). KeepsRuns (v ∷ vs) rs m.runs) none (keeps (omega arith)) in
    let count : length m.runs ≡ 1 = ap (λ (rs : List (List Version)). length rs) runs in
    omega (arith, count)
