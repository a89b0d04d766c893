-- Steps of the loops over memtables and families.
use Rattle.std.proofs.Common.{◌≡◌, ℕ, zero, suc, ◌+◌, ◌*◌, ◌^◌, ◌<◌, ◌≤◌, ◌==◌, true, false, List, [], ◌∷◌, ◌++◌, get_or, length, map, Some, refl, sym, ap, subst, arith, inl, inr}
use Rattle.std.specs.Prelude.{nat_lt, not, slice_get}
use Rattle.std.specs.List.{flat_map}
use Rattle.std.proofs.Math.Nat.{pow-suc}
use Rattle.std.proofs.lemmas.Bool.{cases_Bool, lt-ltb, ne_eqb}
use Rattle.ts_key.specs.declared.version.Version.{Version}
use Rattle.memtable.specs.Memtables.{Memtable, joined, versions_of_memtable}
use Rattle.sorted_run.specs.Sorts.{sorted}
use Rattle.super_version.specs.declared.family.FamilyState.{FamilyState}
use Rattle.store_engine.specs.Dropping.{lets_go, needs_log}

-- ---- whether a memtable has a version

pub none_run : (m : Memtable) → length m.runs ≡ 0 → length (versions_of_memtable m) ≡ 0
none_run m none = ap (λ runs. length (sorted (joined runs))) (empty m.runs none) where
  empty : (runs : List (List Version)) → length runs ≡ 0 → runs ≡ []
  empty [] e = refl
  empty (r ∷ runs) e = absurd (omega (arith, e))

pub runs_some : (m : Memtable) (count : ℕ) → count ≡ length m.runs → 2 ^ count ≤ length (versions_of_memtable m) + 1 → nat_lt 0 count ≡ not (length (versions_of_memtable m) == 0)
runs_some m zero is few = let n = none_run m (sym is) in let q : (length (versions_of_memtable m) == 0) ≡ true = ap (λ k. k == 0) n in rw q refl
runs_some m (suc count) is few =
    let up : 1 ≤ 2 ^ count = pow_some count in
    let double : 2 ^ suc count ≡ 2 ^ count * 2 = pow-suc 2 count in
    let q : (length (versions_of_memtable m) == 0) ≡ false = ne_eqb (length (versions_of_memtable m)) 0 (λ z. omega (arith, few, up, double, z)) in
    let more : nat_lt 0 (suc count) ≡ true = lt-ltb 0 (suc count) (omega arith) in
    rw (q, more) refl where
      pow_some : (k : ℕ) → 1 ≤ 2 ^ k
      pow_some zero = omega arith
      pow_some (suc k) = let r = pow_some k in let d : 2 ^ suc k ≡ 2 ^ k * 2 = pow-suc 2 k in omega (arith, r, d)

some_first : (xs ys : List Version) → not (length xs == 0) ≡ true → not (length (xs ++ ys) == 0) ≡ true
some_first [] ys e = absurd (cc)
some_first (x ∷ xs) ys e = let q : (length ((x ∷ xs) ++ ys) == 0) ≡ false = ne_eqb (length ((x ∷ xs) ++ ys)) 0 (λ z. omega (arith, z)) in rw q refl

some_second : (xs ys : List Version) → not (length ys == 0) ≡ true → not (length (xs ++ ys) == 0) ≡ true
some_second [] ys e = e
some_second (x ∷ xs) ys e = some_first (x ∷ xs) ys (let q : (length (x ∷ xs) == 0) ≡ false = ne_eqb (length (x ∷ xs)) 0 (λ z. omega (arith, z)) in rw q refl)

-- where one of the memtables has a version, there is one among all
pub some_among : (ms : List Memtable) (i : ℕ) (m : Memtable) → slice_get ms i ≡ Some m → not (length (versions_of_memtable m) == 0) ≡ true → not (length (flat_map versions_of_memtable ms) == 0) ≡ true
some_among [] i m there some = absurd (cc)
some_among (x ∷ xs) zero m there some = let q : m ≡ x = cc in some_first (versions_of_memtable x) (flat_map versions_of_memtable xs) (subst (λ (z : Memtable). not (length (versions_of_memtable z) == 0) ≡ true) q some)
some_among (x ∷ xs) (suc i) m there some = some_second (versions_of_memtable x) (flat_map versions_of_memtable xs) (some_among xs i m there some)

-- ---- families

pub lets_push : (last : ℕ) (fs : List FamilyState) (f : FamilyState) → lets_go last fs ≡ true → needs_log last f ≡ false → lets_go last (fs ++ f ∷ []) ≡ true
lets_push last [] f all none = rw none refl
lets_push last (x ∷ xs) f all none = elim (cases_Bool (needs_log last x)) [
  | inl y ↦ let e : false ≡ true = rw y at all in absurd (cc)
  | inr y ↦ let e : lets_go last xs ≡ true = rw y at all in rw y (lets_push last xs f e none)
]

pub lets_not : (last : ℕ) (fs : List FamilyState) (i : ℕ) (f : FamilyState) → slice_get fs i ≡ Some f → needs_log last f ≡ true → lets_go last fs ≡ false
lets_not last [] i f there needs = absurd (cc)
lets_not last (x ∷ xs) zero f there needs = let q : x ≡ f = cc in let y : needs_log last x ≡ true = subst (λ (z : FamilyState). needs_log last z ≡ true) (sym q) needs in rw y refl
lets_not last (x ∷ xs) (suc i) f there needs = elim (cases_Bool (needs_log last x)) [
  | inl y ↦ rw y refl
  | inr y ↦ rw y (lets_not last xs i f there needs)
]

pub get-mapped : {A B : Type 0} (f : A → B) (xs : List A) (i : ℕ) (x : A) → i < length xs → x ≡ get_or xs i x → slice_get (map f xs) i ≡ Some (f x)
get-mapped f [] i x l e = absurd (omega (arith, l))
get-mapped f (y ∷ ys) zero x l e = ap (λ z. Some (f z)) (sym e)
get-mapped f (y ∷ ys) (suc i) x l e = get-mapped f ys i x (omega (arith, l)) e
