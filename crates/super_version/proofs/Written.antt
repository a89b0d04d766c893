-- Versions that operations make, family by family.
use Rattle.std.proofs.Common.{◌≡◌, ℕ, zero, suc, ◌+◌, ◌<◌, true, cond, List, [], ◌∷◌, ◌++◌, length, get_or, take, refl, sym, ap, ◌∙◌, inl, inr, arith}
use Rattle.std.specs.Prelude.{◌==◌, All}
use Rattle.std.specs.List.{AllByRecursion}
use Rattle.std.proofs.lemmas.Bool.{cases_Bool}
use Rattle.std.proofs.lemmas.Bool.Decides.{nat_tests}
use Rattle.std.proofs.lemmas.List.Elements.{filter-append, All-from_recursion}
use Rattle.ts_key.specs.declared.numbers.Family.{Family}
use Rattle.ts_key.specs.declared.batch.WriteOp.{WriteOp}
use Rattle.ts_key.specs.declared.version.Version.{Version}
use Rattle.sorted_run.specs.Sorts.{sorted}
use Rattle.sorted_run.proofs.Sorting.{sorted_again}
use Rattle.memtable.specs.Memtables.{joined, versions_of_memtable}
use Rattle.udt_model.specs.Versions.{logged, version_of}
use Rattle.super_version.specs.declared.family.FamilyState.{FamilyState}
use Rattle.super_version.specs.Writes.{AreWrittenTo, IsWrittenTo, of_family}

-- one operation more
pub logged_more : (ops : List WriteOp) (n i : ℕ) (op : WriteOp) → i < length ops → op ≡ get_or ops i op → logged n (take (i + 1) ops) ≡ logged n (take i ops) ++ version_of op (n + i) ∷ []
logged_more [] n i op l e = absurd (omega arith)
logged_more (o ∷ os) n zero op l e = let m : n + 0 ≡ n = omega arith in rw m (ap (λ (x : WriteOp). version_of x n ∷ []) (sym e))
logged_more (o ∷ os) n (suc i) op l e =
    let k : suc i + 1 ≡ suc (i + 1) = omega arith in
    let m : n + suc i ≡ n + 1 + i = omega arith in
    rw (k, m) (ap (λ (vs : List Version). version_of o n ∷ vs) (logged_more os (n + 1) i op (omega arith) e))

pub own_more : (family : Family) (ops : List WriteOp) (n i : ℕ) (op : WriteOp) → i < length ops → op ≡ get_or ops i op → of_family family (logged n (take (i + 1) ops)) ≡ of_family family (logged n (take i ops)) ++ cond (op.family.0 == family.0) (version_of op (n + i) ∷ []) []
own_more family ops n i op l e =
    ap (of_family family) (logged_more ops n i op l e)
    ∙ filter-append (λ (v : Version). v.family.0 == family.0) (logged n (take i ops)) (version_of op (n + i) ∷ [])

-- one family more
pub written_more : (vs : List Version) (fs gs : List FamilyState) (f g : FamilyState) → AreWrittenTo vs fs gs → IsWrittenTo (of_family f.active.family vs) f g → AreWrittenTo vs (fs ++ f ∷ []) (gs ++ g ∷ [])
written_more vs [] [] f g h w = (w, refl)
written_more vs [] (y ∷ ys) f g h w = absurd cc
written_more vs (x ∷ xs) [] f g h w = absurd h
written_more vs (x ∷ xs) (y ∷ ys) f g h w = (h.0, written_more vs xs ys f g h.1 w)

-- ---- one family

same_family : (a b : Family) → a.0 ≡ b.0 → a ≡ b
same_family a b e = λ i. record { 0 = e i }

is_from : (a b : ℕ) → (a == b) ≡ true → a ≡ b
is_from a b e = grind (arith, nat_tests)

own_by_recursion : (family : Family) (vs : List Version) → AllByRecursion (λ (v : Version). v.family ≡ family) (of_family family vs)
own_by_recursion family [] = tt
own_by_recursion family (v ∷ vs) =
    elim (cases_Bool (v.family.0 == family.0)) [
      | inl y ↦ rw y (same_family v.family family (is_from v.family.0 family.0 y), own_by_recursion family vs)
      | inr y ↦ rw y (own_by_recursion family vs)
    ]

pub all_own : (family : Family) (vs : List Version) → All (λ (v : Version). v.family ≡ family) (of_family family vs)
all_own family vs = All-from_recursion (λ (v : Version). v.family ≡ family) (of_family family vs) (own_by_recursion family vs)

-- nothing is written
pub stays_same : (more : List Version) (f g : FamilyState) → more ≡ [] → g ≡ f → IsWrittenTo more f g
stays_same more f g none e =
    let same : sorted (more ++ versions_of_memtable f.active) ≡ versions_of_memtable f.active = ap (λ (l : List Version). sorted (l ++ versions_of_memtable f.active)) none ∙ sorted_again (joined f.active.runs) in
    record {
      family = ap (λ (h : FamilyState). h.active.family) e;
      versions = ap (λ (h : FamilyState). versions_of_memtable h.active) e ∙ sym same;
      others = λ i. record (e i) { active = g.active };
      kept = λ n. e;
    }
