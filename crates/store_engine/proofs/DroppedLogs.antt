-- The logs that no family needs may go.
use Rattle.std.proofs.Common.{◌≡◌, ◌⊎◌, ℕ, zero, suc, ◌<◌, ◌≤◌, ◌==◌, true, false, List, [], ◌∷◌, ◌++◌, drop, length, take, Some, refl, sym, ap, subst, arith, inl, inr}
use Rattle.std.specs.Prelude.{Contains, nat_lt, not, slice_get}
use Rattle.std.proofs.lemmas.Bool.{cases_Bool, false≢true, ltb-false, ne_eqb}
use Rattle.std.proofs.lemmas.List.{length-drop, take-append-drop}
use Rattle.std.proofs.lemmas.List.Sorted.{Contains-permutation}
use Rattle.ts_key.specs.declared.numbers.Family.{Family}
use Rattle.ts_key.specs.declared.numbers.Seq.{Seq}
use Rattle.ts_key.specs.declared.version.Version.{Version}
use Rattle.udt_model.specs.State.{FamilyState as ModelFamily}
use Rattle.udt_model.specs.State.{State, family_at}
use Rattle.udt_model.specs.Versions.{between}
use Rattle.manifest_fold.specs.Folds.{newest_log}
use Rattle.super_version.specs.declared.family.FamilyState.{FamilyState}
use Rattle.super_version.specs.declared.version.SuperVersion.{SuperVersion}
use Rattle.floor_laws.proofs.Families.{In-between}
use Rattle.floor_laws.proofs.Members.{In, In-contains, In-left, In-right, contains_In, filter-In}
use Rattle.floor_laws.proofs.Tables.{Sorted}
use Rattle.engine_laws.specs.Engine.{newest_log_of}
use Rattle.engine_laws.specs.Installs.{LetsGo, LogsMayGo}
use Rattle.engine_laws.specs.Logs.{above, is_above_through}
use Rattle.engine_laws.specs.Manifests.{IsWell}
use Rattle.engine_laws.specs.Standing.{Says}
use Rattle.engine_laws.proofs.Ascending.{newest_of, rising_sorted, sorted_drop}
use Rattle.engine_laws.proofs.Editing.{above_true}
use Rattle.store_engine.specs.Dropping.{AreGone, lets_go, needs_log}
use Rattle.store_engine.specs.Now.{IsNow, versions_held}
use Rattle.store_engine.specs.Older.{CoversOlder, last_in}
use Rattle.store_engine.specs.declared.older.OlderLogs.{OlderLogs}
use Rattle.store_engine.proofs.Current.{there_too}
use Rattle.store_engine.proofs.Together.{newest_drop}

-- ---- the oldest logs

take-get : {X : Type 0} (n : ℕ) (xs : List X) (x : X) → In x (take n xs) → (i : ℕ) × (i < n) × (slice_get xs i ≡ Some x)
take-get zero xs x i = absurd i
take-get (suc n) [] x i = absurd i
take-get (suc n) (y ∷ ys) x (inl q) = (0, omega arith, ap Some q)
take-get (suc n) (y ∷ ys) x (inr i) = let r = take-get n ys x i in (suc r.0, (let l = r.1 in omega (arith, l)), r.2)

sorted_before : (xs ys : List ℕ) (n k : ℕ) → Sorted (xs ++ ys) → In n xs → In k ys → n < k
sorted_before [] ys n k h i j = absurd i
sorted_before (x ∷ xs) ys n k h (inl q) j = let l = h.0 k (In-right k xs ys j) in omega (arith, l, q)
sorted_before (x ∷ xs) ys n k h (inr i) j = sorted_before xs ys n k h.1 i j

module _ (s : Says) (well : IsWell s.fold) (count : ℕ) (some : count < length s.fold.logs) where
  abbrev logs : List ℕ
  logs = s.fold.logs

  pub oldest_live : (n : ℕ) → In n (take count logs) → In n logs
  oldest_live n i = subst (λ z. In n z) (take-append-drop count logs) (In-left n (take count logs) (drop count logs) i)

  rest_some : 1 ≤ length (drop count logs)
  rest_some = let l = length-drop count logs in omega (arith, l, some)

  newest_in_rest : In (newest_log_of s) (drop count logs)
  newest_in_rest =
      let rest = drop count logs in
      let r = newest_of rest rest_some (sorted_drop count logs (rising_sorted logs well.sorted)) in
      subst (λ n. In n rest) (newest_drop count logs rest_some) (subst (λ z. In (newest_log rest) z) (sym r.is) (In-right (newest_log rest) r.older (newest_log rest ∷ []) (inl refl)))

  pub oldest_older : (n : ℕ) → In n (take count logs) → n < newest_log_of s
  oldest_older n i = sorted_before (take count logs) (drop count logs) n (newest_log_of s) (subst Sorted (sym (take-append-drop count logs)) (rising_sorted logs well.sorted)) i newest_in_rest

-- ---- what a family lets go

lets_go_at : (last : ℕ) (fs : List FamilyState) (i : ℕ) (g : FamilyState) → lets_go last fs ≡ true → slice_get fs i ≡ Some g → needs_log last g ≡ false
lets_go_at last [] i g ok there = absurd cc
lets_go_at last (f ∷ fs) zero g ok there = elim (cases_Bool (needs_log last f)) [
  | inl y ↦ let e : false ≡ true = rw y at ok in absurd (false≢true e)
  | inr y ↦ let q : f ≡ g = cc in subst (λ (z : FamilyState). needs_log last z ≡ false) q y
]
lets_go_at last (f ∷ fs) (suc i) g ok there = elim (cases_Bool (needs_log last f)) [
  | inl y ↦ let e : false ≡ true = rw y at ok in absurd (false≢true e)
  | inr y ↦ let e : lets_go last fs ≡ true = rw y at ok in lets_go_at last fs i g e there
]

needs_none : (last : ℕ) (g : FamilyState) → needs_log last g ≡ false → (last ≤ g.through.0) ⊎ (versions_held g ≡ [])
needs_none last g e = elim (cases_Bool (nat_lt g.through.0 last)) [
  | inl y ↦ let z : not (length (versions_held g) == 0) ≡ false = rw y at e in inr (empty (versions_held g) z)
  | inr y ↦ let l = ltb-false g.through.0 last y in inl (omega (arith, l))
] where
  empty : (vs : List Version) → not (length vs == 0) ≡ false → vs ≡ []
  empty [] z = refl
  empty (v ∷ vs) z = let e : (length (v ∷ vs) == 0) ≡ false = ne_eqb (length (v ∷ vs)) 0 (λ q. omega (arith, q)) in let w : true ≡ false = rw e at z in absurd (false≢true (sym w))

none_above : (family : Family) (through last : ℕ) (w : List Version) → ((v : Version) → In v w → v.seq.0 ≤ last) → between family through last w ≡ [] → above family through w ≡ []
none_above family through last w bounded none = nothing (above family through w) (λ v i.
    let a = filter-In (is_above_through family through) v w i in
    let t = above_true family through v a.1 in
    subst (In v) none (In-between family through last w v a.0 t.0 t.1 (bounded v a.0))) where
      nothing : (vs : List Version) → ((v : Version) → In v vs → ⊥) → vs ≡ []
      nothing [] h = refl
      nothing (v ∷ vs) h = absurd (h v (inl refl))

-- ---- the logs may go

module _ (next : State) (s : Says) (older : OlderLogs) (version : SuperVersion) (count : ℕ) (gone : AreGone version.families older s.fold.logs count) (covers : CoversOlder older s) (shows : IsNow version next)
    (well : IsWell s.fold) (some : count < length s.fold.logs) (bounded : (v : Version) → In v next.versions → v.seq.0 ≤ next.last.0) where
  lets : (n : ℕ) (family : Family) (f : ModelFamily) → In n (take count s.fold.logs) → family_at next family ≡ Some f → LetsGo next (last_in older n) family f
  lets n family f i at =
      let r = take-get count s.fold.logs n i in
      let there = there_too next.families version.families family.0 f (sym shows.count) at in
      let g = there.0 in
      let shown = shows.families family f g at there.1 in
      let free = needs_none (last_in older n) g (lets_go_at (last_in older n) version.families family.0 g (gone.gone r.0 n r.1 r.2) there.1) in
      elim free [
        | inl l ↦ let e = ap (λ (q : Seq). q.0) shown.through in inl (omega (arith, l, e))
        | inr none ↦
            let left = between family f.through.0 next.last.0 next.versions in
            inr (none_above family f.through.0 next.last.0 next.versions bounded (nothing left (λ v j. contains_In [] v (subst (λ (vs : List Version). Contains vs v) none (Contains-permutation left (versions_held g) v shown.holds (In-contains left v j))))))
      ] where
        nothing : (vs : List Version) → ((v : Version) → In v vs → ⊥) → vs ≡ []
        nothing [] h = refl
        nothing (v ∷ vs) h = absurd (h v (inl refl))

  pub logs_may_go : LogsMayGo s next (take count s.fold.logs)
  logs_may_go = record {
    kept = drop count s.fold.logs;
    oldest = sym (take-append-drop count s.fold.logs);
    some = rest_some s well count some;
    upto = last_in older;
    covers = λ n v i j.
        let k = contains_In (take count s.fold.logs) n i in
        covers.within n v (In-contains s.fold.logs n (oldest_live s well count some n k)) (oldest_older s well count some n k) j;
    drops = λ n family f i at. lets n family f (contains_In (take count s.fold.logs) n i) at;
  }
