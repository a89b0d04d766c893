-- Families that bear the numbers of their places.
use Rattle.std.proofs.Common.{◌≡◌, ℕ, zero, suc, ◌+◌, ◌-◌, List, [], ◌∷◌, length, map, take, sym, ap, subst, ◌∙◌, arith}
use Rattle.std.specs.Prelude.{filter}
use Rattle.std.specs.List.{AllByRecursion}
use Rattle.ts_key.specs.declared.batch.WriteOp.{WriteOp}
use Rattle.ts_key.specs.declared.numbers.Family.{Family}
use Rattle.ts_key.specs.declared.version.Version.{Version}
use Rattle.ts_key.specs.declared.numbers.Seq.{Seq}
use Rattle.ts_key.specs.declared.numbers.Ts.{Ts}
use Rattle.udt_model.specs.Versions.{made}
use Rattle.memtable.specs.Memtables.{Memtable}
use Rattle.super_version.specs.declared.family.FamilyState.{FamilyState}
use Rattle.super_version.specs.declared.version.SuperVersion.{SuperVersion}
use Rattle.super_version.specs.Live.{Live}
use Rattle.super_version.specs.Changes.{ChangesFamily, in_front, family_with_compaction, family_with_floor, family_with_flush, family_with_seal}
use Rattle.super_version.specs.Levels.{item_changed_at, is_table_kept, placed_on_level, placed_all}
use Rattle.super_version.specs.Numbers.{BearsNumber, IsTableOf, StandInPlaces}
use Rattle.super_version.specs.Writes.{AddsBatch, AreWrittenTo, IsWrittenTo, of_family}
use Rattle.super_version.proofs.Orders.{all_filter, all_placed}

all_changed : {X : Type 0} (P : X → Type 0) (n : ℕ) (change : X → X) (xs : List X) → ((x : X) → P x → P (change x)) → AllByRecursion P xs → AllByRecursion P (item_changed_at n change xs)
all_changed P n change [] f h = tt
all_changed P zero change (x ∷ xs) f h = (f x h.0, h.1)
all_changed P (suc n) change (x ∷ xs) f h = (h.0, all_changed P n change xs f h.1)

all_mapped : {X : Type 0} (P : X → Type 0) (g : X → X) (xs : List X) → ((x : X) → P x → P (g x)) → AllByRecursion P xs → AllByRecursion P (map g xs)
all_mapped P g [] f h = tt
all_mapped P g (x ∷ xs) f h = (f x h.0, all_mapped P g xs f h.1)

all_taken : {X : Type 0} (P : X → Type 0) (n : ℕ) (xs : List X) → AllByRecursion P xs → AllByRecursion P (take n xs)
all_taken P zero [] h = tt
all_taken P (suc n) [] h = tt
all_taken P zero (x ∷ xs) h = tt
all_taken P (suc n) (x ∷ xs) h = (h.0, all_taken P n xs h.1)

all_placed_all : (P : Live → Type 0) (level : ℕ) (ts os : List Live) → AllByRecursion P ts → AllByRecursion P os → AllByRecursion P (placed_all level ts os)
all_placed_all P level [] os h g = g
all_placed_all P level (t ∷ ts) os h g = all_placed_all P level ts (placed_on_level level t os) h.1 (all_placed P level t os h.0 g)

module _ (n : ℕ) where
  abbrev AreTables : List Live → Type 0
  AreTables ts = AllByRecursion (IsTableOf n) ts

  pub after_floor : (floor : Ts) (f : FamilyState) → BearsNumber n f → BearsNumber n (family_with_floor floor f)
  after_floor floor f h = record { active = h.active; sealed = h.sealed; tables = h.tables }

  pub after_seal : (f : FamilyState) → BearsNumber n f → BearsNumber n (family_with_seal f)
  after_seal f h = record { active = h.active; sealed = (h.active, h.sealed); tables = h.tables }

  pub after_flush : (gone : ℕ) (through : Seq) (floor : Ts) (added : Live) (f : FamilyState) → IsTableOf n added → BearsNumber n f → BearsNumber n (family_with_flush gone through floor added f)
  after_flush gone through floor added f own h = record {
    active = h.active;
    sealed = all_taken (λ (m : Memtable). m.family.0 ≡ n) (length f.sealed - gone) f.sealed h.sealed;
    tables = all_changed AreTables 0 (in_front added) f.levels (λ ts g. (own, g)) h.tables;
  }

  pub after_compaction : (gone : List ℕ) (level : ℕ) (added : List Live) (f : FamilyState) → AreTables added → BearsNumber n f → BearsNumber n (family_with_compaction gone level added f)
  after_compaction gone level added f own h = record {
    active = h.active;
    sealed = h.sealed;
    tables = all_changed AreTables level (placed_all level added) (map (filter (is_table_kept gone)) f.levels) (λ ts g. all_placed_all (IsTableOf n) level added ts own g)
        (all_mapped AreTables (filter (is_table_kept gone)) f.levels (λ ts g. all_filter (IsTableOf n) (is_table_kept gone) ts g) h.tables);
  }

  pub after_write : (vs : List Version) (f g : FamilyState) → IsWrittenTo vs f g → BearsNumber n f → BearsNumber n g
  after_write vs f g w h =
      let it : BearsNumber n (record f { active = g.active }) = record { active = ap (λ (a : Family). a.0) w.family ∙ h.active; sealed = h.sealed; tables = h.tables } in
      subst (BearsNumber n) (sym w.others) it

-- ---- all families

changed_places : (k n : ℕ) (change : FamilyState → FamilyState) (fs : List FamilyState) → ((f : FamilyState) → BearsNumber (k + n) f → BearsNumber (k + n) (change f)) → StandInPlaces k fs → StandInPlaces k (item_changed_at n change fs)
changed_places k n change [] c h = tt
changed_places k zero change (f ∷ fs) c h =
    let z : k + 0 ≡ k = omega arith in
    (subst (λ m. BearsNumber m (change f)) z (c f (subst (λ m. BearsNumber m f) (sym z) h.0)), h.1)
changed_places k (suc n) change (f ∷ fs) c h =
    let z : k + suc n ≡ k + 1 + n = omega arith in
    (h.0, changed_places (k + 1) n change fs (λ g b. subst (λ m. BearsNumber m (change g)) z (c g (subst (λ m. BearsNumber m g) (sym z) b))) h.1)

pub after_change : (n : ℕ) (change : FamilyState → FamilyState) (old new : SuperVersion) → ChangesFamily n change old new → ((f : FamilyState) → BearsNumber n f → BearsNumber n (change f)) → StandInPlaces 0 old.families → StandInPlaces 0 new.families
after_change n change old new is c h =
    let z : 0 + n ≡ n = omega arith in
    subst (StandInPlaces 0) (sym is.families) (changed_places 0 n change old.families (λ g b. subst (λ m. BearsNumber m (change g)) (sym z) (c g (subst (λ m. BearsNumber m g) z b))) h)

written_places : (k : ℕ) (vs : List Version) (fs gs : List FamilyState) → AreWrittenTo vs fs gs → StandInPlaces k fs → StandInPlaces k gs
written_places k vs [] [] w h = tt
written_places k vs [] (g ∷ gs) w h = absurd cc
written_places k vs (f ∷ fs) [] w h = absurd w
written_places k vs (f ∷ fs) (g ∷ gs) w h = (after_write k (of_family f.active.family vs) f g w.0 h.0, written_places (k + 1) vs fs gs w.1 h.1)

pub after_batch : (batch : List WriteOp) (old new : SuperVersion) → AddsBatch batch old new → StandInPlaces 0 old.families → StandInPlaces 0 new.families
after_batch batch old new adds h = written_places 0 (made old.last.0 batch) old.families new.families adds.families h
