-- What the super version of a folder shows of its manifest, tables and logs.
use Rattle.std.specs.Prelude.{◌≡◌, ℕ, ◌≤◌, ◌==◌, ◌&&◌, Bool, List, [], filter, length, map, slice_get, Some}
use Rattle.std.specs.List.Sorted.{IsPermutation, IsSortedBy}
use Rattle.ts_key.specs.declared.limits.TheConstants.{SEQUENCE_LIMIT}
use Rattle.ts_key.specs.declared.numbers.Family.{Family}
use Rattle.ts_key.specs.declared.numbers.Seq.{Seq}
use Rattle.ts_key.specs.declared.version.Version.{Version}
use Rattle.sorted_run.specs.Sorts.{sorted}
use Rattle.memtable.specs.Memtables.{versions_of_memtable}
use Rattle.manifest_fold.specs.declared.fold.FamilyFold.{FamilyFold}
use Rattle.manifest_fold.specs.declared.fold.Folded.{Folded}
use Rattle.super_version.specs.Levels.{stands_before}
use Rattle.super_version.specs.Live.{Live}
use Rattle.super_version.specs.Writes.{of_family}
use Rattle.super_version.specs.declared.family.FamilyState.{FamilyState}
use Rattle.super_version.specs.declared.family.TheConstants.{LEVELS}
use Rattle.super_version.specs.declared.version.SuperVersion.{SuperVersion}
use Rattle.recovery.specs.declared.tables.Opened.{Opened}

-- the version is of the family
abbrev pub is_own : Family → Version → Bool
is_own family v = v.family.0 == family.0

-- the opened tables of a family on a level
abbrev pub is_on : Family → ℕ → Opened → Bool
is_on family level o = o.family.0 == family.0 && o.level == level

abbrev pub level_tables : Family → ℕ → List Opened → List Live
level_tables family level opened = map (λ (o : Opened). o.table) (filter (is_on family level) opened)

-- these tables, in the order of the level
pub record IsLevel (level : ℕ) (tables shown : List Live) : Type 0 where
  pub same : IsPermutation tables shown
  pub order : IsSortedBy (stands_before level) shown

-- so many levels, each with the family's tables
pub record AreLevels (family : Family) (opened : List Opened) (count : ℕ) (levels : List (List Live)) : Type 0 where
  pub all : length levels ≡ count
  pub each : (level : ℕ) (shown : List Live) → slice_get levels level ≡ Some shown → IsLevel level (level_tables family level opened) shown

-- The family is as the manifest has it. Its active memtable holds its versions of these in one run, no other memtable is there, and its
-- levels have its tables.
pub record ShowsFamily (family : Family) (opened : List Opened) (versions : List Version) (f : FamilyFold) (state : FamilyState) : Type 0 where
  pub form : state.form ≡ f.form
  pub floor : state.floor ≡ f.floor
  pub through : state.through ≡ f.through
  pub number : state.active.family ≡ family
  pub active : versions_of_memtable state.active ≡ sorted (of_family family versions)
  pub runs : length state.active.runs ≤ 1
  pub sealed : state.sealed ≡ []
  pub levels : AreLevels family opened LEVELS state.levels

abbrev pub family_number : ℕ → Family
family_number i = record { 0 = i }

-- so many states, of the first families
pub record AreStates (opened : List Opened) (versions : List Version) (families : List FamilyFold) (count : ℕ) (states : List FamilyState) : Type 0 where
  pub all : length states ≡ count
  pub each : (i : ℕ) (f : FamilyFold) (state : FamilyState) → slice_get families i ≡ Some f → slice_get states i ≡ Some state → ShowsFamily (family_number i) opened versions f state

-- the super version of a fold with these live tables and unflushed versions
pub record ShowsVersion (fold : Folded) (opened : List Opened) (w : List Version) (last : Seq) (version : SuperVersion) : Type 0 where
  pub sequence : version.last ≡ last
  pub families : AreStates opened w fold.families (length fold.families) version.families

-- ---- what it has in common with the manifest

-- the family has the form, the floor and the `through` of the manifest
pub record IsOfFold (f : FamilyFold) (state : FamilyState) : Type 0 where
  pub form : state.form ≡ f.form
  pub floor : state.floor ≡ f.floor
  pub through : state.through ≡ f.through

-- The families are those of the fold, and the last sequence isn't below the fold's. So it is whether or not the disk tells what it holds.
pub record FitsFold (fold : Folded) (version : SuperVersion) : Type 0 where
  pub last : fold.last.0 ≤ version.last.0
  pub within : version.last.0 ≤ SEQUENCE_LIMIT
  pub all : length version.families ≡ length fold.families
  pub each : (i : ℕ) (f : FamilyFold) (state : FamilyState) → slice_get fold.families i ≡ Some f → slice_get version.families i ≡ Some state → IsOfFold f state
