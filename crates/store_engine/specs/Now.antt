-- What a super version shows of a state of the model.
use Rattle.std.specs.Prelude.{◌≡◌, ℕ, ◌+◌, ◌<◌, ◌≤◌, List, [], ◌∷◌, ◌++◌, length, map, slice_get, Contains, Some}
use Rattle.std.specs.List.{AllByRecursion, flat_map}
use Rattle.std.specs.List.Sorted.{IsPermutation}
use Rattle.ts_key.specs.declared.numbers.Family.{Family}
use Rattle.ts_key.specs.declared.numbers.Ts.{Ts}
use Rattle.ts_key.specs.declared.version.Form.{Form}
use Rattle.ts_key.specs.declared.version.Version.{Version}
use Rattle.memtable.specs.Memtables.{versions_of_memtable}
use Rattle.udt_model.specs.Versions.{between}
use Rattle.udt_model.specs.State.{Flush, State, LiveTable, family_at}
use Rattle.udt_model.specs.State.{FamilyState as ModelFamily}
use Rattle.super_version.specs.Contents.{version_of_item}
use Rattle.super_version.specs.Levels.{StandInOrder}
use Rattle.super_version.specs.Live.{Live}
use Rattle.super_version.specs.Numbers.{BearsNumber}
use Rattle.super_version.specs.declared.family.FamilyState.{FamilyState}
use Rattle.super_version.specs.declared.family.TheConstants.{LEVELS}
use Rattle.super_version.specs.declared.version.SuperVersion.{SuperVersion}

-- the versions that the memtables of a family hold
abbrev pub versions_held : FamilyState → List Version
versions_held f = versions_of_memtable f.active ++ flat_map versions_of_memtable f.sealed

-- the table of the model that a live table on this level is
abbrev pub table_shown : Family → ℕ → Live → LiveTable
table_shown family level t = record { number = t.number; level = level; versions = map (version_of_item family) t.table.contents.items }

-- the tables that levels show, the first of which is this one
abbrev pub tables_shown : Family → ℕ → List (List Live) → List LiveTable
tables_shown family level [] = []
tables_shown family level (tables ∷ levels) = map (table_shown family level) tables ++ tables_shown family (level + 1) levels

-- the table has this form, and was collected by no more than this floor
pub record FitsFamily (form : Form) (floor : Ts) (t : Live) : Type 0 where
  pub form_is : t.table.contents.form ≡ form
  pub collected : t.table.contents.collected_by ≤ floor.0

-- The family is as the model has it, with these versions in no table: form, floor and `through` are the model's, the memtables hold
-- exactly those versions, and the levels show the live tables, each once and in order.
pub record IsFamilyNow (family : Family) (unflushed : List Version) (f : ModelFamily) (g : FamilyState) : Type 0 where
  pub form : g.form ≡ f.head.form
  pub floor : g.floor ≡ f.head.floor
  pub through : g.through ≡ f.through
  pub number : BearsNumber family.0 g
  pub holds : IsPermutation unflushed (versions_held g)
  pub tables : IsPermutation f.tables (tables_shown family 0 g.levels)
  pub levels : length g.levels ≡ LEVELS
  pub order : (level : ℕ) (tables : List Live) → slice_get g.levels level ≡ Some tables → StandInOrder level tables
  pub fit : AllByRecursion (AllByRecursion (FitsFamily g.form g.floor)) g.levels

-- what the running flush takes of its family is sealed, and what was written since it began isn't
pub record IsBeingFlushed (job : Flush) (g : FamilyState) : Type 0 where
  pub taken : (v : Version) → Contains (flat_map versions_of_memtable g.sealed) v → v.seq.0 ≤ job.through.0
  pub later : (v : Version) → Contains (versions_of_memtable g.active) v → job.through.0 < v.seq.0

-- The super version shows the state: its last sequence, and as many families, each as the model has it, also while one is flushed.
pub record IsNow (now : SuperVersion) (m : State) : Type 0 where
  pub last : now.last ≡ m.last
  pub count : length now.families ≡ length m.families
  pub families : (family : Family) (f : ModelFamily) (g : FamilyState) → family_at m family ≡ Some f → slice_get now.families family.0 ≡ Some g → IsFamilyNow family (between family f.through.0 m.last.0 m.versions) f g
  pub flush : (job : Flush) (g : FamilyState) → m.flush ≡ Some job → slice_get now.families job.family.0 ≡ Some g → IsBeingFlushed job g
