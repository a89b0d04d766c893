-- Laws of the changes.
use Rattle.std.specs.Prelude.{◌≡◌, ℕ, ◌≤◌, List, ◌∷◌, ◌++◌, filter}
use Rattle.std.specs.List.{AllByRecursion}
use Rattle.ts_key.specs.declared.batch.WriteOp.{WriteOp}
use Rattle.ts_key.specs.declared.numbers.Seq.{Seq}
use Rattle.ts_key.specs.declared.numbers.Ts.{Ts}
use Rattle.ts_key.specs.declared.version.Version.{Version}
use Rattle.ts_key.specs.Items.{items_of}
use Rattle.ts_key.specs.Visible.{visible_item}
use Rattle.super_version.specs.declared.family.FamilyState.{FamilyState}
use Rattle.super_version.specs.declared.version.SuperVersion.{SuperVersion}
use Rattle.super_version.specs.Changes.{ChangesFamily, family_with_compaction, family_with_floor, family_with_flush, family_with_seal}
use Rattle.super_version.specs.Contents.{items_of_family}
use Rattle.super_version.specs.Levels.{StandInOrder, is_table_kept, placed_all, table_properties}
use Rattle.super_version.specs.Live.{Live}
use Rattle.super_version.specs.Numbers.{BearsNumber, IsTableOf, StandInPlaces}
use Rattle.super_version.specs.Writes.{AddsBatch, IsWrittenTo}

-- Tables in order stay so: on level 0 behind one with a greatest sequence that is at least theirs, and on every level where tables
-- leave and others are put where they belong.
pub record OrderStays : Type 0 where
  pub front : (t : Live) (tables : List Live) → AllByRecursion (λ (o : Live). (table_properties o).greatest_seq.0 ≤ (table_properties t).greatest_seq.0) tables → StandInOrder 0 tables → StandInOrder 0 (t ∷ tables)
  pub compaction : (level : ℕ) (gone : List ℕ) (added tables : List Live) → StandInOrder level tables → StandInOrder level (placed_all level added (filter (is_table_kept gone) tables))

-- Where all memtables and tables bear the numbers of their places, they do after each change whose tables are of the family.
pub record NumbersStay : Type 0 where
  pub floor : (n : ℕ) (floor : Ts) (f : FamilyState) → BearsNumber n f → BearsNumber n (family_with_floor floor f)
  pub seal : (n : ℕ) (f : FamilyState) → BearsNumber n f → BearsNumber n (family_with_seal f)
  pub flush : (n gone : ℕ) (through : Seq) (floor : Ts) (added : Live) (f : FamilyState) → IsTableOf n added → BearsNumber n f → BearsNumber n (family_with_flush gone through floor added f)
  pub compaction : (n : ℕ) (gone : List ℕ) (level : ℕ) (added : List Live) (f : FamilyState) → AllByRecursion (IsTableOf n) added → BearsNumber n f → BearsNumber n (family_with_compaction gone level added f)
  pub family : (n : ℕ) (change : FamilyState → FamilyState) (old new : SuperVersion) → ChangesFamily n change old new → ((f : FamilyState) → BearsNumber n f → BearsNumber n (change f)) → StandInPlaces 0 old.families → StandInPlaces 0 new.families
  pub write : (batch : List WriteOp) (old new : SuperVersion) → AddsBatch batch old new → StandInPlaces 0 old.families → StandInPlaces 0 new.families

-- A floor and a seal change nothing of what the lists of a family hold, and after a write reads see the versions that it made
-- beside those from before.
pub record ReadsStay : Type 0 where
  pub floor : (floor : Ts) (f : FamilyState) → items_of_family (family_with_floor floor f) ≡ items_of_family f
  pub seal : (f : FamilyState) → items_of_family (family_with_seal f) ≡ items_of_family f
  pub write : (vs : List Version) (f g : FamilyState) → IsWrittenTo vs f g → (key : List ℕ) (t s : ℕ) → visible_item (items_of_family g) key t s ≡ visible_item (items_of vs ++ items_of_family f) key t s
