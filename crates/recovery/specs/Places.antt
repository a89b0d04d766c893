-- The live tables of a fold, each with its family, and the tables that were read of them.
use Rattle.std.specs.Prelude.{◌≡◌, ◌≢◌, ℕ, ◌+◌, ◌^◌, ◌<◌, List, [], ◌∷◌, ◌++◌, length, map, Contains, Some, None, ⊤, slice_get}
use Rattle.std.specs.List.Sorted.{IsStrictlyIncreasing}
use Rattle.ts_key.specs.declared.numbers.Family.{Family}
use Rattle.udt_disk.specs.Crash.{Image}
use Rattle.udt_disk.specs.Joint.{Folder}
use Rattle.udt_disk.specs.declared.name.FileName.{FileName}
use Rattle.udt_disk.specs.declared.name.FileName.TheVariants.{Table}
use Rattle.udt_model.specs.declared.reply.KeySpan.{KeySpan}
use Rattle.manifest_edit.specs.declared.edit.TableAt.{TableAt}
use Rattle.manifest_fold.specs.declared.fold.FamilyFold.{FamilyFold}
use Rattle.manifest_fold.specs.declared.fold.Folded.{Folded}
use Rattle.block_table.specs.Contents.{Contents, first_key, last_user_key}
use Rattle.block_table.specs.Held.{Held}
use Rattle.block_table.specs.Reads.{IsOnlyTable}
use Rattle.block_table.specs.Tables.{IsTable}
use Rattle.engine_laws.specs.Manifests.{IsLive, table_number}
use Rattle.engine_laws.specs.Standing.{Fits}
use Rattle.super_version.specs.declared.family.TheConstants.{LEVELS}
use Rattle.recovery.specs.Refusals.{IsBadTable, IsMissingTable}
use Rattle.recovery.specs.Tables.{AreTablesInOrder, IsTableFlushed, says_of}
use Rattle.recovery.specs.declared.fault.OpenFault.{OpenFault}
use Rattle.recovery.specs.declared.fault.OpenFault.TheVariants as faults
use Rattle.recovery.specs.declared.live.TablePlace.{TablePlace}
use Rattle.recovery.specs.declared.tables.Opened.{Opened}

-- the records of an opening's tables, by names that other crates can use
abbrev pub OpenedTable : Type 0
OpenedTable = Opened

abbrev pub PlacedTable : Type 0
PlacedTable = TablePlace

abbrev pub IsTableName : FileName → Type 0
IsTableName n = (number : ℕ) × (n ≡ Table number)

-- ---- places

abbrev pub place_in : Family → TableAt → TablePlace
place_in family t = record { family = family; table = t }

-- the tables of families, the first of which has this number
abbrev pub places_from : ℕ → List FamilyFold → List TablePlace
places_from i [] = []
places_from i (f ∷ fs) = map (place_in (record { 0 = i })) f.tables ++ places_from (i + 1) fs

abbrev pub number_at : TablePlace → ℕ
number_at p = p.table.number

abbrev pub IsLivePlace : Folded → TablePlace → Type 0
IsLivePlace fold p = (f : FamilyFold) × IsLive fold p.family f p.table

-- each live table has a number of its own, and stands on a level that there is
pub record HasPlaces (fold : Folded) : Type 0 where
  pub rising : (family : Family) (f : FamilyFold) → slice_get fold.families family.0 ≡ Some f → IsStrictlyIncreasing (map table_number f.tables)
  pub apart : (p q : TablePlace) → IsLivePlace fold p → IsLivePlace fold q → p.table.number ≡ q.table.number → p.family ≡ q.family
  pub levels : (p : TablePlace) → IsLivePlace fold p → p.table.level < LEVELS

-- these are the live tables, each once, by ascending number
pub record AreLivePlaces (fold : Folded) (places : List TablePlace) : Type 0 where
  pub each : (p : TablePlace) → Contains places p → IsLivePlace fold p
  pub all : (p : TablePlace) → IsLivePlace fold p → Contains places p
  pub ascending : IsStrictlyIncreasing (map number_at places)

-- ---- tables that were read

-- the file held this table
pub record IsTableIn (image : Image) (held : Held) : Type 0 where
  pub stood : image ≡ Some held.image
  pub short : length held.image < 2 ^ 64
  pub table : IsOnlyTable held.contents held.image

abbrev pub HoldsTable : Image → Contents → Type 0
HoldsTable None t = ⊥
HoldsTable (Some bytes) t = IsTable t bytes

-- why the file of the table of this number isn't read
abbrev pub RefusesReading : Image → ℕ → OpenFault → Type 0
RefusesReading image n faults.NoStore = ⊥
RefusesReading image n (faults.BadManifest at) = ⊥
RefusesReading image n (faults.MissingTable k) = (k ≡ n) × (image ≡ None)
RefusesReading image n (faults.BadTable k) = (k ≡ n) × (image ≢ None) × ((t : Contents) → HoldsTable image t → ⊥)
RefusesReading image n (faults.BadLog k at) = ⊥
RefusesReading image n faults.DiskFault = ⊤
RefusesReading image n faults.NoMemory = ⊤

abbrev pub table_place_of : Opened → TablePlace
table_place_of o = record { family = o.family; table = record { level = o.level; number = o.table.number } }

-- the span of its keys, as its properties say it
abbrev pub span_in : Contents → KeySpan
span_in t = record { low = first_key t.items; high = last_user_key t.items }

-- it fits the family, and has nothing above `through`
pub record IsFitting (family : Family) (f : FamilyFold) (t : Contents) : Type 0 where
  pub fits : Fits family f (says_of t)
  pub flushed : IsTableFlushed f (says_of t)

-- the file of this live table held what was read, and that fits the family
pub record IsTableOpened (folder : Folder) (f : FamilyFold) (o : Opened) : Type 0 where
  pub held : IsTableIn (folder (Table o.table.number)) o.table.table
  pub fitting : IsFitting o.family f o.table.table.contents

-- why a live table isn't opened, whatever the others are
abbrev pub RefusesPlace : Folder → FamilyFold → TablePlace → OpenFault → Type 0
RefusesPlace folder f p faults.NoStore = ⊥
RefusesPlace folder f p (faults.BadManifest at) = ⊥
RefusesPlace folder f p (faults.MissingTable k) = (k ≡ number_at p) × (folder (Table k) ≡ None)
RefusesPlace folder f p (faults.BadTable k) = (k ≡ number_at p) × (folder (Table k) ≢ None) × ((t : Contents) → HoldsTable (folder (Table k)) t → IsFitting p.family f t → ⊥)
RefusesPlace folder f p (faults.BadLog k at) = ⊥
RefusesPlace folder f p faults.DiskFault = ⊤
RefusesPlace folder f p faults.NoMemory = ⊤

-- the live tables of the fold were read, and are in order
pub record AreOpened (folder : Folder) (fold : Folded) (opened : List Opened) : Type 0 where
  pub places : AreLivePlaces fold (map table_place_of opened)
  pub each : (o : Opened) (f : FamilyFold) → Contains opened o → slice_get fold.families o.family.0 ≡ Some f → IsTableOpened folder f o
  pub order : AreTablesInOrder fold folder

-- why the live tables aren't opened
abbrev pub RefusesTables : Folded → Folder → OpenFault → Type 0
RefusesTables fold folder faults.NoStore = ⊥
RefusesTables fold folder (faults.BadManifest at) = ⊥
RefusesTables fold folder (faults.MissingTable n) = IsMissingTable fold folder n
RefusesTables fold folder (faults.BadTable n) = IsBadTable fold folder n
RefusesTables fold folder (faults.BadLog n at) = ⊥
RefusesTables fold folder faults.DiskFault = ⊤
RefusesTables fold folder faults.NoMemory = ⊤
