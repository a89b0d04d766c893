-- What the bytes of a table say, and when the file of a live table is in order.
use Rattle.std.specs.Prelude.{◌≡◌, ℕ, ◌^◌, ◌<◌, ◌≤◌, false, List, length, map, All, Contains}
use Rattle.ts_key.specs.declared.numbers.Family.{Family}
use Rattle.ts_key.specs.declared.version.Version.{Version}
use Rattle.udt_disk.specs.Joint.{Folder}
use Rattle.udt_disk.specs.declared.name.FileName.TheVariants.{Table}
use Rattle.udt_model.specs.Orders.{meets, span_of}
use Rattle.manifest_edit.specs.declared.edit.TableAt.{TableAt}
use Rattle.manifest_fold.specs.declared.fold.FamilyFold.{FamilyFold}
use Rattle.manifest_fold.specs.declared.fold.Folded.{Folded}
use Rattle.block_table.specs.Contents.{Contents}
use Rattle.block_table.specs.Tables.{IsTable}
use Rattle.super_version.specs.Contents.{version_of_item}
use Rattle.engine_laws.specs.Manifests.{IsLive}
use Rattle.engine_laws.specs.Standing.{Fits, TableReads, TableSays}

abbrev pub family_of_table : Contents → Family
family_of_table t = record { 0 = t.family }

-- what contents say
abbrev pub says_of : Contents → TableSays
says_of t = record { family = family_of_table t; form = t.form; collected_by = record { 0 = t.collected_by }; versions = map (version_of_item (family_of_table t)) t.items }

-- the bytes are a table that says this: the grammar of tables
pub record ReadsAsTable (bytes : List ℕ) (says : TableSays) : Type 0 where
  pub short : length bytes < 2 ^ 64
  pub contents : Contents
  pub table : IsTable contents bytes
  pub is : says ≡ says_of contents

-- it has nothing above the family's `through`
abbrev pub IsTableFlushed : FamilyFold → TableSays → Type 0
IsTableFlushed f says = All (λ (v : Version). v.seq.0 ≤ f.through.0) says.versions

-- on a level from 1 on its span meets that of none of the family's tables with smaller numbers
abbrev pub IsApart : FamilyFold → Folder → TableAt → TableSays → Type 0
IsApart f folder t says = (u : TableAt) (other : TableSays) → Contains f.tables u → u.number < t.number → u.level ≡ t.level → 0 < t.level
    → TableReads ReadsAsTable (folder (Table u.number)) other → meets (span_of other.versions) (span_of says.versions) ≡ false

-- The file of a live table is in order: it is there, in the grammar, fits its family, has nothing above `through`, and is apart from
-- those with smaller numbers.
pub record IsTableInOrder (folder : Folder) (family : Family) (f : FamilyFold) (t : TableAt) : Type 0 where
  pub says : TableSays
  pub reads : TableReads ReadsAsTable (folder (Table t.number)) says
  pub fits : Fits family f says
  pub flushed : IsTableFlushed f says
  pub apart : IsApart f folder t says

-- so are all live tables with numbers below this one
abbrev pub AreInOrderBelow : Folded → Folder → ℕ → Type 0
AreInOrderBelow fold folder n = (family : Family) (f : FamilyFold) (t : TableAt) → IsLive fold family f t → t.number < n → IsTableInOrder folder family f t

-- so are all live tables
abbrev pub AreTablesInOrder : Folded → Folder → Type 0
AreTablesInOrder fold folder = (family : Family) (f : FamilyFold) (t : TableAt) → IsLive fold family f t → IsTableInOrder folder family f t
