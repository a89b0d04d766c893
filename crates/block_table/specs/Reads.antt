-- What reading a table answers.
use Rattle.std.specs.Prelude.{◌≡◌, ℕ, List, Result, Ok, Err, ⊤}
use Rattle.std.specs.List.{AllByRecursion}
use Rattle.ts_key.specs.Items.{Item}
use Rattle.ts_key.specs.StoredKeys.{IsItem}
use Rattle.block_table.specs.Contents.{Contents, properties_of}
use Rattle.block_table.specs.Tables.{IsTable}
use Rattle.block_table.specs.Held.{Held}
use Rattle.block_table.specs.declared.properties.Properties.{Properties}
use Rattle.block_table.specs.declared.parts.Head.{Head}
use Rattle.block_table.specs.declared.fault.TableFault.{TableFault}
use Rattle.block_table.specs.declared.fault.TableFault.TheVariants.{Bad, NoMemory}

-- the contents whose properties and versions these are
abbrev pub contents_in : Properties → List Item → Contents
contents_in p vs = record { family = p.family.0; form = p.form; collected_by = p.collected_by.0; items = vs }

abbrev pub contents_with : Head → List Item → Contents
contents_with h vs = record { family = h.family.0; form = h.form; collected_by = h.collected_by.0; items = vs }

-- the image is the table of these contents, and of no others
pub record IsOnlyTable (t : Contents) (image : List ℕ) : Type 0 where
  pub is : IsTable t image
  pub only : (other : Contents) → IsTable other image → other ≡ t

-- so it is of what was read; or it is the table of nothing
abbrev pub ReadsTable : List ℕ → Result Held TableFault → Type 0
ReadsTable image (Ok table) = (table.image ≡ image) × IsOnlyTable table.contents image
ReadsTable image (Err Bad) = (t : Contents) → IsTable t image → ⊥
ReadsTable image (Err NoMemory) = ⊤

-- these are the properties and the versions of the contents of the image, and of no others
pub record AreOnlyContents (image : List ℕ) (p : Properties) (vs : List Item) : Type 0 where
  pub told : p ≡ properties_of (contents_in p vs)
  pub fit : AllByRecursion (IsItem p.form) vs
  pub table : IsOnlyTable (contents_in p vs) image

abbrev pub ReadsContents : List ℕ → Result (Properties × List Item) TableFault → Type 0
ReadsContents image (Ok x) = AreOnlyContents image x.0 x.1
ReadsContents image (Err Bad) = (t : Contents) → IsTable t image → ⊥
ReadsContents image (Err NoMemory) = ⊤
