-- What a compaction makes of its inputs.
use Rattle.std.specs.Prelude.{◌≡◌, ◌≢◌, ℕ, ◌<◌, ◌≤◌, Bool, not, IsTrue, List, [], ◌∷◌, length, map, filter, Option, Some, None, ⊤}
use Rattle.std.specs.List.{AllByRecursion}
use Rattle.std.specs.Str.{bytes_eq}
use Rattle.ts_key.specs.declared.numbers.Family.{Family}
use Rattle.ts_key.specs.declared.numbers.Seq.{Seq}
use Rattle.ts_key.specs.declared.numbers.Ts.{Ts}
use Rattle.ts_key.specs.declared.version.Form.{Form}
use Rattle.ts_key.specs.declared.version.Version.{Version}
use Rattle.ts_key.specs.Items.{Item, items_of}
use Rattle.ts_key.specs.Lists.{joined_lists}
use Rattle.udt_disk.specs.declared.file.DiskFile.{Ghosts}
use Rattle.udt_disk.specs.declared.name.FileName.TheVariants.{Table}
use Rattle.udt_disk.specs.Crash.{Only}
use Rattle.udt_model.specs.Collecting.{collect}
use Rattle.block_table.specs.Contents.{Contents, first_key, last_user_key}
use Rattle.block_table.specs.Pushed.{HaveBlockBytes}
use Rattle.block_table.specs.Tables.{IsTable}
use Rattle.block_table.specs.declared.fault.TableWriteFault.{TableWriteFault}
use Rattle.block_table.specs.declared.fault.TableWriteFault.TheVariants.{DiskFault, NoMemory}
use Rattle.super_version.specs.declared.jobs.JobCause.{JobCause}
use Rattle.super_version.specs.declared.jobs.JobCause.TheVariants.{Fault, Memory}
use Rattle.super_version.specs.Live.{Live}
use Rattle.super_version.specs.declared.jobs.Output.{Output}
use Rattle.super_version.specs.declared.jobs.Plan.{Plan}
use Rattle.compaction.specs.declared.sizes.TheConstants.{TABLE_BYTES}
use Rattle.compaction.specs.Feeding.{versions_in_tables}

-- a table of the family, in this form
pub record IsInput (family : Family) (form : Form) (t : Live) : Type 0 where
  pub family_is : t.table.contents.family ≡ family.0
  pub form_is : t.table.contents.form ≡ form
  pub table : IsTable t.table.contents t.table.image

-- all versions of the inputs
abbrev pub held_by : Plan → List Version
held_by plan = versions_in_tables plan.family plan.inputs

-- what is kept of them
abbrev pub kept_by : Plan → Ts → List Seq → List Version
kept_by plan floor seqs = collect (held_by plan) floor seqs plan.deeper

-- ---- cuts

-- the versions without those of the last key
abbrev pub before_last_key : List Item → List Item
before_last_key vs = filter (λ v. not (bytes_eq v.sort_key.key (last_user_key vs))) vs

-- the blocks of these contents have the bytes at which a table ends
pub record FillsTable (t : Contents) : Type 0 where
  pub bytes : ℕ
  pub counted : HaveBlockBytes t bytes
  pub reached : TABLE_BYTES ≤ bytes

-- or fewer
pub record LeavesRoom (t : Contents) : Type 0 where
  pub bytes : ℕ
  pub counted : HaveBlockBytes t bytes
  pub below : bytes < TABLE_BYTES

-- it has a version, and room before its last key
pub record IsPiece (t : Contents) : Type 0 where
  pub some : 0 < length t.items
  pub room : LeavesRoom (record t { items = before_last_key t.items })

-- it is full, and the key that comes next isn't its last
abbrev pub TableEndsBefore : Contents → Option (List ℕ) → Type 0
TableEndsBefore t None = ⊤
TableEndsBefore t (Some key) = FillsTable t × (last_user_key t.items ≢ key)

-- Each ends with the first key that fills it, but where no key comes next it may end earlier. No key stands in two of them.
abbrev pub AreCutBefore : Option (List ℕ) → List Contents → Type 0
AreCutBefore next [] = ⊤
AreCutBefore next (t ∷ []) = IsPiece t × TableEndsBefore t next
AreCutBefore next (t ∷ u ∷ rest) = IsPiece t × TableEndsBefore t (Some (first_key u.items)) × AreCutBefore next (u ∷ rest)

abbrev pub AreCutRightly : List Contents → Type 0
AreCutRightly ts = AreCutBefore None ts

abbrev pub contents_of_outputs : {F : Type 0} → List (Output F) → List Contents
contents_of_outputs outs = map (λ o. o.table.contents) outs

-- ---- outputs

-- The file bears the output's number, holds the bytes of its table and nothing else, also after a crash, and has never failed.
pub record HoldsOutput {F : Type 0} (g : Ghosts F) (is_told is_model : Bool) (o : Output F) : Type 0 where
  pub table : IsTable o.table.contents o.table.image
  pub kept : o.kept ≡ length o.table.contents.items
  pub name : g.name o.file ≡ Table o.number
  pub holds : IsTrue is_told → g.seen o.file ≡ o.table.image
  pub synced : Only (g.seen o.file) (g.may_leave o.file)
  pub faults : g.faults o.file ≡ 0
  pub told : g.is_told o.file ≡ is_told
  pub model : g.keeps_model o.file ≡ is_model

-- a table of the family and the form given, collected by the floor given, in its file
pub record IsOutput {F : Type 0} (g : Ghosts F) (family : Family) (form : Form) (floor : Ts) (told model : Bool) (o : Output F) : Type 0 where
  pub family_is : o.table.contents.family ≡ family.0
  pub form_is : o.table.contents.form ≡ form
  pub collected_by : o.table.contents.collected_by ≡ floor.0
  pub held : HoldsOutput g told model o

-- the outputs hold together these versions
pub record AreTablesOf {F : Type 0} (g : Ghosts F) (family : Family) (form : Form) (floor : Ts) (told model : Bool) (vs : List Version) (outs : List (Output F)) : Type 0 where
  pub hold : joined_lists (map (λ o. o.table.contents.items) outs) ≡ items_of vs
  pub cut : AreCutRightly (contents_of_outputs outs)
  pub each : AllByRecursion (IsOutput g family form floor told model) outs

-- ---- refusals

abbrev pub job_cause : TableWriteFault → JobCause
job_cause DiskFault = Fault
job_cause NoMemory = Memory
