-- What a flush makes.
use Rattle.std.specs.Prelude.{◌≡◌, ◌<◌, All, List, length, Result, Ok, Err}
use Rattle.ts_key.specs.declared.numbers.Family.{Family}
use Rattle.ts_key.specs.declared.numbers.Seq.{Seq}
use Rattle.ts_key.specs.declared.numbers.Ts.{Ts}
use Rattle.ts_key.specs.declared.version.Form.{Form}
use Rattle.ts_key.specs.declared.version.Form.TheVariants.{Persist}
use Rattle.ts_key.specs.declared.version.Version.{Version}
use Rattle.ts_key.specs.Items.{items_of}
use Rattle.ts_key.specs.StoredKeys.{IsSequence, IsStamp}
use Rattle.udt_disk.specs.declared.file.DiskFile.{Ghosts}
use Rattle.udt_model.specs.Collecting.{collect_all}
use Rattle.udt_model.specs.Jobs.{floor_over, in_form}
use Rattle.floor_laws.specs.Lists.{HaveOwnSequences}
use Rattle.block_table.specs.Contents.{Contents}
use Rattle.block_table.specs.Pushed.{contents_of}
use Rattle.block_table.specs.Writes.{WritesTable}
use Rattle.block_table.specs.declared.fault.TableWriteFault.TheVariants as faults
use Rattle.super_version.specs.declared.jobs.JobCause.{JobCause}
use Rattle.super_version.specs.declared.jobs.JobCause.TheVariants.{Fault, Memory, Files, Halted}
use Rattle.super_version.specs.declared.jobs.TableOut.{TableOut}

-- Versions of a family that may be flushed: there is one, no two have one sequence, and each has a spelling.
pub record AreFlushable (family : Family) (vs : List Version) : Type 0 where
  pub some : 0 < length vs
  pub one_family : All (λ v. v.family ≡ family) vs
  pub own : HaveOwnSequences vs
  pub stamps : All (λ v. IsStamp Persist v.ts.0) vs
  pub sequences : All (λ v. IsSequence v.seq.0) vs

-- the table that a flush makes of versions of a family: their collection, where every key may have versions deeper, in the table's form
abbrev pub flush_contents : Family → Form → Ts → List Seq → List Version → Contents
flush_contents family form floor seqs vs = contents_of family form floor (items_of (in_form form (collect_all vs floor seqs)))

-- That table was written and synced, and is answered with the count of its versions and the floor that the family has then; or the
-- file failed in that; or memory ran out, before any call of the file.
abbrev pub Flushes : {F : Type 0} (g : Ghosts F) → Family → Form → Ts → List Seq → List Version → F → F → Result TableOut JobCause → Type 0
Flushes g family form floor seqs vs old new (Ok out) = WritesTable g (flush_contents family form floor seqs vs) old new (Ok out.table) × (out.kept ≡ length (flush_contents family form floor seqs vs).items) × (out.floor ≡ floor_over form floor vs)
Flushes g family form floor seqs vs old new (Err Fault) = WritesTable g (flush_contents family form floor seqs vs) old new (Err faults.DiskFault)
Flushes g family form floor seqs vs old new (Err Memory) = WritesTable g (flush_contents family form floor seqs vs) old new (Err faults.NoMemory)
Flushes g family form floor seqs vs old new (Err (Files next)) = ⊥
Flushes g family form floor seqs vs old new (Err (Halted since)) = ⊥
