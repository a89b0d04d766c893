-- What ends a flush.
use Rattle.std.specs.Prelude.{◌≡◌, List, [], slice_get, Option, Some, None, Result, Ok, Err}
use Rattle.ts_key.specs.declared.numbers.Family.{Family}
use Rattle.udt_disk.specs.declared.file.DiskFile as file
use Rattle.memtable.specs.Memtables.{Memtable}
use Rattle.block_table.specs.Contents.{Contents}
use Rattle.block_table.specs.Writes.{WritesTable}
use Rattle.block_table.specs.declared.fault.TableWriteFault.TheVariants as writes
use Rattle.udt_model.specs.declared.reply.Reply.{Reply}
use Rattle.udt_model.specs.declared.reply.Reply.TheVariants as replies
use Rattle.super_version.specs.declared.family.FamilyState.{FamilyState}
use Rattle.super_version.specs.declared.jobs.JobCause.{JobCause}
use Rattle.super_version.specs.declared.jobs.JobCause.TheVariants.{Fault, Memory, Files, Halted}
use Rattle.super_version.specs.declared.jobs.TableOut.{TableOut}
use Rattle.super_version.specs.declared.version.SuperVersion.{SuperVersion}
use Rattle.store_engine.specs.declared.fault.EngineFault.{EngineFault}
use Rattle.store_engine.specs.declared.fault.EngineFault.TheVariants as faults
use Rattle.flush_job.specs.Flushes.{AreFlushable, Flushes}
use Rattle.flush_job.specs.Walks.{versions_of_all}
use Rattle.solo_store.specs.declared.store.RunningFlush.{RunningFlush}

-- what is told of a flush that made no table
abbrev pub dropped_told : JobCause → Reply
dropped_told Fault = replies.DroppedFault
dropped_told Memory = replies.DroppedMemory
dropped_told (Files next) = replies.DroppedFiles next
dropped_told (Halted since) = replies.Halted since

-- and of one for which there was no file
abbrev pub told_without_file : EngineFault → Reply
told_without_file (faults.FilesFull next) = replies.DroppedFiles next
told_without_file faults.NoMemory = replies.DroppedMemory
told_without_file fault = replies.DroppedFault

-- and of one whose table wasn't installed
abbrev pub told_undone : EngineFault → Reply
told_undone faults.DiskFault = replies.Fault
told_undone fault = replies.DroppedMemory

abbrev pub sealed_of : Option FamilyState → List Memtable
sealed_of None = []
sealed_of (Some g) = g.sealed

-- the sealed memtables of a family
abbrev pub sealed_in : SuperVersion → Family → List Memtable
sealed_in now family = sealed_of (slice_get now.families family.0)

-- the table was written to the file, of the versions of all sealed memtables of the family, in its form
pub record WritesFlush {F : Type 0} (f : file.Ghosts F) (now : SuperVersion) (flush : RunningFlush) (old new : F) (out : TableOut) : Type 0 where
  pub state : FamilyState
  pub at : slice_get now.families flush.family.0 ≡ Some state
  pub flushable : AreFlushable flush.family (versions_of_all state.sealed)
  pub flushes : Flushes f flush.family state.form flush.floor [] (versions_of_all state.sealed) old new (Ok out)

-- So it was; or the file failed in that; or there was no memory, before any call of the file.
abbrev pub IsFlushWritten : {F : Type 0} (f : file.Ghosts F) → SuperVersion → RunningFlush → F → F → Result TableOut JobCause → Type 0
IsFlushWritten f now flush old new (Ok out) = WritesFlush f now flush old new out
IsFlushWritten f now flush old new (Err Fault) = (contents : Contents) × WritesTable f contents old new (Err writes.DiskFault)
IsFlushWritten f now flush old new (Err Memory) = new ≡ old
IsFlushWritten f now flush old new (Err (Files next)) = ⊥
IsFlushWritten f now flush old new (Err (Halted since)) = ⊥
