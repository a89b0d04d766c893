-- The table of a flush, written.
use Rattle.std.proofs.Common.{◌≡◌, [], Some}
use Rattle.std.specs.Prelude.{Result, Ok, Err, slice_get}
use Rattle.udt_disk.specs.declared.file.DiskFile as file
use Rattle.super_version.specs.declared.family.FamilyState.{FamilyState}
use Rattle.super_version.specs.declared.jobs.JobCause.{JobCause}
use Rattle.super_version.specs.declared.jobs.JobCause.TheVariants.{Fault, Memory, Files, Halted}
use Rattle.super_version.specs.declared.jobs.TableOut.{TableOut}
use Rattle.super_version.specs.declared.version.SuperVersion.{SuperVersion}
use Rattle.flush_job.specs.Flushes.{AreFlushable, Flushes, flush_contents}
use Rattle.flush_job.specs.Walks.{versions_of_all}
use Rattle.solo_store.specs.Flushing.{IsFlushWritten}
use Rattle.solo_store.specs.declared.store.RunningFlush.{RunningFlush}

pub written_flush : {F : Type 0} (f : file.Ghosts F) (now : SuperVersion) (flush : RunningFlush) (g : FamilyState) (old new : F) (result : Result TableOut JobCause) → slice_get now.families flush.family.0 ≡ Some g
    → AreFlushable flush.family (versions_of_all g.sealed) → Flushes f flush.family g.form flush.floor [] (versions_of_all g.sealed) old new result → IsFlushWritten f now flush old new result
written_flush f now flush g old new (Ok out) at flushable flushes = record { state = g; at = at; flushable = flushable; flushes = flushes }
written_flush f now flush g old new (Err Fault) at flushable flushes = (flush_contents flush.family g.form flush.floor [] (versions_of_all g.sealed), flushes)
written_flush f now flush g old new (Err Memory) at flushable flushes = flushes
written_flush f now flush g old new (Err (Files next)) at flushable flushes = flushes
written_flush f now flush g old new (Err (Halted since)) at flushable flushes = flushes
