-- What the calls of an engine answer and leave.
use Rattle.std.specs.Prelude.{ℕ, ◌+◌, Bool, false, IfSome, List, Result, Ok, Err}
use Rattle.ts_key.specs.declared.batch.WriteOp.{WriteOp}
use Rattle.udt_disk.specs.Joint.{Joint, LeavesNow, Ran}
use Rattle.udt_disk.specs.declared.file.DiskFile as file
use Rattle.udt_disk.specs.declared.disk.Disk as disk
use Rattle.wal.specs.declared.numbered.Numbered.{Numbered}
use Rattle.udt_model.specs.State.{State}
use Rattle.udt_model.specs.Acts.{Act}
use Rattle.udt_model.specs.declared.reply.Reply.{Reply}
use Rattle.udt_model.specs.Steps.{IsReplyTo}
use Rattle.udt_model.specs.Crashes.{Course, IsOutcome, IsOutcomeUnder}
use Rattle.super_version.specs.declared.version.SuperVersion.{SuperVersion}
use Rattle.engine_laws.specs.Standing.{StandsForSome}
use Rattle.recovery.specs.Tables.{ReadsAsTable}
use Rattle.store_engine.specs.Engines.{held}
use Rattle.store_engine.specs.Replies.{is_disk_fault, reply_of_fault}
use Rattle.store_engine.specs.declared.engine.Engine.{Engine}
use Rattle.store_engine.specs.declared.fault.EngineFault.{EngineFault}

-- The answer is the model's, where memory didn't run out: with this reply, or by the fault.
abbrev pub Tells : {A : Type 0} → State → Act → Reply → Result A EngineFault → Type 0
Tells m act reply (Ok a) = IsReplyTo m act reply
Tells m act reply (Err fault) = IfSome (reply_of_fault fault) (IsReplyTo m act)

-- the answer is a fault of the disk
abbrev pub is_disk_failure : {A : Type 0} → Result A EngineFault → Bool
is_disk_failure (Ok a) = false
is_disk_failure (Err fault) = is_disk_fault fault

-- the batch of a write that follows the last sequence
abbrev pub batch_behind : SuperVersion → List WriteOp → Numbered
batch_behind now ops = record { first = record { 0 = now.last.0 + 1 }; batch = ops }

module _ {D F : Type 0} (d : disk.Ghosts D F) (f : file.Ghosts F) where
  -- a crash leaves only folders that stand for outcomes of the state on its course
  abbrev pub LeavesOutcomes : State → Course → Joint D F → Type 0
  LeavesOutcomes m c j = LeavesNow d f (λ folder. StandsForSome ReadsAsTable folder (IsOutcome m c)) j

  -- at each moment between the two each folder that a crash may leave stands for an outcome of the state on its course, or of the act
  abbrev pub RanUnder : State → Course → ℕ → Act → Engine D F f → Engine D F f → Type 0
  RanUnder m c number act old new = Ran d f (λ folder. StandsForSome ReadsAsTable folder (IsOutcomeUnder m c number act)) (held old) (held new)

  -- the same where the act changes nothing
  abbrev pub RanOn : State → Course → Engine D F f → Engine D F f → Type 0
  RanOn m c old new = Ran d f (λ folder. StandsForSome ReadsAsTable folder (IsOutcome m c)) (held old) (held new)
