-- The laws of engines, as this crate's functions state them.
use Rattle.std.specs.Prelude.{◌≡◌, ℕ, Bool, true, false, Contains, IsTrue, None}
use Rattle.udt_disk.specs.Joint.{Joint}
use Rattle.udt_disk.specs.Moments.{OnlyReads, alone}
use Rattle.udt_disk.specs.declared.file.DiskFile as file
use Rattle.udt_disk.specs.declared.disk.Disk as disk
use Rattle.udt_disk.specs.declared.name.FileName.TheVariants.{Table as TableName}
use Rattle.udt_model.specs.declared.reply.Reply.{Reply}
use Rattle.udt_model.specs.declared.reply.Reply.TheVariants.{Done, Fault, Kept, OkAt, Table}
use Rattle.udt_model.specs.State.{State, live_numbers}
use Rattle.udt_model.specs.Acts.{Act}
use Rattle.udt_model.specs.Acts.Act.{compact_end, flush_end, flush_start, raise, sync_all, write}
use Rattle.udt_model.specs.Steps.{IsReplyTo, after}
use Rattle.udt_model.specs.Crashes.{Course, IsOutcome, course_after}
use Rattle.super_version.specs.declared.version.SuperVersion.{SuperVersion}
use Rattle.store_engine.specs.Asides.{IsGivenBack}
use Rattle.store_engine.specs.Calls.{LeavesOutcomes, RanOn, RanUnder}
use Rattle.store_engine.specs.Engines.{HoldsNow, IsOneFolder, held}
use Rattle.store_engine.specs.declared.engine.Engine.{Engine}

-- With this reply the act changes nothing that an engine holds: it writes, raises and syncs nothing, starts no flush, ends no job with
-- what it made, and meets no fault of the disk.
abbrev pub is_beside : Act → Reply → Bool
is_beside act Fault = false
is_beside (write ops sync) (OkAt last) = false
is_beside (raise family floor) Done = false
is_beside sync_all Done = false
is_beside (flush_start family) (OkAt through) = false
is_beside (flush_end family start) (Table table kept floor) = false
is_beside (compact_end family start) (Kept kept pieces) = false
is_beside act reply = true

module _ {D F : Type 0} (d : disk.Ghosts D F) (f : file.Ghosts F) where
  -- what an engine and its super version hold, they hold behind acts that it doesn't take
  abbrev pub EnginesHoldBesides : Type 0
  EnginesHoldBesides = (engine : Engine D F f) (now : SuperVersion) (m : State) (c : Course) (number : ℕ) (act : Act) (reply : Reply)
      → HoldsNow d f engine now m c → IsReplyTo m act reply → IsTrue (is_beside act reply) → HoldsNow d f engine now (after m number act reply) (course_after m number c act reply)

  -- ---- what a crash leaves

  -- between two calls
  abbrev pub EnginesLeaveOutcomes : Type 0
  EnginesLeaveOutcomes = (engine : Engine D F f) (now : SuperVersion) (m : State) (c : Course) → HoldsNow d f engine now m c → LeavesOutcomes d f m c (held engine)

  -- behind a call under which the disk failed, on the course of the failed act
  abbrev pub FailedCallsLeaveOutcomes : Type 0
  FailedCallsLeaveOutcomes = (old new : Engine D F f) (m : State) (c : Course) (number : ℕ) (act : Act)
      → c.failing ≡ None → RanUnder d f m c number act old new → LeavesOutcomes d f (after m number act Fault) (course_after m number c act Fault) (held new)

  -- so it does behind one that was to change nothing
  abbrev pub FailedSyncsLeaveOutcomes : Type 0
  FailedSyncsLeaveOutcomes = (old new : Engine D F f) (m : State) (c : Course) (number : ℕ) (act : Act)
      → c.failing ≡ None → RanOn d f m c old new → LeavesOutcomes d f (after m number act Fault) (course_after m number c act Fault) (held new)

  -- and behind acts that an engine doesn't take, also where the disk has failed
  abbrev pub OutcomesStayBesides : Type 0
  OutcomesStayBesides = (j : Joint D F) (m : State) (c : Course) (number : ℕ) (act : Act) (reply : Reply)
      → IsTrue (is_beside act reply) → LeavesOutcomes d f m c j → LeavesOutcomes d f (after m number act reply) (course_after m number c act reply) j

  -- and where the file of a table is given back that is live in no outcome, also to a failed engine, while the disk keeps the model
  abbrev pub DiscardsLeaveOutcomes : Type 0
  DiscardsLeaveOutcomes = (old new : Engine D F f) (given : F) (number : ℕ) (m : State) (c : Course) → IsGivenBack d f given old new → f.name given ≡ TableName number → IsOneFolder d f old → IsTrue (d.keeps_model old.disk)
      → ((left : State) → IsOutcome m c left → ¬ Contains (live_numbers left) number) → LeavesOutcomes d f m c (held old) → RanOn d f m c old new

  -- and where an engine is closed, also a failed one
  abbrev pub ClosedLeaveOutcomes : Type 0
  ClosedLeaveOutcomes = (engine : Engine D F f) (closed : D) (m : State) (c : Course) → OnlyReads d f (held engine) (alone closed) → LeavesOutcomes d f m c (held engine) → LeavesOutcomes d f m c (alone closed)
