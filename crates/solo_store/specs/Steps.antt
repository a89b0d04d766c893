-- What an event does to a store, and what it answers.
use Rattle.std.specs.Prelude.{◌≡◌, ℕ, ◌+◌, ◌≤◌, ⊤, Bool, true, false, IsTrue, List, Option, Some, None}
use Rattle.udt_disk.specs.Causes.{IsCause}
use Rattle.udt_disk.specs.declared.file.DiskFile as file
use Rattle.udt_disk.specs.declared.disk.Disk as disk
use Rattle.udt_model.specs.declared.event.Event.{Event}
use Rattle.udt_model.specs.declared.event.Event.TheVariants.{FlushEnd, FlushStart}
use Rattle.udt_model.specs.declared.reply.Reply.{Reply}
use Rattle.udt_model.specs.declared.reply.Reply.TheVariants.{Fault, Halted, OkAt, Table}
use Rattle.udt_model.specs.Acts.{Act}
use Rattle.udt_model.specs.Crashes.{Course}
use Rattle.udt_model.specs.Lines.{IsReply, says_fault, says_files}
use Rattle.udt_model.specs.Names.{no_names}
use Rattle.udt_model.specs.State.{State}
use Rattle.manifest_fold.specs.declared.limits.TheConstants.{FILE_NUMBER_LIMIT}
use Rattle.store_engine.specs.Calls.{RanOn, RanUnder}
use Rattle.store_engine.specs.declared.engine.Engine.{Engine}
use Rattle.solo_store.specs.Acting.{act_in, course_behind_event, state_behind_event}
use Rattle.solo_store.specs.Names.{family_named}
use Rattle.solo_store.specs.Replies.{is_given}
use Rattle.solo_store.specs.Stores.{HoldsStore, IsStoreReady, engine_of, store_faults, store_next}
use Rattle.solo_store.specs.declared.store.RunningFlush.{RunningFlush}
use Rattle.solo_store.specs.declared.store.Store.{Store}

-- it neither starts nor ends a flush
abbrev pub keeps_flush : Event → Bool
keeps_flush (FlushStart family) = false
keeps_flush (FlushEnd family start) = false
keeps_flush event = true

-- since which event the store is halted, behind this reply to the event of this number
abbrev pub halted_by : Option ℕ → ℕ → Reply → Option ℕ
halted_by before number Fault = Some number
halted_by before number reply = before

-- that it is halted is told of one that is, since this event
abbrev pub IsHaltedSince : Option ℕ → Reply → Type 0
IsHaltedSince before (Halted since) = before ≡ Some since
IsHaltedSince before reply = ⊤

-- A fault of the disk is told exactly where its faults rose; but behind a table that went live files may stay that could not be removed.
abbrev pub IsReplyCause : Reply → ℕ → ℕ → Type 0
IsReplyCause (Table table kept floor) before now = before ≤ now
IsReplyCause reply before now = IsCause (says_fault reply) before now

-- the disk goes on telling and keeping what it did
pub record IsSameDisk {D F : Type 0} (d : disk.Ghosts D F) (old new : D) : Type 0 where
  pub told : d.is_told new ≡ d.is_told old
  pub model : d.keeps_model new ≡ d.keeps_model old

-- the flush of this start, of the family of this name, runs
pub record RunsFlush {D F : Type 0} {f : file.Ghosts F} (store : Store D F f) (start : ℕ) (name : List ℕ) : Type 0 where
  pub flush : RunningFlush
  pub runs : store.flush ≡ Some flush
  pub of_start : flush.start ≡ start
  pub of_family : flush.family ≡ family_named store.names.items name

-- with this reply to its start a flush runs, and with any other the same one as before, if one did
abbrev pub StartsFlush : {D F : Type 0} {f : file.Ghosts F} → Reply → Store D F f → Store D F f → ℕ → List ℕ → Type 0
StartsFlush (OkAt through) old new number name = RunsFlush new number name
StartsFlush reply old new number name = new.flush ≡ old.flush

module _ {D F : Type 0} (d : disk.Ghosts D F) (f : file.Ghosts F) where
  -- at each moment between the two each folder that a crash may leave stands for an outcome, of the state on its course or of the event
  abbrev pub RanUnderEvent : State → Course → ℕ → Option Act → Engine D F f → Engine D F f → Type 0
  RanUnderEvent m c number None old new = RanOn d f m c old new
  RanUnderEvent m c number (Some act) old new = RanUnder d f m c number act old new

  -- The event of this number was made. For each state that the store held the reply is legal, the store holds the state behind it, on its
  -- course, and at each moment a crash left outcomes. The next event may be made. Whether or not the disk tells what it holds: the store is
  -- halted behind a fault, and tells so; no file numbers are left where that is told, and one is drawn at most.
  pub record IsStep (old new : Store D F f) (number : ℕ) (event : Event) (reply : Reply) : Type 0 where
    pub legal : (m : State) (c : Course) → HoldsStore d f old m c → IsReply 0 m no_names event reply
    pub holds : (m : State) (c : Course) → HoldsStore d f old m c → HoldsStore d f new (state_behind_event m number event reply) (course_behind_event m number c event reply)
    pub moments : (m : State) (c : Course) → HoldsStore d f old m c → RanUnderEvent m c number (act_in m event) (engine_of old) (engine_of new)
    pub ready : IsStoreReady d f new
    pub names : new.names.items ≡ old.names.items
    pub flush : IsTrue (keeps_flush event) → new.flush ≡ old.flush
    pub counted : IsReplyCause reply (store_faults d f old) (store_faults d f new)
    pub given : IsTrue (is_given reply)
    pub halted : new.halted ≡ halted_by old.halted number reply
    pub since : IsHaltedSince old.halted reply
    pub files : IsTrue (says_files reply) → FILE_NUMBER_LIMIT ≤ store_next old
    pub draws : (store_next old ≤ store_next new) × (store_next new ≤ store_next old + 1)
    pub same : IsSameDisk d (engine_of old).disk (engine_of new).disk
