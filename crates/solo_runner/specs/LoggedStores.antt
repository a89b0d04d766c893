-- A store with its log, and what its steps leave.
use Rattle.std.specs.Prelude.{◌≡◌, ◌⊎◌, ℕ, ◌+◌, ◌≤◌, Bool, true, false, length, None, ⊤}
use Rattle.udt_disk.specs.Causes.{Rose}
use Rattle.udt_disk.specs.declared.file.DiskFile.{Ghosts}
use Rattle.udt_model.specs.declared.event.Event.{Event}
use Rattle.udt_model.specs.declared.event.Event.TheVariants.{Write}
use Rattle.udt_model.specs.declared.reply.Reply.{Reply}
use Rattle.udt_model.specs.State.{State, heads_of}
use Rattle.udt_model.specs.Crashes.{Course}
use Rattle.solo_runner.specs.Named.{course_after_event}
use Rattle.solo_runner.specs.Named.{IsReplyByName, after_by_name}
use Rattle.udt_model.specs.Lines.{says_fault}
use Rattle.udt_disk.specs.Runs.{IsSameFile}
use Rattle.udt_disk.specs.Runs.{Leaves}
use Rattle.wal.specs.declared.wal.Wal.{Wal}
use Rattle.wal.specs.Wals.{wal_file, wal_sizes}
use Rattle.head_manifest.specs.declared.fold.Folded.{Folded}
use Rattle.client_lang.specs.Print.{IsBuiltReply}
use Rattle.solo_runner.specs.declared.logged.LoggedStore.{LoggedStore}
use Rattle.solo_runner.specs.Keeping.{Keeps, ReadsAsOutcome}
use Rattle.solo_runner.specs.Logging.{HasRoom, IsPutOff, numbered_of}
use Rattle.plain_recovery.specs.Stores as stores

-- a disk fault comes only where the count of the file rose; else it stays
abbrev pub IsStepCause : ℕ → ℕ → Bool → Type 0
IsStepCause before now true = Rose before now
IsStepCause before now false = now ≡ before

module _ {F : Type 0} {g : Ghosts F} where
  -- the log
  abbrev pub wal_of : LoggedStore F g → Wal F g
  wal_of s = s.wal

  -- the state, which says whether the disk failed
  abbrev pub store_state : LoggedStore F g → State
  store_state s = record s.plain { halted = s.halted }

module _ {F : Type 0} (g : Ghosts F) where
  -- Until the disk failed the next write may be logged. The log has the sizes of the store's families.
  pub record IsInStep (wal : Wal F g) (m : State) : Type 0 where
    pub ready : m.halted ≡ None → HasRoom g wal (m.last.0 + 1)
    pub sizes : length (wal_sizes wal) ≡ length (heads_of m)

  -- Where the old log kept the history, the new one keeps it with this event; and at each moment between them a crash left an
  -- outcome of the one or of the other. The families of the fold have the log's sizes.
  pub record KeepsOn (old new : Wal F g) (m n : State) (number : ℕ) (event : Event) (reply : Reply) : Type 0 where
    pub keeps : (fold : Folded) (c : Course) → fold.last.0 ≡ 0 → stores.sizes_of fold ≡ wal_sizes old → Keeps g fold old m c → Keeps g fold new n (course_after_event m number c event reply)
    pub moments : (fold : Folded) (c : Course) → fold.last.0 ≡ 0 → stores.sizes_of fold ≡ wal_sizes old → Keeps g fold old m c
        → Leaves g (wal_file old) (wal_file new) (λ image. ReadsAsOutcome fold m c image ⊎ ReadsAsOutcome fold n (course_after_event m number c event reply) image)

  -- a write that isn't to be synced waits; so it does until the next sync, or until so many bytes wait
  abbrev pub PutsOff : Wal F g → Wal F g → State → Event → Type 0
  PutsOff old new m (Write ops sync) = IsPutOff g old new (numbered_of m ops) sync
  PutsOff old new m event = ⊤

  -- what the event of this number leaves of the log and the state with this reply, and that the reply is legal
  pub record IsStep (old new : Wal F g) (m n : State) (number : ℕ) (event : Event) (reply : Reply) : Type 0 where
    pub legal : IsReplyByName m event reply
    pub after_is : n ≡ after_by_name m number event reply
    pub built : IsBuiltReply reply
    pub in_step : IsInStep new n
    pub cause : IsStepCause (g.faults (wal_file old)) (g.faults (wal_file new)) (says_fault reply)
    pub later : g.faults (wal_file old) ≤ g.faults (wal_file new)
    pub same : IsSameFile g (wal_file old) (wal_file new)
    pub sizes : wal_sizes new ≡ wal_sizes old
    pub keeps_on : KeepsOn old new m n number event reply
    pub puts_off : PutsOff old new m event
