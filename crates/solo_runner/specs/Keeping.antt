-- How the log of a folder keeps what a store in it was told, and what a crash may leave of it.
use Rattle.std.specs.Prelude.{◌≡◌, ◌≤◌, List, ◌++◌, Contains, None}
use Rattle.udt_disk.specs.Crash.{Image}
use Rattle.udt_disk.specs.declared.file.DiskFile.{Ghosts}
use Rattle.udt_model.specs.State.{State}
use Rattle.udt_model.specs.Crashes.{Course, IsOutcome}
use Rattle.wal.specs.declared.numbered.Numbered.{Numbered}
use Rattle.wal.specs.declared.wal.Wal.{Wal}
use Rattle.wal.specs.Wals.{Holds, wal_file}
use Rattle.wal.specs.Replays.{ReadsAs}
use Rattle.head_manifest.specs.declared.fold.Folded.{Folded}
use Rattle.plain_recovery.specs.Stores.{last_of, sizes_of, state_of}

-- a crash left a log of batches, and with them the folder stands for an outcome of the history
pub record ReadsAsOutcome (fold : Folded) (m : State) (c : Course) (image : Image) : Type 0 where
  pub batches : List Numbered
  pub reads : ReadsAs (sizes_of fold) batches image
  pub outcome : IsOutcome m c (state_of fold batches)

module _ {F : Type 0} (g : Ghosts F) where
  -- the log holds these batches and others wait, the state is that of all of them, and both are ends of the history
  pub record IsLive (fold : Folded) (wal : Wal F g) (m : State) (c : Course) : Type 0 where
    pub batches : List Numbered
    pub waiting : List Numbered
    pub holds : Holds g wal batches waiting
    pub state_is : m ≡ state_of fold (batches ++ waiting)
    pub here : Contains c.ends (last_of fold.last.0 batches)
    pub all : Contains c.ends m.last.0
    pub synced : c.synced ≤ last_of fold.last.0 batches

  -- While the store isn't halted its log goes with its state; and whatever a crash leaves of the log is an outcome.
  pub record Keeps (fold : Folded) (wal : Wal F g) (m : State) (c : Course) : Type 0 where
    pub live : m.halted ≡ None → IsLive fold wal m c
    pub outcomes : (image : Image) → g.may_leave (wal_file wal) image → ReadsAsOutcome fold m c image
