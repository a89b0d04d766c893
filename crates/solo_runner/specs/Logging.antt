-- What adding a batch to a log leaves, where it may be synced too.
use Rattle.std.specs.Prelude.{◌≡◌, ◌⊎◌, ℕ, ◌<◌, ◌≤◌, Bool, true, false, List, [], ◌∷◌, ◌++◌, ◌+◌, length, drop, map, ⊤, Result, Ok, Err}
use Rattle.udt_disk.specs.Causes.{Rose}
use Rattle.udt_disk.specs.declared.file.DiskFile.{Ghosts}
use Rattle.udt_disk.specs.Runs.{IsSameFile}
use Rattle.udt_disk.specs.Runs.{Leaves}
use Rattle.gate_log.specs.declared.fault.LogFault.{LogFault}
use Rattle.gate_log.specs.declared.fault.LogFault.TheVariants.{DiskFault, NoMemory}
use Rattle.udt_model.specs.State.{State}
use Rattle.udt_model.specs.declared.event.NamedOp.{NamedOp}
use Rattle.wal.specs.declared.numbered.Numbered.{Numbered}
use Rattle.wal.specs.declared.wal.Wal.{Wal}
use Rattle.wal.specs.declared.wal.TheConstants.{PENDING_LIMIT}
use Rattle.wal.specs.Replays.{IsBeforeOrAfter}
use Rattle.wal.specs.Sequences.{sequence_after}
use Rattle.wal.specs.Wals.{Holds, MayGoOn, waiting_with, wal_file, wal_pending, wal_sizes}
use Rattle.solo_runner.specs.Adding.{op_of_version}
use Rattle.solo_runner.specs.Named.{versions_made}

-- the batch of the versions of a store behind the first ones, with the sequences behind the last one
abbrev pub batch_behind : State → ℕ → Numbered
batch_behind m count = record { first = record { 0 = m.last.0 + 1 }; batch = map op_of_version (drop count m.versions) }

-- the batch of a write's operations, with the sequences behind the last one
abbrev pub numbered_of : State → List NamedOp → Numbered
numbered_of m ops = record { first = record { 0 = m.last.0 + 1 }; batch = map op_of_version (versions_made m m.last.0 ops) }

module _ {F : Type 0} (g : Ghosts F) where
  -- a batch that begins with this sequence may be added
  pub record HasRoom (wal : Wal F g) (first : ℕ) : Type 0 where
    pub next : MayGoOn g wal first
    pub room : wal_pending wal < PENDING_LIMIT

  -- what the log holds: the batch waits or is on the disk, where a sync was asked on the disk; without memory what it held
  abbrev pub HoldsLogged : Wal F g → List Numbered → List Numbered → Numbered → Bool → Result (Unit {0}) LogFault → Type 0
  HoldsLogged wal batches waiting n true (Ok done) = Holds g wal (batches ++ (waiting ++ n ∷ [])) []
  HoldsLogged wal batches waiting n false (Ok done) = Holds g wal batches (waiting ++ n ∷ []) ⊎ Holds g wal (batches ++ (waiting ++ n ∷ [])) []
  HoldsLogged wal batches waiting n sync (Err DiskFault) = ⊤
  HoldsLogged wal batches waiting n sync (Err NoMemory) = Holds g wal batches waiting

  -- the next batch may go on behind this one; without memory in its place, and the file is as it was
  abbrev pub GoesOnLogged : Wal F g → Wal F g → Numbered → Result (Unit {0}) LogFault → Type 0
  GoesOnLogged old new n (Ok done) = HasRoom new (sequence_after n) × (g.faults (wal_file new) ≡ g.faults (wal_file old))
  GoesOnLogged old new n (Err DiskFault) = Rose (g.faults (wal_file old)) (g.faults (wal_file new))
  GoesOnLogged old new n (Err NoMemory) = HasRoom new n.first.0 × (wal_file new ≡ wal_file old)

  -- a batch that needn't be synced waits, without a call of the file, unless so many bytes wait then
  abbrev pub IsPutOff : Wal F g → Wal F g → Numbered → Bool → Type 0
  IsPutOff old new n sync = sync ≡ false → length (waiting_with old n) < PENDING_LIMIT → wal_file new ≡ wal_file old

  -- the batch was added, and perhaps synced; at each moment a crash leaves the batches from before or all
  pub record IsLogged (old new : Wal F g) (n : Numbered) (sync : Bool) (result : Result (Unit {0}) LogFault) : Type 0 where
    pub goes_on : GoesOnLogged old new n result
    pub holds : (batches waiting : List Numbered) → Holds g old batches waiting → HoldsLogged new batches waiting n sync result
    pub moments : (batches waiting : List Numbered) → Holds g old batches waiting → Leaves g (wal_file old) (wal_file new) (IsBeforeOrAfter (wal_sizes old) batches (waiting ++ n ∷ []))
    pub later : g.faults (wal_file old) ≤ g.faults (wal_file new)
    pub same : IsSameFile g (wal_file old) (wal_file new)
    pub sizes : wal_sizes new ≡ wal_sizes old
    pub put_off : IsPutOff old new n sync
