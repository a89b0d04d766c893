-- What a write-ahead log holds, and what waits in it.
use Rattle.std.specs.Prelude.{◌≡◌, ◌==◌, ◌&&◌, ℕ, Bool, List, [], ◌∷◌, ◌++◌, length, All, IsTrue}
use Rattle.udt_disk.specs.Crash.{Only}
use Rattle.udt_disk.specs.declared.file.DiskFile.{Ghosts}
use Rattle.gate_log.specs.GateLog as gate
use Rattle.wal.specs.Records.{batch_bytes, IsLoggedBatch}
use Rattle.wal.specs.Sequences.{next_sequence, IsNextSequence, IsInSequence}
use Rattle.wal.specs.Bodies.{front_bytes, body_bytes, is_first_behind, HoldsBatches}
use Rattle.wal.specs.declared.numbered.Numbered.{Numbered}
use Rattle.wal.specs.declared.wal.Wal.{Wal}

module _ {F : Type 0} {g : Ghosts F} where
  -- the file that the log holds
  abbrev pub wal_file : Wal F g → F
  wal_file wal = gate.log_file wal.log

  -- the size of the timestamps of each family
  abbrev pub wal_sizes : Wal F g → List ℕ
  wal_sizes wal = wal.sizes

  -- how many bytes aren't on the disk
  abbrev pub wal_pending : Wal F g → ℕ
  wal_pending wal = length wal.waiting.items

  -- the body of the frame that the next sync writes
  abbrev pub wal_waiting : Wal F g → List ℕ
  wal_waiting wal = wal.waiting.items

  -- the same, where this batch waits too
  abbrev pub waiting_with : Wal F g → Numbered → List ℕ
  waiting_with wal n = wal_waiting wal ++ (front_bytes (wal_sizes wal) (wal.is_fresh && (wal_pending wal == 0)) ++ batch_bytes n)

  -- the offset behind the log's last frame
  abbrev pub wal_end : Wal F g → ℕ
  wal_end wal = gate.log_end wal.log

-- the body of the frame that the next sync writes: nothing where no batch waits
abbrev pub waiting_bytes : List ℕ → Bool → List Numbered → List ℕ
waiting_bytes sizes is_first [] = []
waiting_bytes sizes is_first (batch ∷ batches) = body_bytes sizes is_first (batch ∷ batches)

-- what reads of the file give is a log of these batches, and those wait, their sequences going on
pub record IsWalOf {F : Type 0} (g : Ghosts F) (wal : Wal F g) (batches waiting : List Numbered) : Type 0 where
  pub bodies : List (List ℕ)
  pub logged : gate.IsLogOf g wal.log bodies
  pub held : HoldsBatches wal.sizes bodies batches
  pub fresh : wal.is_fresh ≡ is_first_behind bodies
  pub allowed : All (IsLoggedBatch (length wal.sizes)) waiting
  pub waits : wal.waiting.items ≡ waiting_bytes wal.sizes wal.is_fresh waiting
  pub sequence : IsInSequence (batches ++ waiting)

-- the same, and a crash leaves nothing else
pub record Holds {F : Type 0} (g : Ghosts F) (wal : Wal F g) (batches waiting : List Numbered) : Type 0 where
  pub shown : IsWalOf g wal batches waiting
  pub durable : Only (g.seen (wal_file wal)) (g.may_leave (wal_file wal))

-- where the file tells what it holds, it is a log of some batches, and some wait
abbrev pub IsWalReady : {F : Type 0} (g : Ghosts F) → Wal F g → Type 0
IsWalReady g wal = IsTrue (g.is_told (wal_file wal)) → (batches : List Numbered) × (waiting : List Numbered) × IsWalOf g wal batches waiting

-- the same, and a batch that begins with this sequence may go on there
abbrev pub MayGoOn : {F : Type 0} (g : Ghosts F) → Wal F g → ℕ → Type 0
MayGoOn g wal first = IsTrue (g.is_told (wal_file wal)) → (batches : List Numbered) × (waiting : List Numbered) × IsWalOf g wal batches waiting × IsNextSequence (next_sequence (batches ++ waiting)) first
