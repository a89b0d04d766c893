-- What the steps of a call leave: a batch and a sync of the log, and an edit of the manifest.
use Rattle.std.specs.Prelude.{◌≡◌, ◌⊎◌, ℕ, ◌<◌, ◌≤◌, Bool, List, [], ◌∷◌, ◌++◌, length, true, false, IsOk, IfErr, OnOk, OnErr, Result}
use Rattle.ts_key.specs.declared.batch.WriteOp.{WriteOp}
use Rattle.udt_disk.specs.Causes.{HasCause, IsCause}
use Rattle.udt_disk.specs.Runs.{IsSameFile, Leaves}
use Rattle.udt_disk.specs.declared.disk.Disk as disk
use Rattle.udt_disk.specs.declared.file.DiskFile.{Ghosts}
use Rattle.wal.specs.declared.numbered.Numbered.{Numbered}
use Rattle.wal.specs.declared.wal.TheConstants.{PENDING_LIMIT}
use Rattle.wal.specs.Replays.{IsBeforeOrAfter}
use Rattle.wal.specs.Sequences.{sequence_after}
use Rattle.wal.specs.Wals.{Holds, MayGoOn, waiting_with, wal_file, wal_pending, wal_sizes, wal_waiting}
use Rattle.manifest_edit.specs.declared.edit.Edit.{Edit}
use Rattle.manifest_fold.specs.Folds.{fold_with}
use Rattle.manifest.specs.Files.{IsEditImage}
use Rattle.manifest.specs.Manifest.{FoldRests, IsEditReserved, manifest_file, manifest_folded}
use Rattle.super_version.specs.Writes.{AddsBatch}
use Rattle.super_version.specs.declared.version.SuperVersion.{SuperVersion}
use Rattle.store_engine.specs.Calls.{batch_behind, is_disk_failure}
use Rattle.store_engine.specs.Engines.{IsOneFolder, IsRunning, engine_faults, has_failed, held}
use Rattle.store_engine.specs.Jobs.{IsJobNumber}
use Rattle.store_engine.specs.Replies.{is_disk_fault}
use Rattle.store_engine.specs.declared.engine.Engine.{Engine}
use Rattle.store_engine.specs.declared.fault.EngineFault.{EngineFault}
use Rattle.store_engine.specs.declared.fault.EngineFault.TheVariants.{DiskFault, NoMemory}

-- The log was synced, and nothing else was touched.
pub record IsLogSynced {D F : Type 0} (f : Ghosts F) (old new : Engine D F f) (result : Result (Unit {0}) EngineFault) : Type 0 where
  pub disk : new.disk ≡ old.disk
  pub manifest : new.manifest ≡ old.manifest
  pub next : new.next ≡ old.next
  pub older : new.older ≡ old.older
  pub holds : (batches waiting : List Numbered) → Holds f old.wal batches waiting → OnOk result (Holds f new.wal (batches ++ waiting) [])
  pub goes_on : (first : ℕ) → MayGoOn f old.wal first → OnOk result (MayGoOn f new.wal first)
  pub moments : (batches waiting : List Numbered) → Holds f old.wal batches waiting → Leaves f (wal_file old.wal) (wal_file new.wal) (IsBeforeOrAfter (wal_sizes old.wal) batches waiting)
  pub pending : OnOk result (wal_pending new.wal ≡ 0)
  pub none : wal_pending old.wal ≡ 0 → IsOk result × (wal_file new.wal ≡ wal_file old.wal)
  pub cause : HasCause (f.faults (wal_file old.wal)) (f.faults (wal_file new.wal)) result
  pub same : IsSameFile f (wal_file old.wal) (wal_file new.wal)
  pub sizes : wal_sizes new.wal ≡ wal_sizes old.wal
  pub running : OnOk result (IsRunning new)
  pub failed : has_failed new ≡ is_disk_failure result
  pub fault : IfErr result (λ fault. fault ≡ DiskFault)

-- The batch waits in the log where memory didn't run out. No file is touched.
pub record IsAdded {D F : Type 0} (f : Ghosts F) (b : Numbered) (old new : Engine D F f) (result : Result (Unit {0}) EngineFault) : Type 0 where
  pub disk : new.disk ≡ old.disk
  pub manifest : new.manifest ≡ old.manifest
  pub next : new.next ≡ old.next
  pub older : new.older ≡ old.older
  pub file : wal_file new.wal ≡ wal_file old.wal
  pub sizes : wal_sizes new.wal ≡ wal_sizes old.wal
  pub holds : (batches waiting : List Numbered) → Holds f old.wal batches waiting → OnOk result (Holds f new.wal batches (waiting ++ b ∷ []))
  pub goes_on : OnOk result (MayGoOn f new.wal (sequence_after b))
  pub bytes : OnOk result (wal_waiting new.wal ≡ waiting_with old.wal b)
  pub err_holds : (batches waiting : List Numbered) → Holds f old.wal batches waiting → OnErr result (Holds f new.wal batches waiting)
  pub err_goes_on : (first : ℕ) → MayGoOn f old.wal first → OnErr result (MayGoOn f new.wal first)
  pub err_pending : OnErr result (wal_pending new.wal ≡ wal_pending old.wal)
  pub running : IsRunning new
  pub fault : IfErr result (λ fault. fault ≡ NoMemory)

-- The manifest is ready for the edit where memory didn't run out. No file is touched.
pub record ReservesEdit {D F : Type 0} (f : Ghosts F) (edit : Edit) (old new : Engine D F f) (result : Result (Unit {0}) EngineFault) : Type 0 where
  pub disk : new.disk ≡ old.disk
  pub wal : new.wal ≡ old.wal
  pub next : new.next ≡ old.next
  pub older : new.older ≡ old.older
  pub file : manifest_file new.manifest ≡ manifest_file old.manifest
  pub fold : manifest_folded new.manifest ≡ manifest_folded old.manifest
  pub rests : FoldRests f old.manifest → FoldRests f new.manifest
  pub reserved : OnOk result (IsEditReserved f new.manifest edit)
  pub running : IsRunning new
  pub fault : IfErr result (λ fault. fault ≡ NoMemory)

-- The edit was added to the manifest, and nothing else was touched.
pub record IsEdited {D F : Type 0} (f : Ghosts F) (edit : Edit) (old new : Engine D F f) (result : Result (Unit {0}) EngineFault) : Type 0 where
  pub disk : new.disk ≡ old.disk
  pub wal : new.wal ≡ old.wal
  pub next : new.next ≡ old.next
  pub older : new.older ≡ old.older
  pub rests : FoldRests f old.manifest → OnOk result (FoldRests f new.manifest)
  pub fold : OnOk result (manifest_folded new.manifest ≡ fold_with (manifest_folded old.manifest) edit)
  pub moments : FoldRests f old.manifest → Leaves f (manifest_file old.manifest) (manifest_file new.manifest) (IsEditImage (manifest_folded old.manifest) edit)
  pub unchanged : OnErr result (manifest_folded new.manifest ≡ manifest_folded old.manifest)
  pub cause : HasCause (f.faults (manifest_file old.manifest)) (f.faults (manifest_file new.manifest)) result
  pub same : IsSameFile f (manifest_file old.manifest) (manifest_file new.manifest)
  pub running : OnOk result (IsRunning new)
  pub failed : has_failed new ≡ is_disk_failure result
  pub fault : IfErr result (λ fault. fault ≡ DiskFault)

-- the disk is as it was, and its two files go by their names, and tell and keep what they did
pub record IsSameFolder {D F : Type 0} (f : Ghosts F) (old new : Engine D F f) : Type 0 where
  pub disk : new.disk ≡ old.disk
  pub wal : IsSameFile f (wal_file old.wal) (wal_file new.wal)
  pub manifest : IsSameFile f (manifest_file old.manifest) (manifest_file new.manifest)

-- What each call leaves, whether or not the disk tells what it holds: the same folder, still one, numbers of files, and what is known of
-- the older logs; nothing touched where the call was refused; an engine that may be called unless the disk failed, and as many faults as before unless it did.
pub record IsCalled {D F A : Type 0} (d : disk.Ghosts D F) (f : Ghosts F) (old new : Engine D F f) (result : Result A EngineFault) : Type 0 where
  pub same : IsSameFolder f old new
  pub one : IsOneFolder d f old → IsOneFolder d f new
  pub next : new.next ≡ old.next
  pub older : new.older ≡ old.older
  pub jobs : (n : ℕ) → IsJobNumber old n → IsJobNumber new n
  pub untouched : IfErr result (λ fault. is_disk_fault fault ≡ false → held new ≡ held old)
  pub running : is_disk_failure result ≡ false → IsRunning new
  pub failed : has_failed new ≡ is_disk_failure result
  pub counted : IsCause (is_disk_failure result) (engine_faults d f old) (engine_faults d f new)

-- A batch was written: it follows the last sequence of the version, and the next one has it. Where it isn't to be synced and fewer bytes
-- than the limit wait with it, they wait as they are spelled and no call was made on the disk; else nothing waits.
pub record IsBatchWritten {D F : Type 0} {f : Ghosts F} (now : SuperVersion) (ops : List WriteOp) (sync : Bool) (old new : Engine D F f) (next : SuperVersion) : Type 0 where
  pub adds : AddsBatch ops now next
  pub waits : sync ≡ false → length (waiting_with old.wal (batch_behind now ops)) < PENDING_LIMIT → wal_waiting new.wal ≡ waiting_with old.wal (batch_behind now ops)
  pub still : sync ≡ false → length (waiting_with old.wal (batch_behind now ops)) < PENDING_LIMIT → held new ≡ held old
  pub synced : (sync ≡ true) ⊎ (PENDING_LIMIT ≤ length (waiting_with old.wal (batch_behind now ops))) → wal_pending new.wal ≡ 0
