-- What a seal answers and leaves.
use Rattle.std.specs.Prelude.{◌≡◌, ◌⊎◌, ℕ, ◌+◌, ◌<◌, ◌≤◌, List, [], ◌∷◌, ◌++◌, length, map, slice_get, reverse, false, IfErr, IfSome, OnErr, OnOk, Option, Some, None, Result, Ok, Err, IsTrue, ⊤}
use Rattle.std.specs.Arc.{arc_value}
use Rattle.memtable.specs.Memtables.{Memtable, versions_of_memtable}
use Rattle.ts_key.specs.declared.numbers.Family.{Family}
use Rattle.ts_key.specs.declared.numbers.Seq.{Seq}
use Rattle.udt_disk.specs.Causes.{IsCause, Rose, plus_faults}
use Rattle.udt_disk.specs.Crash.{NoMore}
use Rattle.udt_disk.specs.Joint.{IsFree, Ran}
use Rattle.udt_disk.specs.Moments.{holding}
use Rattle.udt_disk.specs.Runs.{IsSameFile}
use Rattle.udt_disk.specs.Touches.{Touches}
use Rattle.udt_disk.specs.declared.disk.Disk as disk
use Rattle.udt_disk.specs.declared.file.DiskFile as file
use Rattle.udt_disk.specs.declared.name.FileName.{FileName}
use Rattle.udt_disk.specs.declared.name.FileName.TheVariants.{Log}
use Rattle.wal.specs.Making.{IsWhileMade}
use Rattle.wal.specs.Wals.{Holds, MayGoOn, wal_file, wal_pending, wal_sizes}
use Rattle.manifest_edit.specs.declared.edit.Edit.{Edit}
use Rattle.manifest_fold.specs.declared.limits.TheConstants.{FILE_NUMBER_LIMIT}
use Rattle.manifest_fold.specs.Folds.{fold_with, newest_log}
use Rattle.manifest.specs.Manifest.{manifest_file, manifest_folded}
use Rattle.engine_laws.specs.Installs.{roll_edit}
use Rattle.udt_model.specs.declared.reply.Reply.{Reply}
use Rattle.udt_model.specs.declared.reply.Reply.TheVariants as replies
use Rattle.udt_model.specs.Acts.Act.{flush_start}
use Rattle.udt_model.specs.State.{State}
use Rattle.udt_model.specs.Steps.{IsReplyTo, after}
use Rattle.udt_model.specs.Crashes.{Course, course_after}
use Rattle.super_version.specs.Changes.{ChangesFamily, family_with_seal}
use Rattle.super_version.specs.declared.family.FamilyState.{FamilyState}
use Rattle.super_version.specs.declared.version.SuperVersion.{SuperVersion}
use Rattle.store_engine.specs.Calls.{is_disk_failure}
use Rattle.store_engine.specs.Engines.{IsOneFolder, IsRunning, engine_faults, has_failed, held}
use Rattle.store_engine.specs.Now.{versions_held}
use Rattle.store_engine.specs.Replies.{reply_of_fault}
use Rattle.store_engine.specs.Jobs.{IsJobNumber}
use Rattle.store_engine.specs.Steps.{IsEdited, IsLogSynced, ReservesEdit}
use Rattle.store_engine.specs.declared.engine.Engine.{Engine}
use Rattle.store_engine.specs.declared.fault.EngineFault.{EngineFault}
use Rattle.store_engine.specs.declared.fault.EngineFault.TheVariants.{DiskFault, FilesFull, NoMemory, UnknownFamily}
use Rattle.store_engine.specs.declared.older.OlderLogs.{OlderLogs}
use Rattle.store_engine.specs.declared.seal.Sealed.{Sealed}
use Rattle.store_engine.specs.declared.seal.Sealed.TheVariants.{Nothing, Rolled, Waiting}

-- ---- answers

-- the reply of the model that an answer is, where this is the last sequence
abbrev pub seal_reply : Seq → Sealed → Reply
seal_reply last Nothing = replies.Nothing
seal_reply last Waiting = replies.OkAt last.0
seal_reply last (Rolled version mems) = replies.OkAt last.0

-- the answer is the model's to the start of a flush, where memory didn't run out
abbrev pub TellsSeal : State → Family → Result Sealed EngineFault → Type 0
TellsSeal m family (Ok sealed) = IsReplyTo m (flush_start family) (seal_reply m.last sealed)
TellsSeal m family (Err fault) = IfSome (reply_of_fault fault) (IsReplyTo m (flush_start family))

-- what it leads to
abbrev pub after_seal : State → ℕ → Family → Sealed → State
after_seal m number family done = after m number (flush_start family) (seal_reply m.last done)

abbrev pub course_after_seal : State → ℕ → Course → Family → Sealed → Course
course_after_seal m number c family done = course_after m number c (flush_start family) (seal_reply m.last done)

-- the super version after a seal
abbrev pub version_after : SuperVersion → Sealed → SuperVersion
version_after now Nothing = now
version_after now Waiting = now
version_after now (Rolled version mems) = arc_value version

-- the active memtable has a version, and there is a file number left
abbrev pub MayRoll : FamilyState → ℕ → Type 0
MayRoll g next = (1 ≤ length (versions_of_memtable g.active)) × (next < FILE_NUMBER_LIMIT)

-- the answer for a family, by its memtables and the number of the next file
abbrev pub IsSealOf : FamilyState → ℕ → Result Sealed EngineFault → Type 0
IsSealOf g next (Ok Nothing) = versions_held g ≡ []
IsSealOf g next (Ok Waiting) = (versions_of_memtable g.active ≡ []) × (1 ≤ length (versions_held g)) × (next < FILE_NUMBER_LIMIT)
IsSealOf g next (Ok (Rolled version mems)) = MayRoll g next
IsSealOf g next (Err (FilesFull number)) = (number ≡ next) × (next ≡ FILE_NUMBER_LIMIT) × (1 ≤ length (versions_held g))
IsSealOf g next (Err NoMemory) = MayRoll g next
IsSealOf g next (Err DiskFault) = MayRoll g next
IsSealOf g next (Err fault) = ⊥

abbrev pub AnswersSeal : Option FamilyState → ℕ → Result Sealed EngineFault → Type 0
AnswersSeal None next (Err UnknownFamily) = ⊤
AnswersSeal None next result = ⊥
AnswersSeal (Some g) next result = IsSealOf g next result

-- The active memtable of the family is the newest of its sealed ones, which are given from the oldest on, and nothing else has changed.
pub record ShowsSeal (family : Family) (now version : SuperVersion) (mems : List Memtable) : Type 0 where
  pub changes : ChangesFamily family.0 family_with_seal now version
  pub sealed : (g : FamilyState) → slice_get version.families family.0 ≡ Some g → mems ≡ reverse g.sealed

abbrev pub ShowsSealed : Family → SuperVersion → Sealed → Type 0
ShowsSealed family now Nothing = ⊤
ShowsSealed family now Waiting = ⊤
ShowsSealed family now (Rolled version mems) = ShowsSeal family now (arc_value version) (map arc_value mems.items)

-- it is a seal that rolled the log, and shows so
abbrev pub IsRolledAs : Family → SuperVersion → Sealed → Type 0
IsRolledAs family now Nothing = ⊥
IsRolledAs family now Waiting = ⊥
IsRolledAs family now (Rolled version mems) = ShowsSeal family now (arc_value version) (map arc_value mems.items)

-- how often the log was rolled
abbrev pub rolled_count : Result Sealed EngineFault → ℕ
rolled_count (Ok Nothing) = 0
rolled_count (Ok Waiting) = 0
rolled_count (Ok (Rolled version mems)) = 1
rolled_count (Err fault) = 0

-- ---- steps

-- these are the names of the old log and of the new one
abbrev pub IsRolledName : FileName → ℕ → FileName → Type 0
IsRolledName old number n = (n ≡ Log number) ⊎ (n ≡ old)

-- The log went on with a new file, whose number is that of the next one, and the old file was given back.
pub record IsLogRolled {D F : Type 0} (d : disk.Ghosts D F) (f : file.Ghosts F) (older : OlderLogs) (old new : Engine D F f) (result : Result (Unit {0}) EngineFault) : Type 0 where
  pub manifest : new.manifest ≡ old.manifest
  pub next : OnOk result (new.next ≡ old.next + 1)
  pub next_is : OnErr result (new.next ≡ old.next)
  pub older_is : OnOk result (new.older ≡ older)
  pub older_stays : OnErr result (new.older ≡ old.older)
  pub holds : OnOk result (IsTrue (d.is_told old.disk) → Holds f new.wal [] [])
  pub goes_on : OnOk result ((first : ℕ) → MayGoOn f new.wal first)
  pub name : OnOk result (f.name (wal_file new.wal) ≡ Log old.next)
  pub wal_told : OnOk result (f.is_told (wal_file new.wal) ≡ d.is_told old.disk)
  pub wal_model : OnOk result (f.keeps_model (wal_file new.wal) ≡ d.keeps_model old.disk)
  pub given_back : OnOk result (NoMore (f.may_leave (wal_file old.wal)) (d.may_leave new.disk (f.name (wal_file old.wal))))
  pub fresh : OnOk result (f.faults (wal_file new.wal) ≡ 0)
  pub counted : OnOk result (d.faults new.disk ≡ plus_faults (d.faults old.disk) (f.faults (wal_file old.wal)))
  pub still : OnErr result (new.wal ≡ old.wal)
  pub cause : OnErr result (Rose (d.faults old.disk) (d.faults new.disk))
  pub later : d.faults old.disk ≤ d.faults new.disk
  pub sizes : wal_sizes new.wal ≡ wal_sizes old.wal
  pub pending : wal_pending new.wal ≡ 0
  pub touches : Touches d (IsRolledName (f.name (wal_file old.wal)) old.next) old.disk new.disk
  pub moments : (others : List F) → IsFree d f (holding old.disk (wal_file old.wal ∷ others)) (Log old.next) → IsFree d f (holding old.disk others) (f.name (wal_file old.wal))
      → Ran d f (IsWhileMade d f (holding old.disk (wal_file old.wal ∷ others)) (Log old.next)) (holding old.disk (wal_file old.wal ∷ others)) (holding new.disk (wal_file new.wal ∷ others))
  pub failed : has_failed new ≡ is_disk_failure result
  pub fault : IfErr result (λ fault. fault ≡ DiskFault)

-- What waited was synced, the log went on with a new file, and the edit was added to the manifest, up to where the disk failed.
pub data IsRolled {D F : Type 0} (d : disk.Ghosts D F) (f : file.Ghosts F) (edit : Edit) (older : OlderLogs) (old new : Engine D F f) : Result (Unit {0}) EngineFault → Type 0 where
  unsynced : (fault : EngineFault) → IsLogSynced f old new (Err fault) → IsRolled d f edit older old new (Err fault)
  unrolled : (synced : Engine D F f) (fault : EngineFault) → IsLogSynced f old synced (Ok tt) → IsLogRolled d f older synced new (Err fault) → IsRolled d f edit older old new (Err fault)
  edited : (synced rolled : Engine D F f) (result : Result (Unit {0}) EngineFault) → IsLogSynced f old synced (Ok tt) → IsLogRolled d f older synced rolled (Ok tt) → IsEdited f edit rolled new result → IsRolled d f edit older old new result

-- ---- the call

-- what is needed for the roll was made: the edit of the log whose number is the next file's, and what is known of the older logs then
pub record PreparesRoll {D F : Type 0} (f : file.Ghosts F) (now : SuperVersion) (edit : Edit) (older : OlderLogs) (old mid : Engine D F f) : Type 0 where
  pub reserves : ReservesEdit f edit old mid (Ok tt)
  pub edit_is : edit ≡ roll_edit now.last old.next
  pub opened : older.opened ≡ old.older.opened
  pub logs : older.rolled.items ≡ old.older.rolled.items ++ record { number = newest_log (manifest_folded old.manifest).logs; last = now.last } ∷ []

-- The active memtable of the family was sealed, and the log rolled, up to where memory ran out or the disk failed.
pub data SealsActive {D F : Type 0} (d : disk.Ghosts D F) (f : file.Ghosts F) (now : SuperVersion) (family : Family) (old new : Engine D F f) : Result Sealed EngineFault → Type 0 where
  unmade : (fault : EngineFault) → fault ≡ NoMemory → new ≡ old → SealsActive d f now family old new (Err fault)
  unreserved : (edit : Edit) (fault : EngineFault) → ReservesEdit f edit old new (Err fault) → SealsActive d f now family old new (Err fault)
  stopped : (edit : Edit) (older : OlderLogs) (mid : Engine D F f) (fault : EngineFault) → PreparesRoll f now edit older old mid → IsRolled d f edit older mid new (Err fault) → SealsActive d f now family old new (Err fault)
  sealed : (edit : Edit) (older : OlderLogs) (mid : Engine D F f) (done : Sealed) → PreparesRoll f now edit older old mid → IsRolled d f edit older mid new (Ok tt) → IsRolledAs family now done → SealsActive d f now family old new (Ok done)

-- The log is one of a new file, which the manifest names and behind which nothing waits, and the one before it is known to end at this
-- last sequence.
pub record HasRolled {D F : Type 0} (f : file.Ghosts F) (last : Seq) (old new : Engine D F f) : Type 0 where
  pub name : f.name (wal_file new.wal) ≡ Log old.next
  pub fold : manifest_folded new.manifest ≡ fold_with (manifest_folded old.manifest) (roll_edit last old.next)
  pub opened : new.older.opened ≡ old.older.opened
  pub logs : new.older.rolled.items ≡ old.older.rolled.items ++ record { number = newest_log (manifest_folded old.manifest).logs; last = last } ∷ []
  pub pending : wal_pending new.wal ≡ 0

-- No call was made on the disk, and what waits in the log and what is known of the older ones is as it was.
pub record IsUnsealed {D F : Type 0} {f : file.Ghosts F} (old new : Engine D F f) : Type 0 where
  pub held_is : held new ≡ held old
  pub wal : new.wal ≡ old.wal
  pub older : new.older ≡ old.older

-- What a seal leaves, whether or not the disk tells what it holds: one folder, in which only the old log and the new one were touched; the
-- number of the next file, which is one more exactly where the log rolled, and may be where the disk failed; nothing touched where it didn't
-- roll and no disk failed; an engine that may be called unless the disk failed, and as many faults as before unless it did.
pub record IsSealed {D F : Type 0} (d : disk.Ghosts D F) (f : file.Ghosts F) (last : Seq) (old new : Engine D F f) (result : Result Sealed EngineFault) : Type 0 where
  pub one : IsOneFolder d f old → IsOneFolder d f new
  pub manifest : IsSameFile f (manifest_file old.manifest) (manifest_file new.manifest)
  pub next : is_disk_failure result ≡ false → new.next ≡ old.next + rolled_count result
  pub numbers : (old.next ≤ new.next) × (new.next ≤ old.next + 1)
  pub jobs : (n : ℕ) → IsJobNumber old n → IsJobNumber new n
  pub untouched : is_disk_failure result ≡ false → rolled_count result ≡ 0 → IsUnsealed old new
  pub rolled : rolled_count result ≡ 1 → HasRolled f last old new
  pub touches : Touches d (IsRolledName (f.name (wal_file old.wal)) old.next) old.disk new.disk
  pub running : is_disk_failure result ≡ false → IsRunning new
  pub failed : has_failed new ≡ is_disk_failure result
  pub counted : IsCause (is_disk_failure result) (engine_faults d f old) (engine_faults d f new)
