-- The laws, as this crate's functions state them.
use Rattle.std.specs.Prelude.{◌≡◌, ◌≢◌, ◌⊎◌, ℕ, ◌+◌, ◌<◌, ◌≤◌, true, false, List, [], ◌∷◌, ◌++◌, length, slice_get, Bool, Contains, IsTrue, Some, None}
use Rattle.ts_key.specs.declared.batch.WriteOp.{WriteOp}
use Rattle.ts_key.specs.declared.numbers.Family.{Family}
use Rattle.ts_key.specs.declared.numbers.Ts.{Ts}
use Rattle.ts_key.specs.declared.version.Version.{Version}
use Rattle.udt_disk.specs.Crash.{Image}
use Rattle.udt_disk.specs.Joint.{Folder}
use Rattle.udt_disk.specs.declared.name.FileName.{FileName}
use Rattle.udt_disk.specs.declared.name.FileName.TheVariants.{Log}
use Rattle.udt_disk.specs.declared.name.FileName.TheVariants as table
use Rattle.gate_log.specs.Frames.{IsWithOrWithout}
use Rattle.wal.specs.declared.numbered.Numbered.{Numbered}
use Rattle.wal.specs.Records.{IsLoggedBatch}
use Rattle.udt_model.specs.declared.line.FamilyHead.{FamilyHead}
use Rattle.udt_model.specs.declared.reply.Piece.{Piece}
use Rattle.udt_model.specs.declared.reply.Reply.{Reply}
use Rattle.udt_model.specs.declared.reply.Reply.TheVariants.{Done, Fault, Kept, OkAt, Table}
use Rattle.udt_model.specs.State.{Compaction, FamilyState, Flush, State, family_at}
use Rattle.udt_model.specs.Acts.{Act}
use Rattle.udt_model.specs.Acts.Act.{compact_end, flush_end, flush_start, raise, sync_all, write}
use Rattle.udt_model.specs.Steps.{IsReplyTo, IsTold, after, is_running}
use Rattle.udt_model.specs.Crashes.{Course, IsOutcome, IsOutcomeUnder, course_after, course_start, ends_after, is_change, syncs}
use Rattle.manifest_edit.specs.declared.edit.TableAt.{TableAt}
use Rattle.manifest_edit.specs.declared.edit.FamilyEdit.{FamilyEdit}
use Rattle.manifest_edit.specs.declared.edit.Edit.{Edit}
use Rattle.manifest_edit.specs.Edits.{IsEdit}
use Rattle.manifest_fold.specs.declared.fold.FamilyFold.{FamilyFold}
use Rattle.manifest_fold.specs.declared.fold.Folded.{Folded}
use Rattle.manifest_fold.specs.declared.limits.TheConstants.{FILE_NUMBER_LIMIT}
use Rattle.manifest_fold.specs.Folds.{IsAccepted, fold_with}
use Rattle.manifest.specs.Files.{IsEditImage}
use Rattle.manifest.specs.Folders.{chosen}
use Rattle.manifest.specs.Folds.{IsManifest}
use Rattle.floor_laws.specs.Sound.{IsSoundCourse, IsSoundState}
use Rattle.engine_laws.specs.Logs.{versions_of}
use Rattle.engine_laws.specs.Manifests.{IsLive, IsWell}
use Rattle.engine_laws.specs.Standing.{Alike, FolderStands, Grammar, IsOneSaid, FolderSays, Says, StandsFor, StandsForSome, TableSays, families_said, fresh_says, live_batches, new_state}
use Rattle.engine_laws.specs.Engine.{AreSameKept, HoldsState, IsEditTo, IsOutcomeOr, MayEdit, SameLive, next_batch, with_batches, with_edit, with_new_log, with_new_table}
use Rattle.engine_laws.specs.Moves.{IsLiveName}
use Rattle.engine_laws.specs.Installs.{EndsCompaction, EndsFlush, IsNextFile, LogsMayGo, compact_edit, flush_edit, raise_edit, roll_edit}

-- ---- between calls, and files that aren't live

-- between two calls each folder that a crash may leave stands for an outcome
abbrev pub StandsBetweenCalls : Grammar → Type 0
StandsBetweenCalls g = (folder : Folder) (m : State) (c : Course) (s : Says) (waiting : List Numbered)
    → HoldsState m c s waiting → FolderSays g folder s → StandsForSome g folder (IsOutcome m c)

-- a folder that agrees with another one on all live names stands for the same
abbrev pub OnlyLiveNamesCount : Grammar → Type 0
OnlyLiveNamesCount g = (folder other : Folder) (m : State) (stands : FolderStands g folder m)
    → ((n : FileName) → IsLiveName (chosen folder) stands.says.fold n → other n ≡ folder n) → FolderStands g other m

-- ---- syncs

-- while the newest log is synced a crash leaves what was there, or all that waited
abbrev pub SyncLeavesOutcomes : Grammar → Type 0
SyncLeavesOutcomes g = (folder : Folder) (m : State) (c : Course) (s : Says) (waiting : List Numbered)
    → HoldsState m c s waiting → FolderSays g folder s ⊎ FolderSays g folder (with_batches s waiting) → StandsForSome g folder (IsOutcome m c)

-- after it nothing waits, whoever asked for it
abbrev pub HoldsSynced : Type 0
HoldsSynced = (m : State) (c : Course) (s : Says) (waiting : List Numbered) → HoldsState m c s waiting → HoldsState m c (with_batches s waiting) []

-- and after one that was asked for all is synced
abbrev pub HoldsAllSynced : Type 0
HoldsAllSynced = (m : State) (c : Course) (s : Says) (waiting : List Numbered) (number : ℕ)
    → HoldsState m c s waiting → IsReplyTo m sync_all Done → HoldsState (after m number sync_all Done) (course_after m number c sync_all Done) (with_batches s waiting) []

-- ---- writes

-- the write is accepted, and its batch may stand in a log
pub record IsNextWrite (m : State) (s : Says) (ops : List WriteOp) (sync : Bool) : Type 0 where
  pub accepted : IsReplyTo m (write ops sync) (OkAt (m.last.0 + length ops))
  pub fits : IsLoggedBatch (length s.fold.families) (next_batch m ops)

-- while the newest log is synced under a write a crash leaves an outcome of the state before, or the state behind it
abbrev pub WriteLeavesOutcomes : Grammar → Type 0
WriteLeavesOutcomes g = (folder : Folder) (m : State) (c : Course) (s : Says) (waiting : List Numbered) (number : ℕ) (ops : List WriteOp) (sync : Bool)
    → HoldsState m c s waiting → IsNextWrite m s ops sync → FolderSays g folder s ⊎ FolderSays g folder (with_batches s (waiting ++ next_batch m ops ∷ []))
    → StandsForSome g folder (IsOutcomeUnder m c number (write ops sync))

-- what a write leads to
abbrev pub after_write : State → ℕ → List WriteOp → Bool → State
after_write m number ops sync = after m number (write ops sync) (OkAt (m.last.0 + length ops))

abbrev pub course_after_write : State → ℕ → Course → List WriteOp → Bool → Course
course_after_write m number c ops sync = course_after m number c (write ops sync) (OkAt (m.last.0 + length ops))

-- an unsynced write waits behind the others
abbrev pub HoldsWriteThatWaits : Type 0
HoldsWriteThatWaits = (m : State) (c : Course) (s : Says) (waiting : List Numbered) (number : ℕ) (ops : List WriteOp)
    → HoldsState m c s waiting → IsNextWrite m s ops false → HoldsState (after_write m number ops false) (course_after_write m number c ops false) s (waiting ++ next_batch m ops ∷ [])

-- a synced one is on the disk, with all that waited
abbrev pub HoldsSyncedWrite : Type 0
HoldsSyncedWrite = (m : State) (c : Course) (s : Says) (waiting : List Numbered) (number : ℕ) (ops : List WriteOp)
    → HoldsState m c s waiting → IsNextWrite m s ops true → HoldsState (after_write m number ops true) (course_after_write m number c ops true) (with_batches s (waiting ++ next_batch m ops ∷ [])) []

-- ---- edits

-- while an edit is appended, where nothing waits, a crash leaves an outcome of the state before, or the state behind it
abbrev pub EditLeavesOutcomes : Grammar → Type 0
EditLeavesOutcomes g = (folder : Folder) (m : State) (c : Course) (s : Says) (edit : Edit) (next : State)
    → HoldsState m c s [] → MayEdit m s edit next → FolderSays g folder s ⊎ FolderSays g folder (with_edit s edit) → StandsForSome g folder (IsOutcomeOr m c next)

-- that state is an outcome under the act that leads to it, or of the state before where it says the same of what is kept
abbrev pub EditsAreOfActs : Type 0
EditsAreOfActs = (m : State) (c : Course) (number : ℕ) (act : Act) (reply : Reply) (left : State)
    → IsTold m act reply → IsTrue (is_change act reply) → IsTrue (is_running m act) → IsOutcomeOr m c (after m number act reply) left → IsOutcomeUnder m c number act left

abbrev pub EditsMayChangeNothing : Type 0
EditsMayChangeNothing = (m : State) (c : Course) (s : Says) (next left : State) → HoldsState m c s [] → AreSameKept m next → IsOutcomeOr m c next left → IsOutcome m c left

-- after it the engine holds the next state, on a course with the same ends on which no more is synced than was written
abbrev pub HoldsEdited : Type 0
HoldsEdited = (m : State) (c d : Course) (s : Says) (edit : Edit) (next : State)
    → HoldsState m c s [] → MayEdit m s edit next → d.ends ≡ c.ends → d.synced ≤ m.last.0 → IsSoundCourse next d → HoldsState next d (with_edit s edit) []

-- an append of an edit's body leaves the fold before it, or with it
abbrev pub AppendLeavesFolds : Type 0
AppendLeavesFolds = (bodies : List (List ℕ)) (fold : Folded) (edit : Edit) (body : List ℕ) (image : Image)
    → IsManifest bodies fold → IsEdit body edit → IsAccepted fold edit → IsWithOrWithout bodies body image → IsEditImage fold edit image

-- ---- what is held

-- an act that changes nothing that is kept on the disk leaves all as it was
abbrev pub HoldsBesides : Type 0
HoldsBesides = (m next : State) (c d : Course) (s : Says) (waiting : List Numbered)
    → AreSameKept m next → IsSoundState next → IsSoundCourse next d → d.ends ≡ c.ends → d.synced ≡ c.synced → HoldsState m c s waiting → HoldsState next d s waiting

-- two accounts of the files that agree on all that is live hold the same
abbrev pub HoldsByLiveFiles : Type 0
HoldsByLiveFiles = (m : State) (c : Course) (s other : Says) (waiting : List Numbered) → SameLive s other → HoldsState m c s waiting → HoldsState m c other waiting

-- so what a table or a log says may be set when it is made, under a number that isn't live
abbrev pub TablesMayBeSet : Type 0
TablesMayBeSet = (s : Says) (number : ℕ) (says : TableSays) → ((i : Family) (f : FamilyFold) (t : TableAt) → IsLive s.fold i f t → t.number ≡ number → ⊥) → SameLive s (with_new_table s number says)

abbrev pub LogsMayBeSet : Type 0
LogsMayBeSet = (s : Says) (number : ℕ) (batches : List Numbered) → (Contains s.fold.logs number → ⊥) → SameLive s (with_new_log s number batches)

-- ---- folds

-- every fold of a manifest is well
abbrev pub FoldsAreWell : Type 0
FoldsAreWell = (bodies : List (List ℕ)) (fold : Folded) → IsManifest bodies fold → IsWell fold

-- a dropped log isn't live with the edit
abbrev pub DroppedLogsAreDead : Type 0
DroppedLogsAreDead = (fold : Folded) (edit : Edit) (n : ℕ) → IsAccepted fold edit → IsWell fold → Contains edit.drop_logs n → Contains (fold_with fold edit).logs n → ⊥

-- nor is a removed table, unless the edit adds one of its number
abbrev pub RemovedTablesAreDead : Type 0
RemovedTablesAreDead = (fold : Folded) (edit : Edit) (e : FamilyEdit) (n : ℕ)
    → edit.family ≡ Some e → IsAccepted fold edit → IsWell fold → Contains e.remove n → ((t : TableAt) → Contains e.add t → t.number ≡ n → ⊥)
    → (i : Family) (f : FamilyFold) (t : TableAt) → IsLive (fold_with fold edit) i f t → t.number ≡ n → ⊥

-- ---- opening

-- an engine of a folder that stands for a state holds that state
abbrev pub HoldsOpened : Grammar → Type 0
HoldsOpened g = (folder : Folder) (m : State) (stands : FolderStands g folder m) → HoldsState m (course_start m) stands.says []

-- the files of a new store stand for the state in which nothing was written
abbrev pub NewStoreStands : Type 0
NewStoreStands = (heads : List FamilyHead) (tables : ℕ → TableSays) → StandsFor (fresh_says heads tables) (new_state heads)

-- ---- the edits that an engine makes

-- the edit of a raise may be made, and leads to the raised state
abbrev pub RaiseMayBeMade : Type 0
RaiseMayBeMade = (m : State) (c : Course) (s : Says) (number : ℕ) (family : Family) (floor : Ts) (old : FamilyFold) (next : ℕ)
    → HoldsState m c s [] → IsReplyTo m (raise family floor) Done → slice_get s.fold.families family.0 ≡ Some old → IsNextFile m s next
    → MayEdit m s (raise_edit m.last next family old floor) (after m number (raise family floor) Done)

-- the edit that adds a log without batches may be made, and leads to any sound state that says the same of what is kept
abbrev pub RollMayBeMade : Type 0
RollMayBeMade = (m next : State) (c : Course) (s : Says) (log : ℕ)
    → HoldsState m c s [] → s.fold.next_file ≤ log → log + 1 ≤ FILE_NUMBER_LIMIT → s.logs log ≡ [] → AreSameKept m next → IsSoundState next → MayEdit m s (roll_edit m.last log) next

-- the edit of a flush may be made, where the logs that it drops may go, and leads to the flushed state
abbrev pub FlushMayBeMade : Type 0
FlushMayBeMade = (m : State) (c : Course) (s : Says) (number start table kept next : ℕ) (floor : Ts) (job : Flush) (old : FamilyFold) (gone : List ℕ)
    → HoldsState m c s [] → EndsFlush m s job start table kept floor old next → LogsMayGo s (after m number (flush_end job.family start) (Table table kept floor)) gone
    → MayEdit m s (flush_edit m.last next gone job.family floor job.through table) (after m number (flush_end job.family start) (Table table kept floor))

-- the edit of a compaction may be made, and leads to the compacted state
abbrev pub CompactionMayBeMade : Type 0
CompactionMayBeMade = (m : State) (c : Course) (s : Says) (number start kept next : ℕ) (pieces : List Piece) (job : Compaction) (old : FamilyFold) (add : List TableAt)
    → HoldsState m c s [] → EndsCompaction m s job start kept pieces old add next
    → MayEdit m s (compact_edit m.last next job.family old add job.inputs) (after m number (compact_end job.family start) (Kept kept pieces))

-- behind an act that syncs and makes no version, by a sync and its edit, the engine holds the state that it leads to, on its course
abbrev pub HoldsBehindAct : Type 0
HoldsBehindAct = (m : State) (c : Course) (s : Says) (waiting : List Numbered) (number : ℕ) (act : Act) (reply : Reply) (edit : Edit)
    → HoldsState m c s waiting → IsReplyTo m act reply → IsTrue (syncs act reply) → ends_after c.ends act reply ≡ c.ends → MayEdit m (with_batches s waiting) edit (after m number act reply)
    → HoldsState (after m number act reply) (course_after m number c act reply) (with_edit (with_batches s waiting) edit) []

-- behind a seal, which is a sync and the edit of a new log, it holds the state with the flush that starts
abbrev pub HoldsSealed : Type 0
HoldsSealed = (m : State) (c : Course) (s : Says) (waiting : List Numbered) (number : ℕ) (family : Family) (log : ℕ)
    → HoldsState m c s waiting → IsReplyTo m (flush_start family) (OkAt m.last.0) → s.fold.next_file ≤ log → log + 1 ≤ FILE_NUMBER_LIMIT → s.logs log ≡ []
    → HoldsState (after m number (flush_start family) (OkAt m.last.0)) (course_after m number c (flush_start family) (OkAt m.last.0)) (with_edit (with_batches s waiting) (roll_edit m.last log)) []

-- and so on the course on which all is synced
abbrev pub HoldsSealedSynced : Type 0
HoldsSealedSynced = (m : State) (c : Course) (s : Says) (waiting : List Numbered) (number : ℕ) (family : Family) (log : ℕ)
    → HoldsState m c s waiting → IsReplyTo m (flush_start family) (OkAt m.last.0) → s.fold.next_file ≤ log → log + 1 ≤ FILE_NUMBER_LIMIT → s.logs log ≡ []
    → HoldsState (after m number (flush_start family) (OkAt m.last.0)) (record c { synced = m.last.0 }) (with_edit (with_batches s waiting) (roll_edit m.last log)) []

-- what a crash may leave under an act is an outcome still when the disk failed under it, until the folder is opened again
abbrev pub FaultKeepsOutcomes : Type 0
FaultKeepsOutcomes = (m : State) (c : Course) (number : ℕ) (act : Act) (left : State)
    → c.failing ≡ None → IsOutcomeUnder m c number act left → IsOutcome (after m number act Fault) (course_after m number c act Fault) left

-- ---- wrong orders

-- an edit while a version waits that it doesn't flush leaves what stands for no outcome
abbrev pub NoEditBeforeSync : Type 0
NoEditBeforeSync = (m : State) (c : Course) (s : Says) (waiting : List Numbered) (edit : Edit) (next : State) → HoldsState m c s waiting → c.failing ≡ None → IsEditTo m s edit next
    → (v : Version) (f : FamilyState) (left : State) → Contains (versions_of waiting) v → family_at next v.family ≡ Some f → f.through.0 < v.seq.0
    → StandsFor (with_edit s edit) left → IsOutcomeOr m c next left → ⊥

-- nor does one that drops a log with a version that isn't flushed
abbrev pub NoEarlyDrop : Type 0
NoEarlyDrop = (m : State) (c : Course) (s : Says) (waiting : List Numbered) (edit : Edit) (next : State) → HoldsState m c s waiting → c.failing ≡ None → IsEditTo m s edit next
    → (log : ℕ) (v : Version) (f : FamilyState) (left : State) → Contains edit.drop_logs log → Contains (versions_of (s.logs log)) v → family_at next v.family ≡ Some f → f.through.0 < v.seq.0
    → StandsFor (with_edit s edit) left → IsOutcomeOr m c next left → ⊥

-- where a crash may leave a manifest whose family isn't the state's, as when a floor is told before its edit is synced, it leaves no outcome
abbrev pub NoEarlyFloor : Type 0
NoEarlyFloor = (s : Says) (m left : State) (c : Course) (i : Family) (f h : FamilyState) → c.failing ≡ None → family_at m i ≡ Some f → slice_get (families_said s.tables s.fold) i.0 ≡ Some h → f ≢ h
    → StandsFor s left → IsOutcome m c left → ⊥

-- what is opened has each version that the live logs have above its family's `through`, whatever the floor is
abbrev pub LoggedIsKept : Type 0
LoggedIsKept = (s : Says) (m : State) (v : Version) (f : FamilyState)
    → StandsFor s m → Contains (versions_of (live_batches s)) v → family_at m v.family ≡ Some f → f.through.0 < v.seq.0 → Contains m.versions v

-- a folder without one of the live logs or tables says nothing
abbrev pub NoMissingLog : Grammar → Type 0
NoMissingLog g = (folder : Folder) (s : Says) (log : ℕ) → Contains s.fold.logs log → folder (Log log) ≡ None → FolderSays g folder s → ⊥

abbrev pub NoMissingTable : Grammar → Type 0
NoMissingTable g = (folder : Folder) (s : Says) (i : Family) (f : FamilyFold) (t : TableAt) → IsLive s.fold i f t → folder (table.Table t.number) ≡ None → FolderSays g folder s → ⊥

-- ---- what bytes fix

-- a manifest has one fold
abbrev pub OneFold : Type 0
OneFold = (bodies : List (List ℕ)) (a b : Folded) → IsManifest bodies a → IsManifest bodies b → a ≡ b

-- a folder says one thing of all that is live
abbrev pub OneAccount : Grammar → Type 0
OneAccount g = (folder : Folder) (a b : Says) → IsOneSaid g → FolderSays g folder a → FolderSays g folder b → SameLive a b

-- two states that a folder stands for differ at most in the versions up to each `through`, of which tables have lost history
abbrev pub StatesAreAlike : Grammar → Type 0
StatesAreAlike g = (folder : Folder) (m n : State) → IsOneSaid g → FolderStands g folder m → FolderStands g folder n → Alike m n

-- where nothing was flushed there is one
abbrev pub OneUnflushedState : Grammar → Type 0
OneUnflushedState g = (folder : Folder) (m n : State)
    → IsOneSaid g → FolderStands g folder m → FolderStands g folder n → ((i : Family) (f : FamilyState) → family_at m i ≡ Some f → f.through.0 ≡ 0) → m ≡ n
