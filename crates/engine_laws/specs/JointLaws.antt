-- The laws of runs of calls on a disk and on the files of it that an engine holds.
use Rattle.std.specs.Prelude.{◌≡◌, ◌⊎◌, ℕ, Bool, List, [], ◌∷◌, ◌++◌, Contains, IsTrue}
use Rattle.ts_key.specs.declared.batch.WriteOp.{WriteOp}
use Rattle.udt_disk.specs.Crash.{Image, NoMore}
use Rattle.udt_disk.specs.Joint.{IsFree, Joint, LeavesNow, Ran}
use Rattle.udt_disk.specs.Moments.{AsAtBut, MayLeave, OnlyReads, OnlyTouches, holding}
use Rattle.udt_disk.specs.Runs.{Leaves}
use Rattle.udt_disk.specs.Touches.{Touches}
use Rattle.udt_disk.specs.declared.name.FileName.{FileName}
use Rattle.udt_disk.specs.declared.name.FileName.TheVariants.{Log}
use Rattle.udt_disk.specs.declared.file.DiskFile as file
use Rattle.udt_disk.specs.declared.disk.Disk as disk
use Rattle.wal.specs.declared.numbered.Numbered.{Numbered}
use Rattle.wal.specs.Replays.{IsBeforeOrAfter, ReadsAs}
use Rattle.udt_model.specs.State.{State}
use Rattle.udt_model.specs.declared.reply.Reply.{Reply}
use Rattle.udt_model.specs.Acts.{Act}
use Rattle.udt_model.specs.Acts.Act.{write}
use Rattle.udt_model.specs.Steps.{IsTold, after, is_running}
use Rattle.udt_model.specs.Crashes.{Course, IsOutcome, IsOutcomeUnder, is_change}
use Rattle.manifest_edit.specs.declared.edit.TableAt.{TableAt}
use Rattle.manifest_edit.specs.declared.edit.Edit.{Edit}
use Rattle.manifest_fold.specs.Folds.{IsAccepted, fold_with}
use Rattle.manifest.specs.Files.{HasFold, IsEditImage}
use Rattle.manifest.specs.Folders.{IsManifestName}
use Rattle.manifest.specs.Folds.{sizes_of}
use Rattle.engine_laws.specs.Standing.{Grammar, FolderSays, Says, StandsForSome}
use Rattle.engine_laws.specs.Engine.{HoldsState, IsOutcomeOr, MayEdit, SameLive, newest_log_of, next_batch, with_batches, with_edit}
use Rattle.engine_laws.specs.Moves.{AreDead, IsEditReady, LogRests, Rests, TableRests, added_tables}
use Rattle.engine_laws.specs.Joints.{OneRan}
use Rattle.engine_laws.specs.Laws.{IsNextWrite}

-- what a sync leaves of the newest log: what was there, or all that waited behind it
abbrev pub IsSyncImage : Says → List Numbered → Image → Type 0
IsSyncImage s waiting = IsBeforeOrAfter (sizes_of s.fold) (s.logs (newest_log_of s)) waiting

module _ {D F : Type 0} (d : disk.Ghosts D F) (f : file.Ghosts F) where
  -- what the engine's files say rests on the disk and in the files that are held
  abbrev pub RestIn : Grammar → Joint D F → FileName → Says → Type 0
  RestIn g j manifest s = Rests g (MayLeave d f j) manifest s

  -- the held file of the newest log ran on
  pub record LogRan (s : Says) (before after : List F) (wal ran : F) : Type 0 where
    pub one : OneRan f before after wal ran
    pub name : f.name wal ≡ Log (newest_log_of s)

  -- the held file of the manifest ran on
  pub record ManifestRan (manifest : FileName) (before after : List F) (old ran : F) : Type 0 where
    pub one : OneRan f before after old ran
    pub name : f.name old ≡ manifest

  -- ---- the newest log

  -- while it is synced a crash leaves only folders that stand for outcomes
  abbrev pub SyncRunLeavesOutcomes : Grammar → Type 0
  SyncRunLeavesOutcomes g = (manifest : FileName) (m : State) (c : Course) (s : Says) (waiting : List Numbered) (x : D) (before after : List F) (wal ran : F)
      → IsManifestName manifest → HoldsState m c s waiting → RestIn g (holding x before) manifest s → LogRan s before after wal ran → Leaves f wal ran (IsSyncImage s waiting)
      → Ran d f (λ folder. StandsForSome g folder (IsOutcome m c)) (holding x before) (holding x after)

  -- and while it is synced under a write
  abbrev pub WriteRunLeavesOutcomes : Grammar → Type 0
  WriteRunLeavesOutcomes g = (manifest : FileName) (m : State) (c : Course) (s : Says) (waiting : List Numbered) (number : ℕ) (ops : List WriteOp) (sync : Bool) (x : D) (before after : List F) (wal ran : F)
      → IsManifestName manifest → HoldsState m c s waiting → IsNextWrite m s ops sync → RestIn g (holding x before) manifest s → LogRan s before after wal ran → Leaves f wal ran (IsSyncImage s (waiting ++ next_batch m ops ∷ []))
      → Ran d f (λ folder. StandsForSome g folder (IsOutcomeUnder m c number (write ops sync))) (holding x before) (holding x after)

  -- where afterwards it may leave only a log with all that waited, all rests
  abbrev pub RestsSynced : Grammar → Type 0
  RestsSynced g = (manifest : FileName) (m : State) (c : Course) (s : Says) (waiting : List Numbered) (x : D) (before after : List F) (wal ran : F)
      → IsManifestName manifest → HoldsState m c s waiting → RestIn g (holding x before) manifest s → LogRan s before after wal ran
      → ((image : Image) → f.may_leave ran image → ReadsAs (sizes_of s.fold) (s.logs (newest_log_of s) ++ waiting) image) → RestIn g (holding x after) manifest (with_batches s waiting)

  -- ---- the manifest

  -- while an edit is appended a crash leaves only folders that stand for outcomes, or for the next state
  abbrev pub EditRunLeavesOutcomes : Grammar → Type 0
  EditRunLeavesOutcomes g = (manifest : FileName) (m next : State) (c : Course) (s : Says) (edit : Edit) (x : D) (before after : List F) (old ran : F)
      → IsManifestName manifest → HoldsState m c s [] → MayEdit m s edit next → RestIn g (holding x before) manifest s → IsEditReady g (MayLeave d f (holding x before)) s edit
      → ManifestRan manifest before after old ran → Leaves f old ran (IsEditImage s.fold edit) → Ran d f (λ folder. StandsForSome g folder (IsOutcomeOr m c next)) (holding x before) (holding x after)

  -- where afterwards it may leave only the fold with the edit, all rests
  abbrev pub RestsEdited : Grammar → Type 0
  RestsEdited g = (manifest : FileName) (m next : State) (s : Says) (edit : Edit) (x : D) (before after : List F) (old ran : F)
      → IsManifestName manifest → MayEdit m s edit next → RestIn g (holding x before) manifest s → IsEditReady g (MayLeave d f (holding x before)) s edit
      → ManifestRan manifest before after old ran → ((image : Image) → f.may_leave ran image → HasFold image (fold_with s.fold edit)) → RestIn g (holding x after) manifest (with_edit s edit)

  -- ---- names that aren't live

  -- at each moment of calls that touch only names that aren't live, whatever files are held, a crash leaves only folders that say the same
  abbrev pub DeadRunSaysTheSame : Grammar → Type 0
  DeadRunSaysTheSame g = (manifest : FileName) (s : Says) (names : List FileName) (old new : Joint D F)
      → IsManifestName manifest → RestIn g old manifest s → AreDead manifest s.fold (Contains names) → Ran d f (AsAtBut d f (Contains names) old) old new → Ran d f (λ folder. FolderSays g folder s) old new

  -- and where under every other name it leaves nothing new, all rests afterwards
  abbrev pub RestsBesideDead : Grammar → Type 0
  RestsBesideDead g = (manifest : FileName) (s : Says) (names : List FileName) (old new : Joint D F)
      → IsManifestName manifest → RestIn g old manifest s → AreDead manifest s.fold (Contains names) → ((n : FileName) (image : Image) → ¬ Contains names n → MayLeave d f new n image → MayLeave d f old n image) → RestIn g new manifest s

  -- between two calls
  abbrev pub LeavesOutcomesNow : Grammar → Type 0
  LeavesOutcomesNow g = (manifest : FileName) (m : State) (c : Course) (s : Says) (waiting : List Numbered) (j : Joint D F)
      → HoldsState m c s waiting → RestIn g j manifest s → LeavesNow d f (λ folder. StandsForSome g folder (IsOutcome m c)) j

  -- so it is with calls that only read, and with a file that is given back as it is, of whatever name
  abbrev pub ReadsRest : Grammar → Type 0
  ReadsRest g = (manifest : FileName) (s : Says) (old new : Joint D F)
      → IsManifestName manifest → RestIn g old manifest s → OnlyReads d f old new → Ran d f (λ folder. FolderSays g folder s) old new × RestIn g new manifest s

  -- and with a roll, which makes a log of a new number and gives the old one's file back
  abbrev pub RollLeavesNoMore : Type 0
  RollLeavesNoMore = (x y : D) (files : List F) (old new : F) (number : ℕ) → f.name new ≡ Log number → IsFree d f (holding x files) (f.name old)
      → Touches d (λ n. (n ≡ Log number) ⊎ (n ≡ f.name old)) x y → NoMore (f.may_leave old) (d.may_leave y (f.name old))
      → (n : FileName) (image : Image) → ¬ Contains (Log number ∷ []) n → MayLeave d f (holding y (new ∷ files)) n image → MayLeave d f (holding x (old ∷ files)) n image

  -- ---- what rests

  -- another account of the files that agrees on all that is live rests too
  abbrev pub RestsByLiveFiles : Grammar → Type 0
  RestsByLiveFiles g = (manifest : FileName) (s other : Says) (j : Joint D F) → SameLive s other → RestIn g j manifest s → RestIn g j manifest other

  -- all that is live with an edit rests where all that was live does, and the logs and tables that the edit adds
  abbrev pub EditIsReady : Grammar → Type 0
  EditIsReady g = (manifest : FileName) (s : Says) (edit : Edit) (j : Joint D F) → IsAccepted s.fold edit → RestIn g j manifest s
      → ((n : ℕ) → Contains edit.add_logs n → LogRests (MayLeave d f j) s n) → ((t : TableAt) → Contains (added_tables edit.family) t → TableRests g (MayLeave d f j) s t.number) → IsEditReady g (MayLeave d f j) s edit

  -- ---- whole calls

  -- What a call with an edit does, step by step: the newest log is synced; files of names that aren't live are made; the edit is
  -- appended to the manifest; and files of names that are live no more are removed.
  pub record EditCall (g : Grammar) (manifest : FileName) (s : Says) (waiting : List Numbered) (edit : Edit) (x y z : D) (start synced made appended done : List F) : Type 0 where
    pub wal : F
    pub wal_after : F
    pub log : LogRan s start synced wal wal_after
    pub syncs : Leaves f wal wal_after (IsSyncImage s waiting)
    pub all_synced : (image : Image) → f.may_leave wal_after image → ReadsAs (sizes_of s.fold) (s.logs (newest_log_of s) ++ waiting) image
    pub new : List FileName
    pub new_dead : AreDead manifest s.fold (Contains new)
    pub makes : OnlyTouches d f (Contains new) (holding x synced) (holding y made)
    pub ready : IsEditReady g (MayLeave d f (holding y made)) (with_batches s waiting) edit
    pub old : F
    pub old_after : F
    pub file : ManifestRan manifest made appended old old_after
    pub appends : Leaves f old old_after (IsEditImage s.fold edit)
    pub all_appended : (image : Image) → f.may_leave old_after image → HasFold image (fold_with s.fold edit)
    pub gone : List FileName
    pub gone_dead : AreDead manifest (fold_with s.fold edit) (Contains gone)
    pub removes : OnlyTouches d f (Contains gone) (holding y appended) (holding z done)

  -- at each moment of it a crash leaves only folders that stand for outcomes under the act, and all rests behind it
  abbrev pub CallLeavesOutcomes : Grammar → Type 0
  CallLeavesOutcomes g = (manifest : FileName) (m : State) (c : Course) (s : Says) (waiting : List Numbered) (number : ℕ) (act : Act) (reply : Reply) (edit : Edit) (x y z : D) (start synced made appended done : List F)
      → IsManifestName manifest → HoldsState m c s waiting → RestIn g (holding x start) manifest s → IsTold m act reply → IsTrue (is_change act reply) → IsTrue (is_running m act)
      → MayEdit m (with_batches s waiting) edit (after m number act reply) → EditCall g manifest s waiting edit x y z start synced made appended done
      → Ran d f (λ folder. StandsForSome g folder (IsOutcomeUnder m c number act)) (holding x start) (holding z done) × RestIn g (holding z done) manifest (with_edit (with_batches s waiting) edit)
