-- What an engine holds, and what its edits move.
use Rattle.std.specs.Prelude.{◌≡◌, ◌⊎◌, ℕ, ◌+◌, ◌≤◌, ◌==◌, if◌then◌else◌, List, [], ◌++◌, length, All, Contains, Some}
use Rattle.ts_key.specs.declared.limits.TheConstants.{SEQUENCE_LIMIT}
use Rattle.ts_key.specs.declared.batch.WriteOp.{WriteOp}
use Rattle.ts_key.specs.declared.numbers.Family.{Family}
use Rattle.ts_key.specs.declared.version.Version.{Version}
use Rattle.wal.specs.declared.numbered.Numbered.{Numbered}
use Rattle.wal.specs.Records.{IsLoggedBatch}
use Rattle.wal.specs.Sequences.{GoesOn, IsInSequence}
use Rattle.udt_model.specs.State.{State, FamilyState, family_at}
use Rattle.udt_model.specs.Crashes.{Course, IsOutcome, settled}
use Rattle.manifest_edit.specs.declared.edit.TableAt.{TableAt}
use Rattle.manifest_edit.specs.declared.edit.Edit.{Edit}
use Rattle.manifest_fold.specs.declared.fold.FamilyFold.{FamilyFold}
use Rattle.manifest_fold.specs.Folds.{IsAccepted, fold_with, newest_log}
use Rattle.floor_laws.specs.Sound.{IsSoundState, IsSoundCourse}
use Rattle.engine_laws.specs.Logs.{last_of, last_over, versions_of}
use Rattle.engine_laws.specs.Manifests.{IsLive, IsWell}
use Rattle.engine_laws.specs.Standing.{TableSays, Says, SaySame, TablesFit, families_said, live_batches}

-- the last sequence on the disk
abbrev pub durable_last : Says → ℕ
durable_last s = last_over s.fold.last.0 (live_batches s)

-- the log to which batches are added
abbrev pub newest_log_of : Says → ℕ
newest_log_of s = newest_log s.fold.logs

-- The course of a state that is on the disk up to a sequence: this one and the state's last are ends of batches, all that is synced is
-- on the disk, and all that is in tables was synced.
pub record IsOnCourse (m : State) (c : Course) (durable : ℕ) : Type 0 where
  pub here : Contains c.ends durable
  pub all : Contains c.ends m.last.0
  pub synced : c.synced ≤ durable
  pub sound : IsSoundCourse m c

-- The engine and its `now` hold a state on its course: the files say s, and these batches wait for the next sync of the newest log.
pub record HoldsState (m : State) (c : Course) (s : Says) (waiting : List Numbered) : Type 0 where
  -- the families, floors, `through` and live tables are those of the manifest and the table files
  pub families : m.families ≡ families_said s.tables s.fold
  -- the versions above each `through` are those of the live logs and of what waits
  pub unflushed : SaySame m (live_batches s ++ waiting)
  pub last : m.last.0 ≡ last_over s.fold.last.0 (live_batches s ++ waiting)
  pub within : m.last.0 ≤ SEQUENCE_LIMIT
  -- the batches of the live logs have no gap, and what waits goes on behind them
  pub sequence : IsInSequence (live_batches s)
  pub goes_on : GoesOn (Some (durable_last s + 1)) waiting
  pub logged : All (IsLoggedBatch (length s.fold.families)) (live_batches s ++ waiting)
  -- the manifest's last sequence isn't above that of the live logs, where they have one
  pub behind : s.fold.last.0 ≤ last_of s.fold.last.0 (live_batches s)
  -- each live table fits its family
  pub fits : TablesFit s
  pub well : IsWell s.fold
  pub sound : IsSoundState m
  pub course : IsOnCourse m c (durable_last s)

-- ---- what the files say behind a step

-- the same, and these batches behind those of the newest log
abbrev pub with_batches : Says → List Numbered → Says
with_batches s batches = record s { logs = λ n. if n == newest_log_of s then s.logs n ++ batches else s.logs n }

-- the same, but that the table or the log of this number, which isn't live yet, says this
abbrev pub with_new_table : Says → ℕ → TableSays → Says
with_new_table s number says = record s { tables = λ n. if n == number then says else s.tables n }

abbrev pub with_new_log : Says → ℕ → List Numbered → Says
with_new_log s number batches = record s { logs = λ n. if n == number then batches else s.logs n }

-- the same, and the manifest with an edit more
abbrev pub with_edit : Says → Edit → Says
with_edit s edit = record s { fold = fold_with s.fold edit }

-- two accounts of the files agree on all that is live
pub record SameLive (s other : Says) : Type 0 where
  pub fold : other.fold ≡ s.fold
  pub logs : (n : ℕ) → Contains s.fold.logs n → other.logs n ≡ s.logs n
  pub tables : (family : Family) (f : FamilyFold) (t : TableAt) → IsLive s.fold family f t → other.tables t.number ≡ s.tables t.number

-- ---- which steps may be made

-- the batch of a write that follows the last sequence
abbrev pub next_batch : State → List WriteOp → Numbered
next_batch m ops = record { first = record { 0 = m.last.0 + 1 }; batch = ops }

-- two states say the same of what is kept on the disk
pub record AreSameKept (m next : State) : Type 0 where
  pub families : next.families ≡ m.families
  pub versions : next.versions ≡ m.versions
  pub last : next.last ≡ m.last

-- each version of a log that the edit drops is in its family's tables in the next state
abbrev pub DropsFlushed : Says → Edit → State → Type 0
DropsFlushed s edit next = (n : ℕ) (v : Version) (f : FamilyState) → Contains edit.drop_logs n → Contains (versions_of (s.logs n)) v → family_at next v.family ≡ Some f → v.seq.0 ≤ f.through.0

-- The edit leads from the state to one with these families: the fold accepts it, it says the last sequence, and the logs that it adds
-- have no batch. The next state has the same versions.
pub record IsEditTo (m : State) (s : Says) (edit : Edit) (next : State) : Type 0 where
  pub accepted : IsAccepted s.fold edit
  pub last : edit.last ≡ m.last
  pub empty : All (λ n. s.logs n ≡ []) edit.add_logs
  pub families : next.families ≡ families_said s.tables (fold_with s.fold edit)
  pub versions : next.versions ≡ m.versions
  pub same_last : next.last ≡ m.last

-- The edit may be made where nothing waits: the logs that it drops are flushed, its tables are of their families, and the state to
-- which it leads is sound.
pub record MayEdit (m : State) (s : Says) (edit : Edit) (next : State) : Type 0 where
  pub leads : IsEditTo m s edit next
  pub flushed : DropsFlushed s edit next
  pub fits : TablesFit (with_edit s edit)
  pub sound : IsSoundState next

-- an outcome of the state, or the next state with every write
abbrev pub IsOutcomeOr : State → Course → State → State → Type 0
IsOutcomeOr m c next left = IsOutcome m c left ⊎ (left ≡ settled next)
