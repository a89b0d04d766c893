-- The edits that an engine makes.
use Rattle.std.specs.Prelude.{◌≡◌, ◌⊎◌, ℕ, ◌+◌, ◌≤◌, ◌<◌, List, [], ◌∷◌, ◌++◌, length, map, slice_get, All, Contains, Some, None}
use Rattle.std.specs.List.Sorted.{IsStrictlyIncreasing}
use Rattle.ts_key.specs.declared.numbers.Family.{Family}
use Rattle.ts_key.specs.declared.numbers.Seq.{Seq}
use Rattle.ts_key.specs.declared.numbers.Ts.{Ts}
use Rattle.ts_key.specs.declared.version.Version.{Version}
use Rattle.udt_model.specs.declared.reply.Piece.{Piece}
use Rattle.udt_model.specs.declared.reply.Reply.TheVariants.{Kept, Table}
use Rattle.udt_model.specs.State.{Compaction, Flush, State, FamilyState, family_at}
use Rattle.udt_model.specs.Acts.Act.{compact_end, flush_end}
use Rattle.udt_model.specs.Jobs.{compaction_kept, flush_kept, tables_from}
use Rattle.udt_model.specs.Steps.{IsReplyTo}
use Rattle.manifest_edit.specs.declared.edit.TableAt.{TableAt}
use Rattle.manifest_edit.specs.declared.edit.Edit.{Edit}
use Rattle.manifest_fold.specs.declared.fold.FamilyFold.{FamilyFold}
use Rattle.manifest_fold.specs.declared.limits.TheConstants.{FILE_NUMBER_LIMIT}
use Rattle.engine_laws.specs.Logs.{above, versions_of}
use Rattle.engine_laws.specs.Manifests.{table_number}
use Rattle.engine_laws.specs.Standing.{Fits, Says, table_of}

-- a family gets a floor; `next` is the engine's next file number
abbrev pub raise_edit : Seq → ℕ → Family → FamilyFold → Ts → Edit
raise_edit last next family old floor = record {
  add_logs = [];
  drop_logs = [];
  next_file = next;
  last = last;
  family = Some (record { family = family; floor = floor; through = old.through; add = []; remove = [] });
}

-- a log becomes live
abbrev pub roll_edit : Seq → ℕ → Edit
roll_edit last number = record { add_logs = number ∷ []; drop_logs = []; next_file = number + 1; last = last; family = None }

-- a flushed table joins level 0, with its `through` and floor, and logs are dropped
abbrev pub flush_edit : Seq → ℕ → List ℕ → Family → Ts → Seq → ℕ → Edit
flush_edit last next gone family floor through number = record {
  add_logs = [];
  drop_logs = gone;
  next_file = next;
  last = last;
  family = Some (record { family = family; floor = floor; through = through; add = record { level = 0; number = number } ∷ []; remove = [] });
}

-- tables take the place of others
abbrev pub compact_edit : Seq → ℕ → Family → FamilyFold → List TableAt → List ℕ → Edit
compact_edit last next family old add gone = record {
  add_logs = [];
  drop_logs = [];
  next_file = next;
  last = last;
  family = Some (record { family = family; floor = old.floor; through = old.through; add = add; remove = gone });
}

-- the number of the engine's next file: the manifest's isn't above it, and each number that a table has had is below it
pub record IsNextFile (m : State) (s : Says) (next : ℕ) : Type 0 where
  pub more : s.fold.next_file ≤ next
  pub most : next ≤ FILE_NUMBER_LIMIT
  pub used : All (λ n. n < next) m.used

-- ---- which logs may be dropped

-- what the engine knows of its older logs: up to which sequence each may have versions
abbrev pub CoversLogs : Says → (ℕ → ℕ) → List ℕ → Type 0
CoversLogs s upto ns = (n : ℕ) (v : Version) → Contains ns n → Contains (versions_of (s.logs n)) v → v.seq.0 ≤ upto n

-- a family keeps a log from being dropped unless all that it may have there is flushed, or nothing of it is unflushed at all
abbrev pub LetsGo : State → ℕ → Family → FamilyState → Type 0
LetsGo m upto family f = (upto ≤ f.through.0) ⊎ (above family f.through.0 m.versions ≡ [])

-- each family of this state lets these logs go
abbrev pub MayDrop : State → (ℕ → ℕ) → List ℕ → Type 0
MayDrop m upto ns = (n : ℕ) (family : Family) (f : FamilyState) → Contains ns n → family_at m family ≡ Some f → LetsGo m (upto n) family f

-- the logs may go: they are the oldest, one stays, and each family lets them go
pub record LogsMayGo (s : Says) (next : State) (gone : List ℕ) : Type 0 where
  pub kept : List ℕ
  pub oldest : s.fold.logs ≡ gone ++ kept
  pub some : 1 ≤ length kept
  pub upto : ℕ → ℕ
  pub covers : CoversLogs s upto gone
  pub drops : MayDrop next upto gone

-- ---- what a job's end brings

-- The flush that runs ends with this table and this floor: the reply is the model's, the table's file holds what the flush keeps, and
-- its number is below that of the engine's next file.
pub record EndsFlush (m : State) (s : Says) (job : Flush) (start table kept : ℕ) (floor : Ts) (old : FamilyFold) (next : ℕ) : Type 0 where
  pub runs : m.flush ≡ Some job
  pub told : IsReplyTo m (flush_end job.family start) (Table table kept floor)
  pub there : slice_get s.fold.families job.family.0 ≡ Some old
  pub holds : (s.tables table).versions ≡ flush_kept m job
  pub fits : Fits job.family (record old { floor = floor }) (s.tables table)
  pub file : IsNextFile m s next
  pub below : table < next

-- The compaction that runs ends with these tables: the reply is the model's, the files of the tables hold its pieces, and their numbers
-- ascend, below that of the engine's next file.
pub record EndsCompaction (m : State) (s : Says) (job : Compaction) (start kept : ℕ) (pieces : List Piece) (old : FamilyFold) (add : List TableAt) (next : ℕ) : Type 0 where
  pub runs : m.compaction ≡ Some job
  pub told : IsReplyTo m (compact_end job.family start) (Kept kept pieces)
  pub there : slice_get s.fold.families job.family.0 ≡ Some old
  pub holds : map (table_of s.tables) add ≡ tables_from job.level (compaction_kept m job) pieces
  pub fits : All (λ (t : TableAt). Fits job.family old (s.tables t.number)) add
  pub ascending : IsStrictlyIncreasing (map table_number add)
  pub file : IsNextFile m s next
  pub below : All (λ (t : TableAt). t.number < next) add
