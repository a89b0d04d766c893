-- When the running jobs run rightly.
use Rattle.std.specs.Prelude.{◌≡◌, ◌⊎◌, ◌<◌, ◌≤◌, ℕ, false, IsTrue, List, length, All, Contains, Option, Some, None, ⊤}
use Rattle.std.specs.List.{list_all}
use Rattle.ts_key.specs.declared.numbers.Seq.{Seq}
use Rattle.ts_key.specs.declared.version.Version.{Version}
use Rattle.udt_model.specs.Orders.{is_in_some, meets, span_of}
use Rattle.udt_model.specs.State.{State, FamilyState, LiveTable, Snap, Flush, Compaction, family_at, numbers_of}
use Rattle.udt_model.specs.Jobs.{deeper_of, has_number, hull_of, inputs_hold, inputs_of, is_ascending, is_input}

-- a snapshot's sequence is one of these, or isn't below what was the last one at a start
abbrev pub IsSince : List Seq → Seq → Snap → Type 0
IsSince seqs last s = Contains seqs s.seq ⊎ (last.0 ≤ s.seq.0)

-- The flush runs rightly where its family is f: it takes versions that are in no table, up to what was the last sequence at its start;
-- since then the floor hasn't fallen, and each snapshot that was made sees all that it takes.
pub record IsFlushing (m : State) (job : Flush) (f : FamilyState) : Type 0 where
  pub from : f.through.0 ≤ job.through.0
  pub to : job.through.0 ≤ m.last.0
  pub floor : job.floor.0 ≤ f.head.floor.0
  pub snaps : All (IsSince job.seqs job.through) m.snaps

-- Of two versions of a key, a of an input and b of a table of this level that is none, b is newer where its table lies above the output
-- level, and else older, and its key lies in a deeper span.
abbrev pub IsBeside : Compaction → ℕ → Version → Version → Type 0
IsBeside job level a b = a.key ≡ b.key → ((level < job.level) × (a.seq.0 < b.seq.0)) ⊎ ((job.level < level) × (b.seq.0 < a.seq.0) × IsTrue (is_in_some job.deeper b.key))

-- the table is an input, or each of its versions lies beside those of the inputs
abbrev pub IsBesideInputs : State → Compaction → LiveTable → Type 0
IsBesideInputs m job t = is_input job.inputs t ≡ false → All (λ (a : Version). All (IsBeside job t.level a) t.versions) (inputs_hold m job)

-- a table on the output level that is no input doesn't meet the hull of the inputs
abbrev pub IsClear : State → Compaction → LiveTable → Type 0
IsClear m job t = is_input job.inputs t ≡ false → t.level ≡ job.level → meets (span_of t.versions) (hull_of (inputs_of m job.family job.inputs)) ≡ false

-- The compaction runs rightly where its family is f: its inputs ascend, are live and hold nothing that was written after its start; its
-- level is one from 1 to 6; the other tables lie outside of it and clear of it; its deeper spans are those of the tables below its level;
-- since its start the floor hasn't fallen, and each snapshot that was made sees all that the inputs hold.
pub record IsCompacting (m : State) (job : Compaction) (f : FamilyState) : Type 0 where
  pub some : 1 ≤ length job.inputs
  pub ascending : IsTrue (is_ascending job.inputs)
  pub live : IsTrue (list_all (has_number (numbers_of f.tables)) job.inputs)
  pub above : 1 ≤ job.level
  pub below : job.level ≤ 6
  pub old : All (λ (v : Version). v.seq.0 ≤ job.last.0) (inputs_hold m job)
  pub outside : All (IsBesideInputs m job) f.tables
  pub clear : All (IsClear m job) f.tables
  pub deeper : job.deeper ≡ deeper_of m job.family job.inputs job.level
  pub to : job.last.0 ≤ m.last.0
  pub floor : job.floor.0 ≤ f.head.floor.0
  pub snaps : All (IsSince job.seqs job.last) m.snaps

abbrev pub IsFlushRight : State → Option Flush → Type 0
IsFlushRight m None = ⊤
IsFlushRight m (Some job) = (f : FamilyState) × (family_at m job.family ≡ Some f) × IsFlushing m job f

abbrev pub IsCompactionRight : State → Option Compaction → Type 0
IsCompactionRight m None = ⊤
IsCompactionRight m (Some job) = (f : FamilyState) × (family_at m job.family ≡ Some f) × IsCompacting m job f

-- the jobs that run do so rightly
pub record RunsRightly (m : State) : Type 0 where
  pub flush : IsFlushRight m m.flush
  pub compaction : IsCompactionRight m m.compaction
