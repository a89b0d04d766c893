-- Which replies are legal to an act in a state, and what it changes with its reply.
use Rattle.std.specs.Prelude.{◌≡◌, ◌⊎◌, ℕ, ◌+◌, ◌^◌, nat_lt, ◌==◌, ◌++◌, length, not, Bool, true, false, IsTrue, ⊤, if◌then◌else◌, List, [], ◌∷◌, filter, Option, Some, None}
use Rattle.ts_key.specs.declared.batch.WriteOp.{WriteOp}
use Rattle.ts_key.specs.declared.numbers.Family.{Family}
use Rattle.ts_key.specs.declared.numbers.Ts.{Ts}
use Rattle.ts_key.specs.declared.numbers.Seq.{Seq}
use Rattle.udt_model.specs.declared.place.Place.{Place}
use Rattle.udt_model.specs.declared.read.Answer.{Answer}
use Rattle.udt_model.specs.declared.read.Answer.TheVariants as answers
use Rattle.udt_model.specs.declared.read.ModelRead.{ModelRead}
use Rattle.udt_model.specs.declared.read.ModelRead.TheVariants as reads
use Rattle.udt_model.specs.declared.reply.Piece.{Piece}
use Rattle.udt_model.specs.declared.reply.Reply.{Reply}
use Rattle.udt_model.specs.declared.reply.Reply.TheVariants.{Done, OkAt, Found, Absent, Collapsed, Rows, Floor, Nothing, Files, Table, Inputs, Kept, DroppedFault, DroppedMemory, DroppedFiles, Unknown, Halted, Fault}
use Rattle.udt_model.specs.Reads.{read}
use Rattle.udt_model.specs.Scans.{Range, limited, rows_of}
use Rattle.udt_model.specs.State.{State, FamilyState, LiveTable, Flush, Compaction, floor_at, head_with_floor, numbers_of, place_at, seqs_of, sight, tables_of, with_family, with_floor, with_table, with_tables}
use Rattle.udt_model.specs.Acts.{Act}
use Rattle.udt_model.specs.Acts.Act.{write, get, scan, raise, ask_floor, make_snapshot, release, pin, unpin, sync_all, flush_start, flush_end, compact_start, compact_end}
use Rattle.udt_model.specs.Acts.{takes_commit}
use Rattle.udt_model.specs.Versions.{made}
use Rattle.udt_model.specs.Refusals.{refusal, ◌otherwise◌}
use Rattle.udt_model.specs.Jobs.{IsClosed, are_new, are_parts, compaction_kept, deeper_of, flush_floor, flush_kept, is_input, level0_of, numbers_of_pieces, runs_compaction, runs_flush, tables_from, unflushed_of}

-- the number of a file that can't be made
abbrev pub file_limit : ℕ
file_limit = 2 ^ 63

-- ---- reads

abbrev pub reply_of_answer : Answer → Reply
reply_of_answer answers.Absent = Absent
reply_of_answer (answers.Found value stamp) = Found value stamp

abbrev pub reply_of_read : ModelRead → Reply
reply_of_read (reads.Collapsed floor) = Collapsed floor
reply_of_read (reads.Told answer) = reply_of_answer answer

-- the reply to a get that sees sequences up to s
abbrev pub got : State → Option Place → List ℕ → Ts → Seq → Reply
got m None key t s = Unknown
got m (Some p) key t s = reply_of_read (read m.versions p.floor p.family key t s)

-- the reply to a scan that sees sequences up to s
abbrev pub scanned : State → Option Place → Range → Ts → ℕ → Bool → Seq → Reply
scanned m None range t limit forward s = Unknown
scanned m (Some p) range t limit forward s = if nat_lt t.0 p.floor.0 then Collapsed p.floor else Rows (limited limit forward (rows_of m.versions p.floor p.family range t s))

-- ---- the other acts with one reply

-- the reply to a write: its refusal in the order written, or its last sequence
abbrev pub admitted : State → List WriteOp → Reply
admitted m ops = refusal m (write ops false) otherwise OkAt (m.last.0 + length ops)

-- the reply to a raise
abbrev pub raised : State → Family → Ts → Reply
raised m family floor = refusal m (raise family floor) otherwise Done

-- the floor that is told
abbrev pub told_floor : State → Family → Reply
told_floor m family = refusal m (ask_floor family) otherwise Floor (floor_at m family)

abbrev pub snapped : State → Reply
snapped m = refusal m make_snapshot otherwise OkAt m.last.0

-- the reply to a sync
abbrev pub reply_of_sync : State → Reply
reply_of_sync m = refusal m sync_all otherwise Done

-- the reply to the start of a flush: the sequence up to which it takes the versions, unless there is none
abbrev pub flush_started : State → Family → Reply
flush_started m family = refusal m (flush_start family) otherwise (if length (unflushed_of m family) == 0 then Nothing else OkAt m.last.0)

-- the reply to the start of a compaction of all tables, to the lowest level
abbrev pub compaction_started : State → Family → Reply
compaction_started m family = refusal m (compact_start family false) otherwise (if length (tables_of m family) == 0 then Nothing else Inputs (numbers_of (tables_of m family)) 6)

-- ---- the acts with free replies

-- the reply to a start that picks: some plan that is closed, or none where level 0 has fewer than 4 tables
abbrev pub IsPicked : State → Family → Option Reply → Reply → Type 0
IsPicked m family (Some refusal) reply = reply ≡ refusal
IsPicked m family None (Inputs inputs level) = IsClosed m family inputs level
IsPicked m family None Nothing = IsTrue (nat_lt (length (level0_of m family)) 4)
IsPicked m family None reply = ⊥

-- the end of a flush tells a new table, how many versions it keeps, and the floor that it leaves
abbrev pub IsFlushed : State → Option Flush → ℕ → ℕ → Ts → Type 0
IsFlushed m None table kept floor = ⊥
IsFlushed m (Some job) table kept floor = IsTrue (are_new m.used (table ∷ [])) × (kept ≡ length (flush_kept m job)) × (floor ≡ flush_floor m job)

-- the end of a compaction tells how many versions it keeps, and the new tables that they part into
abbrev pub IsCompacted : State → Option Compaction → ℕ → List Piece → Type 0
IsCompacted m None kept pieces = ⊥
IsCompacted m (Some job) kept pieces = IsTrue (are_new m.used (numbers_of_pieces pieces)) × (kept ≡ length (compaction_kept m job)) × IsTrue (are_parts (compaction_kept m job) pieces)

-- A job ends as its kind says, or it is dropped. Where the store is halted it can only be taken off, for that or for want of memory.
abbrev pub IsEnd : State → Act → Reply → Type 0
IsEnd m act (Halted since) = m.halted ≡ Some since
IsEnd m act DroppedMemory = ⊤
IsEnd m act DroppedFault = m.halted ≡ None
IsEnd m act (DroppedFiles next) = (m.halted ≡ None) × (next ≡ file_limit)
IsEnd m (flush_end family start) (Table table kept floor) = (m.halted ≡ None) × IsFlushed m m.flush table kept floor
IsEnd m (compact_end family start) (Kept kept pieces) = (m.halted ≡ None) × IsCompacted m m.compaction kept pieces
IsEnd m act reply = ⊥

-- the reply is the model's
abbrev pub IsTold : State → Act → Reply → Type 0
IsTold m (write ops sync) reply = reply ≡ admitted m ops
IsTold m (get family key t snap) reply = reply ≡ got m (place_at m family) key t (sight m snap)
IsTold m (scan family range t limit forward snap) reply = reply ≡ scanned m (place_at m family) range t limit forward (sight m snap)
IsTold m (raise family floor) reply = reply ≡ raised m family floor
IsTold m (ask_floor family) reply = reply ≡ told_floor m family
IsTold m make_snapshot reply = reply ≡ snapped m
IsTold m (release event) reply = reply ≡ Done
IsTold m pin reply = reply ≡ Done
IsTold m unpin reply = reply ≡ Done
IsTold m sync_all reply = reply ≡ reply_of_sync m
IsTold m (flush_start family) reply = reply ≡ flush_started m family
IsTold m (flush_end family start) reply = IsEnd m (flush_end family start) reply
IsTold m (compact_start family false) reply = reply ≡ compaction_started m family
IsTold m (compact_start family true) reply = IsPicked m family (refusal m (compact_start family true)) reply
IsTold m (compact_end family start) reply = IsEnd m (compact_end family start) reply

-- the disk may fail under what isn't refused and works on it
abbrev pub IsFault : State → Act → Reply → Type 0
IsFault m act reply = (reply ≡ Fault) × IsTrue (takes_commit act) × (refusal m act ≡ None)

-- there may be no file left for what a flush would take
abbrev pub IsOutOfFiles : State → Act → Reply → Type 0
IsOutOfFiles m (flush_start family) reply = (reply ≡ Files file_limit) × (refusal m (flush_start family) ≡ None) × IsTrue (nat_lt 0 (length (unflushed_of m family)))
IsOutOfFiles m act reply = ⊥

-- what ends is a job that runs
abbrev pub is_running : State → Act → Bool
is_running m (flush_end family start) = runs_flush m.flush family start
is_running m (compact_end family start) = runs_compaction m.compaction family start
is_running m act = true

-- the reply to an act is legal: the model's, or a fault of the disk, or that there are no files
pub record IsReplyTo (m : State) (act : Act) (reply : Reply) : Type 0 where
  pub running : IsTrue (is_running m act)
  pub is : IsTold m act reply ⊎ (IsFault m act reply ⊎ IsOutOfFiles m act reply)

-- ---- what changes

-- the job of an end runs no more
abbrev pub without_job : State → Act → State
without_job m (flush_end family start) = record m { flush = None }
without_job m (compact_end family start) = record m { compaction = None }
without_job m act = m

-- the table of a flush joins level 0
abbrev pub flushed : LiveTable → Seq → Ts → FamilyState → FamilyState
flushed table through floor f = record f { head = head_with_floor floor f.head; through = through; tables = with_table table f.tables }

abbrev pub with_flush : State → Option Flush → ℕ → Ts → State
with_flush m None table floor = m
with_flush m (Some job) table floor = record (with_family m job.family (flushed (record { number = table; level = 0; versions = flush_kept m job }) job.through floor)) { used = m.used ++ table ∷ []; flush = None }

-- the inputs of a compaction leave, and its pieces join the output level
abbrev pub compacted : List ℕ → List LiveTable → FamilyState → FamilyState
compacted inputs new f = record f { tables = with_tables new (filter (λ t. not (is_input inputs t)) f.tables) }

abbrev pub with_compaction : State → Option Compaction → List Piece → State
with_compaction m None pieces = m
with_compaction m (Some job) pieces = record (with_family m job.family (compacted job.inputs (tables_from job.level (compaction_kept m job) pieces))) { used = m.used ++ numbers_of_pieces pieces; compaction = None }

-- what the act of this number leaves with this reply
abbrev pub after : State → ℕ → Act → Reply → State
after m number act Fault = record (without_job m act) { halted = Some number }
after m number act (Halted since) = without_job m act
after m number act DroppedFault = without_job m act
after m number act DroppedMemory = without_job m act
after m number act (DroppedFiles next) = without_job m act
after m number (write ops sync) (OkAt last) = record m { versions = m.versions ++ made m.last.0 ops; last = record { 0 = last } }
after m number (raise family floor) Done = with_family m family (with_floor floor)
after m number make_snapshot (OkAt seq) = record m { snaps = m.snaps ++ record { event = number; seq = m.last } ∷ [] }
after m number (release event) Done = record m { snaps = filter (λ s. not (s.event == event)) m.snaps }
after m number (flush_start family) (OkAt through) = record m { flush = Some (record { start = number; family = family; through = m.last; floor = floor_at m family; seqs = seqs_of m }) }
after m number (flush_end family start) (Table table kept floor) = with_flush m m.flush table floor
after m number (compact_start family pick) (Inputs inputs level) = record m { compaction = Some (record { start = number; family = family; inputs = inputs; level = level; deeper = deeper_of m family inputs level; last = m.last; floor = floor_at m family; seqs = seqs_of m }) }
after m number (compact_end family start) (Kept kept pieces) = with_compaction m m.compaction pieces
after m number act reply = m
