-- What a crash may leave of a history.
use Rattle.std.specs.Prelude.{◌≡◌, ◌⊎◌, ℕ, ◌+◌, ◌≤◌, Bool, true, false, IsTrue, if◌then◌else◌, List, [], ◌∷◌, ◌++◌, Contains, Option, Some, None}
use Rattle.udt_model.specs.declared.reply.Reply.{Reply}
use Rattle.udt_model.specs.declared.reply.Reply.TheVariants.{Done, OkAt, Table, Kept, Fault}
use Rattle.udt_model.specs.declared.line.Line.{Line}
use Rattle.udt_model.specs.Versions.{up_to}
use Rattle.udt_model.specs.State.{State, heads_of, live_numbers}
use Rattle.udt_model.specs.Acts.{Act}
use Rattle.udt_model.specs.Acts.Act.{write, raise, sync_all, flush_end, compact_end}
use Rattle.udt_model.specs.Steps.{IsTold, after, is_running}
use Rattle.udt_model.specs.Names.{act_of}
use Rattle.udt_model.specs.Histories.{Point, behind}

-- the act under which the disk failed, with the state before it and the number of its event
pub record Failing : Type 0 where
  pub state : State
  pub number : ℕ
  pub act : Act

-- How far the writes of a history are cut and synced: the last sequences at its beginning and behind each accepted write, and the
-- one up to which all is synced; and where the disk failed, if it did.
pub record Course : Type 0 where
  pub ends : List ℕ
  pub synced : ℕ
  pub failing : Option Failing

abbrev pub course_start : State → Course
course_start m = record { ends = m.last.0 ∷ []; synced = m.last.0; failing = None }

abbrev pub ends_after : List ℕ → Act → Reply → List ℕ
ends_after ends (write ops sync) (OkAt last) = ends ++ last ∷ []
ends_after ends act reply = ends

-- with this reply every write so far is on the disk
abbrev pub syncs : Act → Reply → Bool
syncs (write ops sync) (OkAt last) = sync
syncs (raise family floor) Done = true
syncs sync_all Done = true
syncs (flush_end family start) (Table table kept floor) = true
syncs (compact_end family start) (Kept kept pieces) = true
syncs act reply = false

abbrev pub failing_at : State → ℕ → Act → Option Failing
failing_at m number act = Some (record { state = m; number = number; act = act })

-- the disk failed under an act that was to change what is on it
abbrev pub failing_after : State → ℕ → Option Failing → Act → Reply → Option Failing
failing_after m number failing (write ops sync) Fault = failing_at m number (write ops sync)
failing_after m number failing (raise family floor) Fault = failing_at m number (raise family floor)
failing_after m number failing (flush_end family start) Fault = failing_at m number (flush_end family start)
failing_after m number failing (compact_end family start) Fault = failing_at m number (compact_end family start)
failing_after m number failing act reply = failing

-- what an act in the state m makes of it with this reply
abbrev pub course_after : State → ℕ → Course → Act → Reply → Course
course_after m number c act reply = record {
  ends = ends_after c.ends act reply;
  synced = if syncs act reply then (after m number act reply).last.0 else c.synced;
  failing = failing_after m number c.failing act reply;
}

abbrev pub course_after_or : State → ℕ → Course → Option Act → Reply → Course
course_after_or m number c None reply = c
course_after_or m number c (Some act) reply = course_after m number c act reply

-- what the lines behind a point make of it
abbrev pub course_behind : Point → Course → List Line → Course
course_behind p c [] = c
course_behind p c (l ∷ ls) = course_behind (behind p l) (course_after_or p.state (p.number + 1) c (act_of (heads_of p.state) (p.names l.who) l.event) l.reply) ls

-- ---- what is left

-- what opening a folder gives again: no snapshot, no job and no halt
abbrev pub settled : State → State
settled m = record m { halted = None; used = live_numbers m; snaps = []; flush = None; compaction = None }

-- the writes up to a sequence
abbrev pub cut_at : State → ℕ → State
cut_at m end = settled (record m { versions = up_to end m.versions; last = record { 0 = end } })

-- the writes up to one of the ends that are at least synced
abbrev pub IsCut : State → Course → State → Type 0
IsCut m c left = (end : ℕ) × Contains c.ends end × (c.synced ≤ end) × (left ≡ cut_at m end)

-- with this reply the act changed what is on the disk: a write, a raise, or the end of a job
abbrev pub is_change : Act → Reply → Bool
is_change (write ops sync) (OkAt last) = true
is_change (raise family floor) Done = true
is_change (flush_end family start) (Table table kept floor) = true
is_change (compact_end family start) (Kept kept pieces) = true
is_change act reply = false

-- every write, and what the act changes; an end is that of the job that runs
abbrev pub IsChanged : State → ℕ → Act → State → Type 0
IsChanged m number act left = (reply : Reply) × IsTold m act reply × IsTrue (is_change act reply) × (left ≡ settled (after m number act reply)) × IsTrue (is_running m act)

abbrev pub IsFailed : Option Failing → State → Type 0
IsFailed None left = ⊥
IsFailed (Some f) left = IsChanged f.state f.number f.act left

-- A crash may leave this: the writes up to one of the ends that are at least synced, or every write and what the act under which
-- the disk failed was to change.
abbrev pub IsOutcome : State → Course → State → Type 0
IsOutcome m c left = IsCut m c left ⊎ IsFailed c.failing left

-- the same while the disk works on an act
abbrev pub IsOutcomeUnder : State → Course → ℕ → Act → State → Type 0
IsOutcomeUnder m c number act left = IsOutcome m c left ⊎ IsChanged m number act left
