-- Entries of the history of the threads: events by numbers, with their replies.
use Rattle.std.specs.Prelude.{◌≡◌, ℕ, ◌+◌, ◌-◌, ◌^◌, ◌<◌, ◌≤◌, ◌==◌, length, min, Bool, true, false, IsTrue, ⊤, List, [], ◌∷◌, Option, Some, None}
use Rattle.udt_model.specs.declared.reply.Reply.{Reply}
use Rattle.udt_model.specs.declared.reply.Reply.TheVariants.{OkAt, Inputs, Files, DroppedFault, DroppedFiles, Fault}
use Rattle.udt_model.specs.State.{State, is_registered}
use Rattle.udt_model.specs.Acts.{Act, takes_commit}
use Rattle.udt_model.specs.Acts.Act.{get, scan, ask_floor, make_snapshot, release, pin, flush_start, flush_end, compact_start, compact_end}
use Rattle.udt_model.specs.Jobs.{unflushed_of}
use Rattle.udt_model.specs.Steps.{IsReplyTo, after, file_limit}

-- how often the disk had failed, and the number of the engine's next file
pub record Counts : Type 0 where
  pub faults : ℕ
  pub files : ℕ

-- A read stands without its reply, which changes nothing. What takes the commit has the counts that it left.
pub data Entry : Type 0 where
  reads : (act : Act) → Entry
  says : (act : Act) (reply : Reply) → Entry
  works : (act : Act) (reply : Reply) (counts : Counts) → Entry

abbrev pub is_get : Act → Bool
is_get (get family key t snap) = true
is_get (scan family range t limit forward snap) = true
is_get act = false

-- the act makes a step that neither reads nor works on the disk; what it releases is registered
abbrev pub is_said : State → Act → Bool
is_said m (ask_floor family) = true
is_said m make_snapshot = true
is_said m (release event) = is_registered m event
is_said m pin = true
is_said m act = false

-- the disk's count rose, or stands at its end
abbrev pub HasCounted : ℕ → ℕ → Type 0
HasCounted before now = min (before + 1) (2 ^ 64 - 1) ≤ now

-- a fault comes only where it did
abbrev pub HasRisen : Reply → ℕ → ℕ → Type 0
HasRisen Fault before now = HasCounted before now
HasRisen DroppedFault before now = HasCounted before now
HasRisen reply before now = ⊤

-- that there are no files is told only where it is so
abbrev pub HasRunOut : Reply → ℕ → Type 0
HasRunOut (Files next) files = files ≡ file_limit
HasRunOut (DroppedFiles next) files = files ≡ file_limit
HasRunOut reply files = ⊤

-- A flush starts only where there was a file left, and the disk fails under its start only there too: where there is a version to take
-- and no file for it, that is told first.
abbrev pub HasFile : State → Act → Reply → ℕ → Type 0
HasFile m (flush_start family) (OkAt through) files = files < file_limit
HasFile m (flush_start family) Fault files = 0 < length (unflushed_of m family) → files < file_limit
HasFile m act reply files = ⊤

pub record IsWorked (m : State) (old new : Counts) (act : Act) (reply : Reply) : Type 0 where
  pub takes : IsTrue (takes_commit act)
  pub legal : IsReplyTo m act reply
  pub faults : old.faults ≤ new.faults
  pub files : old.files ≤ new.files
  pub risen : HasRisen reply old.faults new.faults
  pub run_out : HasRunOut reply new.files
  pub file : HasFile m act reply old.files
  pub within : new.files ≤ file_limit

-- the entry may follow in a state, with these counts
abbrev pub IsEntry : State → Counts → Entry → Type 0
IsEntry m counts (reads act) = IsTrue (is_get act)
IsEntry m counts (says act reply) = IsTrue (is_said m act) × IsReplyTo m act reply
IsEntry m counts (works act reply new) = IsWorked m counts new act reply

abbrev pub after_entry : State → ℕ → Entry → State
after_entry m number (reads act) = m
after_entry m number (says act reply) = after m number act reply
after_entry m number (works act reply counts) = after m number act reply

abbrev pub counts_after : Counts → Entry → Counts
counts_after old (works act reply counts) = counts
counts_after old entry = old

-- these entries, numbered from the one above `number`, are legal one after the other
abbrev pub AreEntries : State → Counts → ℕ → List Entry → Type 0
AreEntries m counts number [] = ⊤
AreEntries m counts number (e ∷ es) = IsEntry m counts e × AreEntries (after_entry m (number + 1) e) (counts_after counts e) (number + 1) es

-- the entry changes the registered snapshots alone, or nothing
abbrev pub leaves_commit : Entry → Bool
leaves_commit (works act reply counts) = false
leaves_commit entry = true

-- ---- what a seat needs

abbrev pub act_of_entry : Entry → Act
act_of_entry (reads act) = act
act_of_entry (says act reply) = act
act_of_entry (works act reply counts) = act

-- a release stands with the seat that has its snapshot, and the end of a job with the one that has its start
abbrev pub needed : Act → Option ℕ
needed (release event) = Some event
needed (flush_end family start) = Some start
needed (compact_end family start) = Some start
needed act = None

-- the entry is what the act needs: the snapshot, or the start of the job
abbrev pub is_start_of : Act → Entry → Bool
is_start_of (release event) (says make_snapshot (OkAt seq)) = true
is_start_of (flush_end family start) (works (flush_start f) (OkAt through) counts) = f.0 == family.0
is_start_of (compact_end family start) (works (compact_start f pick) (Inputs inputs level) counts) = f.0 == family.0
is_start_of act entry = false
