-- Which lines a client's commands give, and the histories of clients.
use Rattle.std.specs.Prelude.{◌≡◌, ℕ, ◌+◌, ◌≤◌, Bool, true, false, not, if◌then◌else◌, IsTrue, codes, List, [], ◌∷◌, ◌++◌, length, map, filter, All, EachIndex, Option, Some, None, slice_index_or}
use Rattle.std.specs.Str.{bytes_eq}
use Rattle.ts_key.specs.declared.numbers.Ts.{Ts}
use Rattle.udt_model.specs.declared.event.Event.{Event}
use Rattle.udt_model.specs.declared.event.Event.TheVariants.{Raise, Snap, Release, Pin, Sync, FlushStart, FlushEnd, CompactStart, CompactEnd}
use Rattle.udt_model.specs.declared.reply.Reply.{Reply}
use Rattle.udt_model.specs.declared.reply.Reply.TheVariants.{Done, OkAt, Nothing, Table, Inputs, Kept}
use Rattle.udt_model.specs.declared.line.Line.{Line}
use Rattle.udt_model.specs.declared.line.Who.{Who}
use Rattle.udt_model.specs.declared.line.Who.TheVariants.{Client, Flusher, Compactor, Runner}
use Rattle.udt_model.specs.State.{State}
use Rattle.udt_model.specs.Lines.{is_step}
use Rattle.udt_model.specs.Histories.{Point, start, start_of, Leads, own_lines}
use Rattle.client_lang.specs.declared.command.Command.{Command}
use Rattle.client_lang.specs.declared.command.Command.TheVariants as commands

-- what a command does one after the other: an event, or a job, which is a start and its end
pub data Task : Type 0 where
  asks : (event : Event) → Task
  flushes : (family : List ℕ) → Task
  compacts : (family : List ℕ) → Task

-- the raise of a compaction, where there is one
abbrev pub raise_first : List ℕ → Option Ts → List Task
raise_first family None = []
raise_first family (Some floor) = asks (Raise family floor) ∷ []

abbrev pub tasks_of : Command → List Task
tasks_of (commands.Line event) = asks event ∷ []

-- the event that a task begins with
abbrev pub first_event : Task → Event
first_event (asks event) = event
first_event (flushes family) = FlushStart family
first_event (compacts family) = CompactStart family false

-- the end of a job that started with this number
abbrev pub rest_of : Task → ℕ → Reply → List Task
rest_of (flushes family) number (OkAt through) = asks (FlushEnd family number) ∷ []
rest_of (compacts family) number (Inputs inputs level) = asks (CompactEnd family number) ∷ []
rest_of task number reply = []

-- a command goes on behind an ok, a none, a start and a finished end
abbrev pub goes_on : Reply → Bool
goes_on Done = true
goes_on (OkAt n) = true
goes_on Nothing = true
goes_on (Inputs inputs level) = true
goes_on (Table table kept floor) = true
goes_on (Kept kept pieces) = true
goes_on reply = false

-- the lines do the tasks in order, and stop behind the first that doesn't go on
abbrev pub AreDone : List Task → List Line → Type 0
AreDone tasks [] = tasks ≡ []
AreDone [] (l ∷ ls) = ⊥
AreDone (task ∷ tasks) (l ∷ ls) = (l.event ≡ first_event task) × AreDone (if goes_on l.reply then rest_of task l.mark.number l.reply ++ tasks else []) ls

-- the lines are those of the commands, each done once and in order
abbrev pub Expand : List Command → List Line → Type 0
Expand [] ls = ls ≡ []
Expand (command ∷ commands) ls = (front : List Line) × (rest : List Line) × AreDone (tasks_of command) front × Expand commands rest × (ls ≡ front ++ rest)

-- ---- the end of a client

abbrev pub without_name : List ℕ → List (List ℕ) → List (List ℕ)
without_name name names = filter (λ n. not (bytes_eq n name)) names

-- a snapshot is held from the line that gave it to its release
abbrev pub held_after : List (List ℕ) → Event → Reply → List (List ℕ)
held_after held (Snap name) (OkAt seq) = held ++ name ∷ []
held_after held (Release name) reply = without_name name held
held_after held event reply = held

-- the snapshots that are held behind the lines, in the order in which they were made
abbrev pub held_behind : List (List ℕ) → List Line → List (List ℕ)
held_behind held [] = held
held_behind held (l ∷ ls) = held_behind (held_after held l.event l.reply) ls

-- the lines of a client: those of its commands, then one release for each snapshot that it still holds
abbrev pub IsClient : List Command → List Line → Type 0
IsClient commands ls = (front : List Line) × (rest : List Line) × Expand commands front × (map (λ (l : Line). l.event) rest ≡ map Release (held_behind [] front)) × (ls ≡ front ++ rest)

-- ---- one client

-- A history under way: the lines lead from the state to this end, and are those of client 1 for the commands that it has made so
-- far, and no others.
pub record IsSoloRun (m : State) (commands : List Command) (lines : List Line) (end : Point) : Type 0 where
  pub legal : Leads (start m) lines end
  pub once : Expand commands (own_lines (Client 1) lines)
  pub alone : own_lines (Client 1) lines ≡ lines

-- A legal history from the state on, whose lines are those of client 1, its last releases included, and no others.
pub record IsSoloHistory (m : State) (commands : List Command) (lines : List Line) : Type 0 where
  pub end : Point
  pub legal : Leads (start m) lines end
  pub once : IsClient commands (own_lines (Client 1) lines)
  pub alone : own_lines (Client 1) lines ≡ lines

-- A legal history from the state on to this end, whose lines are those of client 1, and then one sync of the runner.
pub record IsRunHistory (m : State) (commands : List Command) (lines : List Line) (end : Point) : Type 0 where
  pub legal : Leads (start m) lines end
  pub once : IsClient commands (own_lines (Client 1) lines)
  pub sync : Line
  pub is_sync : sync.event ≡ Sync
  pub is_runner : sync.who ≡ Runner
  pub rest : lines ≡ own_lines (Client 1) lines ++ sync ∷ []

-- ---- several clients

-- what the flusher asks: its own view, and flushes
abbrev pub is_of_flusher : Event → Bool
is_of_flusher (Pin name) = bytes_eq name (codes "f")
is_of_flusher (FlushStart family) = true
is_of_flusher (FlushEnd family start) = true
is_of_flusher event = false

-- what the compactor asks: its own view, and compactions of a pick
abbrev pub is_of_compactor : Event → Bool
is_of_compactor (Pin name) = bytes_eq name (codes "m")
is_of_compactor (CompactStart family pick) = pick
is_of_compactor (CompactEnd family start) = true
is_of_compactor event = false

-- one of so many clients may ask anything, the flusher and the compactor their own work alone, and the runner nothing yet
abbrev pub IsAskedBy : ℕ → Who → Event → Type 0
IsAskedBy clients (Client n) event = (1 ≤ n) × (n ≤ clients)
IsAskedBy clients Flusher event = IsTrue (is_of_flusher event)
IsAskedBy clients Compactor event = IsTrue (is_of_compactor event)
IsAskedBy clients Runner event = ⊥

-- A legal history from the state on to this end. The lines of each client are those of its commands; every other line is of the flusher
-- or the compactor; and the last one is a sync of the runner, which has a number.
pub record IsJointHistory (m : State) (files : List (List Command)) (lines : List Line) (end : Point) : Type 0 where
  pub legal : Leads (start_of end.height m) lines end
  pub whole : end.height ≡ end.number
  pub once : EachIndex files (λ i. IsClient (slice_index_or files i []) (own_lines (Client (i + 1)) lines))
  pub front : List Line
  pub actors : All (λ (l : Line). IsAskedBy (length files) l.who l.event) front
  pub sync : Line
  pub is_sync : sync.event ≡ Sync
  pub is_runner : sync.who ≡ Runner
  pub numbered : IsTrue (is_step sync.event sync.reply)
  pub rest : lines ≡ front ++ sync ∷ []
