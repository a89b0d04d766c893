-- Transcripts that wait to be written, and why there is none.
use Rattle.std.specs.Prelude.{◌≡◌, ◌⊎◌, ℕ, ◌≤◌, List, ◌++◌, length, All, Some}
use Rattle.udt_disk.specs.Opens.{Standing, IsStanding}
use Rattle.client_lang.specs.declared.command.Command.{Command}
use Rattle.udt_model.specs.Histories.{IsSound}
use Rattle.solo_runner.specs.Expand.{IsSoloHistory}
use Rattle.client_lang.specs.declared.grammar.lines.ReadFault.{ReadFault}
use Rattle.client_lang.specs.declared.grammar.lines.ReadFault.TheVariants as faults
use Rattle.client_lang.specs.Faults.{Refuses}
use Rattle.client_runner.specs.Output.{HasRoomForLines}
use Rattle.client_lang.specs.Grammar.{IsFile}
use Rattle.client_lang.specs.declared.grammar.lines.TheConstants.{COMMAND_LIMIT}
use Rattle.client_lang.specs.Print.{IsBuiltCommand, IsBuiltLine, print_header, print_lines}
use Rattle.client_lang.specs.Stamps.{IsStampedCommand}
use Rattle.client_runner.specs.Stops.{TakesMemory, message, status_of}
use Rattle.solo_runner.specs.Transcripts.{IsTranscript, fresh}
use Rattle.client_runner.specs.declared.output.Ready.{Ready}
use Rattle.client_runner.specs.declared.status.Status.{Status}
use Rattle.client_runner.specs.declared.status.Stop.{Stop}
use Rattle.client_runner.specs.declared.status.Stop.TheVariants.{TooLong, TooMany, BadLine, NoMemory}
use Rattle.udt_model.specs.State.{heads_of}

-- the commands of the file that stands there
pub record IsReadAs (standing : Standing) (commands : List Command) : Type 0 where
  pub bytes : List ℕ
  pub stands : IsStanding standing (Some bytes)
  pub spelled : IsFile bytes commands
  pub only : (other : List Command) → IsFile bytes other → other ≡ commands
  pub built : All IsBuiltCommand commands
  pub stamped : All IsStampedCommand commands
  pub few : length commands ≤ COMMAND_LIMIT

-- the whole text
abbrev pub text_of : Ready → List ℕ
text_of r = r.buffer.items ++ print_lines r.lines.items

-- the lines are those of the commands, behind the header, and the buffer has the room to write them
pub record IsTranscribed (commands : List Command) (r : Ready) : Type 0 where
  pub history : IsSoloHistory fresh commands r.lines.items
  pub sound : All IsSound r.lines.items
  pub header : r.buffer.items ≡ print_header 0 (heads_of fresh)
  pub built : All IsBuiltLine r.lines.items
  pub room : HasRoomForLines r.buffer r.lines.items

-- the text is the transcript of these bytes, and the buffer has the room to write it
pub record IsTextReady (bytes : List ℕ) (r : Ready) : Type 0 where
  pub transcript : IsTranscript bytes (text_of r)
  pub built : All IsBuiltLine r.lines.items
  pub room : HasRoomForLines r.buffer r.lines.items

-- the same for the file that stands there
pub record IsTried (standing : Standing) (r : Ready) : Type 0 where
  pub bytes : List ℕ
  pub stands : IsStanding standing (Some bytes)
  pub ready : IsTextReady bytes r

-- the stop of a fault of reading
abbrev pub stop_of_read : ReadFault → Stop
stop_of_read (faults.BadLine n) = BadLine n
stop_of_read (faults.TooMany n) = TooMany n
stop_of_read faults.TooLong = TooLong
stop_of_read faults.NoMemory = NoMemory

-- these bytes are no command file; want of memory is free
abbrev pub IsReadyStop : List ℕ → Stop → Type 0
IsReadyStop bytes TooLong = Refuses bytes faults.TooLong
IsReadyStop bytes (TooMany n) = Refuses bytes (faults.TooMany n)
IsReadyStop bytes (BadLine n) = Refuses bytes (faults.BadLine n)
IsReadyStop bytes NoMemory = Unit {0}
IsReadyStop bytes stop = ⊥

-- the status and the message of a stop, or where that takes memory, of want of memory in its place
abbrev pub IsMessage : List ℕ → Stop → Status → List ℕ → Type 0
IsMessage path stop status text =
    ((status ≡ status_of stop) × (text ≡ message path stop)) ⊎ (TakesMemory stop × (status ≡ status_of NoMemory) × (text ≡ message path NoMemory))
