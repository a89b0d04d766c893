-- Why a command file isn't read: what the host told of it, and what the command met.
use Rattle.std.proofs.Common.{◌≡◌, ℕ, false, List, ◌++◌, Some, None, ◌⊎◌, refl, sym, ap, subst, ◌∙◌, inl, inr}
use Rattle.std.specs.Prelude.{All, slice_index_or}
use Rattle.udt_disk.specs.Causes.{Rose}
use Rattle.udt_disk.specs.Opens.{Standing, IsStanding, Told, IsMissing}
use Rattle.udt_model.specs.Lines.{says_files}
use Rattle.udt_model.specs.Histories.{HasFiles}
use Rattle.udt_model.specs.declared.reply.Reply.{Reply}
use Rattle.udt_model.specs.declared.reply.Reply.TheVariants as replies
use Rattle.udt_model.specs.declared.line.Line.{Line}
use Rattle.client_lang.specs.declared.command.Command.{Command}
use Rattle.client_runner.specs.Refusals.{TellsFault, TellsStop}
use Rattle.client_runner.specs.Works.{StopsAt}
use Rattle.client_lang.specs.declared.grammar.lines.ReadFault.{ReadFault}
use Rattle.client_lang.specs.declared.grammar.lines.ReadFault.TheVariants as faults
use Rattle.client_lang.specs.Faults.{IsReadFault, Refuses}
use Rattle.client_lang.specs.Grammar.{IsFile}
use Rattle.client_lang.specs.Print.{IsBuiltLine, IsBuiltReply, print_lines}
use Rattle.client_runner.specs.Ready.{IsMessage, IsReadAs, IsTranscribed, IsTextReady, IsReadyStop, IsTried, stop_of_read}
use Rattle.client_runner.specs.Stops.{IsFileStop, status_of}
use Rattle.client_runner.specs.declared.output.Ready.{Ready}
use Rattle.client_runner.specs.declared.status.Status.{Status}
use Rattle.client_runner.specs.declared.status.Status.TheVariants as statuses
use Rattle.client_runner.specs.declared.status.Stop.{Stop}
use Rattle.client_runner.specs.declared.status.Stop.TheVariants.{NoFile, TooLong, TooMany, BadLine, SourceFault, NoMemory}
use Rattle.client_lang.proofs.BadLines.{none_refused, one_refusal}

-- ---- files

has_files : (r : Reply) → IsBuiltReply r → says_files r ≡ false
has_files (replies.Files next) built = absurd built
has_files (replies.DroppedFiles next) built = absurd built
has_files r built = refl

-- no reply that is built says that there are no files left
files_there : (lines : List Line) → All IsBuiltLine lines → All HasFiles lines
files_there lines built = λ k d within. has_files (slice_index_or lines k d).reply (built k d within).reply

-- commands that are transcribed give the transcript of a file that spells them
pub transcribed_file : (bytes : List ℕ) (commands : List Command) (r : Ready) → IsFile bytes commands → ((other : List Command) → IsFile bytes other → other ≡ commands) → IsTranscribed commands r → IsTextReady bytes r
transcribed_file bytes commands r spelled only p = record {
  transcript = record { commands = commands; lines = r.lines.items; spelled = spelled; only = only; history = p.history; sound = p.sound; files = files_there r.lines.items p.built; printed = ap (λ (t : List ℕ). t ++ print_lines r.lines.items) p.header };
  built = p.built;
  room = p.room;
}

pub tried_of : (standing : Standing) (commands : List Command) (r : Ready) → IsReadAs standing commands → IsTranscribed commands r → IsTried standing r
tried_of standing commands r read p = record { bytes = read.bytes; stands = read.stands; ready = transcribed_file read.bytes commands r read.spelled read.only p }

-- what is said of the bytes that were read is said of those that stand there
pub told_of : (P : List ℕ → Type 0) (standing : Standing) (bytes : List ℕ) → IsStanding standing (Some bytes) → P bytes → Told standing P
told_of P None bytes stands p = tt
told_of P (Some None) bytes stands p = absurd stands
told_of P (Some (Some told)) bytes stands p = let same : bytes ≡ told = cc in subst P same p

pub stop_of : (standing : Standing) (before now : ℕ) (bytes : List ℕ) (stop : Stop) → IsStanding standing (Some bytes) → IsReadyStop bytes stop → IsFileStop standing before now stop
stop_of standing before now bytes TooLong stands h = told_of (λ (b : List ℕ). Refuses b faults.TooLong) standing bytes stands h
stop_of standing before now bytes (TooMany n) stands h = told_of (λ (b : List ℕ). Refuses b (faults.TooMany n)) standing bytes stands h
stop_of standing before now bytes (BadLine n) stands h = told_of (λ (b : List ℕ). Refuses b (faults.BadLine n)) standing bytes stands h
stop_of standing before now bytes NoMemory stands h = tt
stop_of standing before now bytes stop stands h = absurd h

-- the stop of a fault of reading has its cause
pub fault_stops : (bytes : List ℕ) (fault : ReadFault) → IsReadFault bytes fault → IsReadyStop bytes (stop_of_read fault)
fault_stops bytes faults.TooLong (inl h) = h
fault_stops bytes faults.TooLong (inr want) = absurd (cc want)
fault_stops bytes (faults.TooMany n) (inl h) = h
fault_stops bytes (faults.TooMany n) (inr want) = absurd (cc want)
fault_stops bytes (faults.BadLine n) (inl h) = h
fault_stops bytes (faults.BadLine n) (inr want) = absurd (cc want)
fault_stops bytes faults.NoMemory h = tt

-- the message that was said is the stop's, or that of want of memory
pub said_stop : (standing : Standing) (before now : ℕ) (path : List ℕ) (stop : Stop) (status : Status) (text : List ℕ) → IsFileStop standing before now stop → IsMessage path stop status text → StopsAt standing before now path status text
said_stop standing before now path stop status text cause (inl said) = record { stop = stop; cause = cause; status_is = said.0; text_is = said.1 }
said_stop standing before now path stop status text cause (inr want) = record { stop = NoMemory; cause = tt; status_is = want.1; text_is = want.2 }

-- ---- the other direction

-- what the host tells of a file is what the command found
same_bytes : (standing : Standing) (told bytes : List ℕ) → standing ≡ Some (Some told) → IsStanding standing (Some bytes) → bytes ≡ told
same_bytes None told bytes e stands = absurd (cc e)
same_bytes (Some None) told bytes e stands = absurd stands
same_bytes (Some (Some b)) told bytes e stands = cc

told_bytes : (P : List ℕ → Type 0) (standing : Standing) (bytes : List ℕ) → standing ≡ Some (Some bytes) → Told standing P → P bytes
told_bytes P None bytes e h = absurd (cc e)
told_bytes P (Some None) bytes e h = absurd h
told_bytes P (Some (Some b)) bytes e h = let same : b ≡ bytes = cc in subst P same h

pub not_missing : (standing : Standing) (bytes : List ℕ) → standing ≡ Some (Some bytes) → IsMissing standing → ⊥
not_missing None bytes e h = cc e
not_missing (Some None) bytes e h = cc e
not_missing (Some (Some b)) bytes e h = cc h

not_standing : (standing : Standing) (bytes : List ℕ) → standing ≡ Some None → IsStanding standing (Some bytes) → ⊥
not_standing None bytes e h = cc e
not_standing (Some None) bytes e h = h
not_standing (Some (Some b)) bytes e h = cc e

not_told : (P : List ℕ → Type 0) (standing : Standing) → standing ≡ Some None → Told standing P → ⊥
not_told P None e h = cc e
not_told P (Some None) e h = h
not_told P (Some (Some b)) e h = cc e

-- a fault that is told isn't that of a command file
pub not_refused : (standing : Standing) (fault : ReadFault) (bytes : List ℕ) (commands : List Command) → standing ≡ Some (Some bytes) → IsFile bytes commands → Told standing (λ b. Refuses b fault) → ⊥
not_refused standing fault bytes commands s spelled h = none_refused bytes commands fault spelled (told_bytes (λ (b : List ℕ). Refuses b fault) standing bytes s h)

-- a file in the grammar has no stop but a fault or want of memory
pub no_stop : (standing : Standing) (before now : ℕ) (stop : Stop) (bytes : List ℕ) (commands : List Command) → standing ≡ Some (Some bytes) → IsFile bytes commands
    → (Rose before now → ⊥) → IsFileStop standing before now stop → stop ≡ NoMemory
no_stop standing before now NoFile bytes commands s spelled quiet h = absurd (not_missing standing bytes s h)
no_stop standing before now TooLong bytes commands s spelled quiet h = absurd (not_refused standing faults.TooLong bytes commands s spelled h)
no_stop standing before now (TooMany n) bytes commands s spelled quiet h = absurd (not_refused standing (faults.TooMany n) bytes commands s spelled h)
no_stop standing before now (BadLine n) bytes commands s spelled quiet h = absurd (not_refused standing (faults.BadLine n) bytes commands s spelled h)
no_stop standing before now SourceFault bytes commands s spelled quiet h = absurd (quiet h)
no_stop standing before now NoMemory bytes commands s spelled quiet h = refl
no_stop standing before now stop bytes commands s spelled quiet h = absurd h

-- ---- one cause

-- the cause that is told of a file: it is missing, or refused for a fault of reading
abbrev IsCause : Standing → Stop → Type 0
IsCause standing stop = ((stop ≡ NoFile) × (standing ≡ Some None)) ⊎ ((fault : ReadFault) × (stop ≡ stop_of_read fault) × TellsFault standing fault)

cause_told : (standing : Standing) (stop : Stop) → TellsStop standing stop → IsCause standing stop
cause_told standing NoFile t = inl (refl, t)
cause_told standing TooLong t = inr (faults.TooLong, refl, t)
cause_told standing (TooMany n) t = inr (faults.TooMany n, refl, t)
cause_told standing (BadLine n) t = inr (faults.BadLine n, refl, t)
cause_told standing stop t = absurd t

-- the cause that the command met
abbrev IsMet : Standing → Stop → Type 0
IsMet standing stop = ((stop ≡ NoFile) × IsMissing standing) ⊎ ((fault : ReadFault) × (stop ≡ stop_of_read fault) × Told standing (λ b. Refuses b fault))

-- or a fault or want of memory
abbrev pub IsFault : Stop → Type 0
IsFault stop = (status_of stop ≡ statuses.SourceFault) ⊎ (status_of stop ≡ statuses.NoMemory)

cause_met : (standing : Standing) (before now : ℕ) (stop : Stop) → IsFileStop standing before now stop → IsMet standing stop ⊎ IsFault stop
cause_met standing before now NoFile h = inl (inl (refl, h))
cause_met standing before now TooLong h = inl (inr (faults.TooLong, refl, h))
cause_met standing before now (TooMany n) h = inl (inr (faults.TooMany n, refl, h))
cause_met standing before now (BadLine n) h = inl (inr (faults.BadLine n, refl, h))
cause_met standing before now SourceFault h = inr (inl refl)
cause_met standing before now NoMemory h = inr (inr refl)
cause_met standing before now stop h = absurd h

one_cause : (standing : Standing) (told stop : Stop) → IsCause standing told → IsMet standing stop → stop ≡ told
one_cause standing told stop (inl t) (inl m) = m.0 ∙ sym t.0
one_cause standing told stop (inl t) (inr m) = absurd (not_told (λ (b : List ℕ). Refuses b m.0) standing t.1 m.2)
one_cause standing told stop (inr t) (inl m) = absurd (not_missing standing t.2.0 t.2.1 m.1)
one_cause standing told stop (inr t) (inr m) =
    let same = one_refusal t.2.0 m.0 t.0 (told_bytes (λ (b : List ℕ). Refuses b m.0) standing t.2.0 t.2.1 m.2) t.2.2 in
    m.1 ∙ ap stop_of_read same ∙ sym t.1

-- where the host tells the cause of a stop, a stop is that one, or a fault or want of memory
pub told_stop : (standing : Standing) (before now : ℕ) (told stop : Stop) → TellsStop standing told → IsFileStop standing before now stop → (stop ≡ told) ⊎ IsFault stop
told_stop standing before now told stop t h =
    elim (cause_met standing before now stop h) [
      | inl met ↦ inl (one_cause standing told stop (cause_told standing told t) met)
      | inr fault ↦ inr fault
    ]

-- where the host tells the cause of a stop, no command file stands there
pub not_read : (standing : Standing) (told : Stop) (bytes : List ℕ) (commands : List Command) → TellsStop standing told → IsStanding standing (Some bytes) → IsFile bytes commands → ⊥
not_read standing told bytes commands t stands spelled =
    elim (cause_told standing told t) [
      | inl missing ↦ not_standing standing bytes missing.1 stands
      | inr refused ↦
          let same = same_bytes standing refused.2.0 bytes refused.2.1 stands in
          none_refused refused.2.0 commands refused.0 (subst (λ (b : List ℕ). IsFile b commands) same spelled) refused.2.2
    ]
