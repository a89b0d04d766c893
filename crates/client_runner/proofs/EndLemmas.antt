-- What a command meant, from what its parts answered.
use Rattle.std.proofs.Common.{◌≡◌, ℕ, false, List, [], ◌++◌, Option, refl, sym, ap, subst, ◌∙◌, inl, inr}
use Rattle.std.specs.Prelude.{All, Some, None}
use Rattle.std.specs.List.{list_any}
use Rattle.udt_disk.specs.Causes.{Rose}
use Rattle.udt_disk.specs.Opens.{Standing}
use Rattle.udt_disk.specs.OpensFolder.{Holding}
use Rattle.udt_model.specs.declared.line.FamilyHead.{FamilyHead}
use Rattle.udt_model.specs.declared.line.Line.{Line}
use Rattle.udt_model.specs.State.{State, heads_of}
use Rattle.udt_model.specs.Histories.{Point, Leads, start}
use Rattle.client_lang.specs.Print.{IsBuiltLine, print_header, print_lines}
use Rattle.client_runner.specs.Commands.{IsRunCommand}
use Rattle.client_runner.specs.Ends.{IsWorkEnd}
use Rattle.client_runner.specs.Works.{IsInitWork, IsRunLeft, IsRunWork}
use Rattle.client_runner.specs.Hosts.{IsFileOf, IsFolderOf, StaysElsewhere}
use Rattle.client_runner.specs.HostRuns.{IsRunFrom, IsStoppedFrom}
use Rattle.client_runner.specs.Inits.{IsInitLeft}
use Rattle.client_runner.specs.Left.{Crashes, LeavesByName, crashes, status_of_lines, tells_fault}
use Rattle.client_runner.specs.Ready.{IsMessage, text_of}
use Rattle.solo_runner.specs.Solo.{AreSoundUnless}
use Rattle.client_runner.specs.Stops.{IsInitStop, TakesMemory}
use Rattle.client_runner.specs.declared.output.Ready.{Ready}
use Rattle.client_runner.specs.declared.status.Status.{Status}
use Rattle.client_runner.specs.declared.status.Status.TheVariants as statuses
use Rattle.client_runner.specs.declared.status.Stop.{Stop}
use Rattle.client_runner.specs.declared.status.Stop.TheVariants.{NoFile, TooLong, TooMany, BadLine, StoreExists, BadManifest, BadLog, DiskFault, NoMemory}
use Rattle.client_runner.specs.Works.{Spells}
use Rattle.client_runner.specs.Left.{IsUnmadeAt, StaysAsItWas, TellsFolder}
use Rattle.client_lang.specs.declared.command.Command.{Command}
use Rattle.head_manifest.specs.Folders.{Means}
use Rattle.head_manifest.specs.Folders.Meaning.{no_store, bad_at}
use Rattle.udt_disk.specs.Joint.{Folder}
use Rattle.client_runner.proofs.FolderLemmas.{not_bad}
use Rattle.client_runner.proofs.FaultLemmas.{none_told}
use Rattle.client_runner.proofs.OutputLemmas.{Appends-nil}

-- what ends in one way ends in each that follows from it
pub end_more : (P Q : Status → List ℕ → Type 0) → ((status : Status) (text : List ℕ) → P status text → Q status text) → (status : Status) (was is : Option (List ℕ)) (failed : Type 0) → IsWorkEnd P status was is failed → IsWorkEnd Q status was is failed
end_more P Q more status was is failed e = record { meant = e.meant; text = e.text; work = more e.meant e.text e.work; printed = e.printed }

-- nothing is printed where memory runs out
pub gave_up : (Work : Status → List ℕ → Type 0) (was : Option (List ℕ)) (failed : Type 0) → Work statuses.NoMemory [] → IsWorkEnd Work statuses.NoMemory was was failed
gave_up Work was failed w = record { meant = statuses.NoMemory; text = []; work = w; printed = inl (refl, Appends-nil was) }

-- ---- init

pub init_gave_up : (old : Holding) (leaves : LeavesByName) (before now : ℕ) (families : List FamilyHead) → IsInitWork old old (crashes leaves leaves) before now families statuses.NoMemory []
init_gave_up old leaves before now families = inr (record { stop = NoMemory; cause = tt; status_is = refl; text_is = refl; left = inl (record { stands = refl; no_more = λ n c left. left }) })

-- a folder that is refused was no folder without a store
refused_unmade : (P : Folder → Type 0) (old new : Holding) (crash : Crashes) (Q : Folder → Type 0) → ((folder : Folder) → Q folder → ¬ Means folder no_store) → TellsFolder old Q → StaysAsItWas old new crash → IsUnmadeAt P old new crash.now
refused_unmade P None new crash Q none told stays = tt
refused_unmade P (Some None) new crash Q none told stays = absurd told
refused_unmade P (Some (Some folder)) new crash Q none told stays = record { none = λ means. absurd (none folder told means); some = λ other. stays }

-- what is left for a stop is left where memory ran out before it was told
wanted_init : (old new : Holding) (crash : Crashes) (before now : ℕ) (families : List FamilyHead) (stop : Stop) → TakesMemory stop → IsInitStop old before now stop → IsInitLeft old new crash families stop → IsInitLeft old new crash families NoMemory
wanted_init old new crash before now families (BadManifest at) takes cause left =
    inr (refused_unmade (λ folder. Means folder no_store) old new crash (λ folder. Means folder (bad_at at)) (λ folder bad none. not_bad folder at none bad) cause left)
wanted_init old new crash before now families NoMemory takes cause left = left
wanted_init old new crash before now families StoreExists takes cause left = absurd takes
wanted_init old new crash before now families DiskFault takes cause left = absurd takes
wanted_init old new crash before now families stop takes cause left = absurd cause

pub init_said : (old new : Holding) (crash : Crashes) (before now : ℕ) (families : List FamilyHead) (stop : Stop) → IsInitStop old before now stop → IsInitLeft old new crash families stop
    → (status : Status) (text : List ℕ) → IsMessage [] stop status text → IsInitWork old new crash before now families status text
init_said old new crash before now families stop cause left status text (inl said) = inr (record { stop = stop; cause = cause; status_is = said.0; text_is = said.1; left = left })
init_said old new crash before now families stop cause left status text (inr want) =
    inr (record { stop = NoMemory; cause = tt; status_is = want.1; text_is = want.2; left = wanted_init old new crash before now families stop want.0 cause left })

-- ---- run

wanted_left : (IsAsked : List Command → Type 0) (old new : Holding) (crash : Crashes) (stop : Stop) → TakesMemory stop → IsRunLeft IsAsked old new crash stop → IsRunLeft IsAsked old new crash NoMemory
wanted_left IsAsked old new crash (BadManifest at) takes h = inr (inl h)
wanted_left IsAsked old new crash (BadLog n at) takes h = inr (inl h)
wanted_left IsAsked old new crash NoMemory takes h = h
wanted_left IsAsked old new crash NoFile takes h = inl h
wanted_left IsAsked old new crash TooLong takes h = inl h
wanted_left IsAsked old new crash (TooMany n) takes h = inl h
wanted_left IsAsked old new crash (BadLine n) takes h = inl h
wanted_left IsAsked old new crash stop takes h = absurd takes

pub run_said : (standing : Standing) (old new : Holding) (crash : Crashes) (before now : ℕ) (file : List ℕ) (stop : Stop) → IsStoppedFrom standing old new crash before now stop
    → (status : Status) (text : List ℕ) → IsMessage file stop status text → IsRunWork standing old new crash before now file status text
run_said standing old new crash before now file stop s status text (inl said) = inr (record { stop = stop; cause = s.cause; status_is = said.0; text_is = said.1; left = s.left })
run_said standing old new crash before now file stop s status text (inr want) = inr (record { stop = NoMemory; cause = inl tt; status_is = want.1; text_is = want.2; left = wanted_left (Spells standing) old new crash stop want.0 s.left })

-- the disk failed where a line tells it
fault_rose : (before now : ℕ) (m : State) (lines : List Line) (end : Point) (status : Status) → All IsBuiltLine lines → m.halted ≡ None → Leads (start m) lines end → AreSoundUnless before now lines → status ≡ status_of_lines lines → status ≡ statuses.DiskFault → Rose before now
fault_rose before now m lines end status built works legal (inr rose) e fault = rose
fault_rose before now m lines end status built works legal (inl sound) e fault =
    let none : list_any (λ l. tells_fault l.reply) lines ≡ false = none_told (start m) end lines refl built works legal sound in
    absurd (cc (rw none at (sym e ∙ fault)))

text_is : (r : Ready) (header : List ℕ) (lines : List Line) → r.buffer.items ≡ header → r.lines.items ≡ lines → text_of r ≡ header ++ print_lines lines
text_is r header lines h l = ap (λ (t : List ℕ). t ++ print_lines r.lines.items) h ∙ ap (λ (ls : List Line). header ++ print_lines ls) l

pub run_told : (standing : Standing) (old new : Holding) (was leaves : LeavesByName) (before now : ℕ) (file : List ℕ) (r : Ready) (status : Status) → IsRunFrom standing old new leaves before now r → status ≡ status_of_lines r.lines.items
    → IsRunWork standing old new (crashes was leaves) before now file status (text_of r)
run_told standing old new was leaves before now file r status from e =
    let run = from.run in
    let lines_are : status ≡ status_of_lines run.lines = e ∙ ap status_of_lines run.waits.lines_are in
    inl (record {
      bytes = from.read.bytes;
      stands = from.read.stands;
      m = run.m;
      works = run.works;
      lines = run.lines;
      end = run.end;
      transcript = record {
        commands = from.commands;
        spelled = from.read.spelled;
        only = from.read.only;
        history = run.history;
        printed = text_is r (print_header run.m.last.0 (heads_of run.m)) run.lines run.waits.header_is run.waits.lines_are;
      };
      status_is = lines_are;
      cause = fault_rose before now run.m run.lines run.end status (subst (λ (ls : List Line). All IsBuiltLine ls) run.waits.lines_are run.waits.built) run.works run.history.legal run.sound lines_are;
      left = run.left;
    })

-- ---- other paths

pub stays_elsewhere : (words : List (List ℕ)) (folder file : List ℕ) (old new : List ℕ → Standing) → IsRunCommand words folder file → StaysElsewhere file folder old new → (path : List ℕ) → ¬ IsFileOf words path → ¬ IsFolderOf words path → new path ≡ old path
stays_elsewhere words folder file old new r stays path no_file no_folder =
    stays path (λ e. no_file (inr (folder, subst (λ (p : List ℕ). IsRunCommand words folder p) (sym e) r))) (λ e. no_folder (inr (file, subst (λ (p : List ℕ). IsRunCommand words p file) (sym e) r)))
