-- A session over the parts of a store.
use Rattle.std.proofs.Common.{◌⊎◌, ◌≡◌, inl, inr, ℕ, List, [], refl, sym, ap, ◌∙◌, subst, arith}
use Rattle.std.specs.Prelude.{None, IfOk, Result, Ok, Err}
use Rattle.udt_disk.specs.Causes.{plus_faults, Rose}
use Rattle.udt_disk.specs.declared.file.DiskFile as file
use Rattle.udt_disk.specs.declared.disk.Disk as disk
use Rattle.udt_model.specs.declared.line.Line.{Line}
use Rattle.udt_model.specs.State.{State}
use Rattle.udt_model.specs.Histories.{Point, start}
use Rattle.wal.specs.declared.wal.Wal.{Wal}
use Rattle.wal.specs.Wals.{wal_file}
use Rattle.head_manifest.specs.Manifest.{manifest_file}
use Rattle.client_lang.specs.declared.command.Command.{Command}
use Rattle.client_lang.specs.Print.{print_header}
use Rattle.solo_runner.specs.Expand.{IsRunHistory}
use Rattle.solo_runner.specs.LoggedStores.{store_state, wal_of}
use Rattle.client_runner.specs.Runs.{HasRunOver, HasRunParts, Waits, state_of_parts}
use Rattle.solo_runner.specs.Sessions.{HasSession, log_faults}
use Rattle.solo_runner.specs.Solo.{AreSoundUnless}
use Rattle.client_runner.specs.declared.output.Ready.{Ready}
use Rattle.plain_recovery.specs.declared.opening.Parts.{Parts}
use Rattle.solo_runner.specs.declared.logged.LoggedStore.{LoggedStore}
use Rattle.solo_runner.proofs.SoloLemmas.{sound_none}
use Rattle.client_runner.proofs.SyncLemmas.{session_settles}
use Rattle.client_runner.proofs.Closing.{IsClosed, closed_stands, closed_leaf}
use Rattle.client_runner.proofs.MadeLines.{HasMade, parts_say, made_name, crash_left, whole_left, whole_crash}

-- a fault of one file is one of the disk that takes it back
rose_back : (before log manifest now : ℕ) → now ≡ plus_faults (plus_faults before log) manifest → Rose 0 log → Rose before now
rose_back before log manifest now is rose = grind (arith, is, rose)

pub sound_back : (before first log manifest now : ℕ) (lines : List Line) → now ≡ plus_faults (plus_faults before log) manifest → first ≡ 0 → AreSoundUnless first log lines → AreSoundUnless before now lines
sound_back before first log manifest now lines is zero (inl sound) = inl sound
sound_back before first log manifest now lines is zero (inr rose) = inr (rose_back before log manifest now is (subst (λ (n : ℕ). Rose n log) zero rose))

waits_with : {E : Type 0} (result : Result Ready E) (A : Type 0) (lines : List Line) (header text : List ℕ) → A → header ≡ text → IfOk result (Waits header lines) → IfOk result (λ r. A × Waits text lines r)
waits_with (Ok r) A lines header text a is waits = (a, subst (λ (t : List ℕ). Waits t lines r) is waits)
waits_with (Err e) A lines header text a is none = tt

module _ {D F : Type 0} (d : disk.Ghosts D F) (f : file.Ghosts F) where
  -- no line was made
  made_nothing : (first : LoggedStore F f) (m : State) → store_state first ≡ m → m.halted ≡ None → HasMade d f first first m [] (start m)
  made_nothing first m is works = record {
    legal = refl;
    state_is = sym is;
    settled = λ done. (works, refl);
    first_is = is;
    kept = λ fold k. k;
    sound = sound_none (log_faults f first) [] refl;
    same = record { name = refl; told = refl; model = refl };
  }

  -- the lines of a session
  made_session : (first now : LoggedStore F f) (m : State) (commands : List Command) (lines : List Line) → (s : HasSession f first now commands lines) → store_state first ≡ m → IsRunHistory m commands lines s.run.end
      → HasMade d f first now m lines s.run.end
  made_session first now m commands lines s is h = record {
    legal = h.legal;
    state_is = s.run.state_is;
    settled = session_settles m commands lines s.run.end h;
    first_is = is;
    kept = s.log.kept;
    sound = s.log.sound;
    same = s.log.same;
  }

  -- the lines were made, and the files given back
  has_parts : {E : Type 0} (parts : Parts D F f) (new : D) (first now : LoggedStore F f) (log manifest : F) (commands : List Command) (lines : List Line) (end : Point) (result : Result Ready E) → wal_of first ≡ parts.wal
      → f.faults (wal_file parts.wal) ≡ 0 → HasMade d f first now (state_of_parts parts) lines end → log ≡ wal_file (wal_of now) → manifest ≡ manifest_file parts.manifest → IsClosed d f parts.disk new log manifest
      → (lines ≡ []) ⊎ IsRunHistory (state_of_parts parts) commands lines end → IfOk result (λ r. IsRunHistory (state_of_parts parts) commands lines end × Waits (print_header parts.last.0 parts.heads.items) lines r) → HasRunParts d f parts new commands result
  has_parts parts new first now log manifest commands lines end result wal fresh made log_is manifest_is closed all_or_none ready =
      let zero : log_faults f first ≡ 0 = ap (λ (w : Wal F f). f.faults (wal_file w)) wal ∙ fresh in
      let back : IsClosed d f parts.disk new (wal_file (wal_of now)) (manifest_file parts.manifest) = subst (IsClosed d f parts.disk new (wal_file (wal_of now))) manifest_is (subst (λ (x : F). IsClosed d f parts.disk new x manifest) log_is closed) in
      record {
        lines = lines;
        end = end;
        legal = made.legal;
        all_or_none = all_or_none;
        ready = ready;
        sound = sound_back (d.faults parts.disk) (log_faults f first) (log_faults f now) (f.faults (manifest_file parts.manifest)) (d.faults new) lines back.faults zero made.sound;
        later = closed.later;
        kept = λ opened told clean o reads told_disk told_wal told_manifest. record {
          opened = record { fold = o.fold; means = o.means; number = o.number; live = o.live; batches = o.batches; held = o.held; state_is = parts_say d f opened parts o };
          left = record {
            crash = crash_left d f opened new parts first now lines end clean o reads wal made back;
            whole = whole_left d f opened new parts first now lines end told clean o reads told_disk told_wal told_manifest wal made back;
            whole_crash = whole_crash d f opened new parts first now lines end clean o reads wal made back;
          };
          others = closed_stands d f opened new parts (wal_file (wal_of now)) told o reads told_disk told_manifest (made_name d f opened parts first now o wal made.same) back;
          others_crash = closed_leaf d f opened new parts (wal_file (wal_of now)) clean o reads (made_name d f opened parts first now o wal made.same) back;
        };
      }

  -- where there was memory for the header, the lines of a session were made
  pub parts_over : {E : Type 0} (parts : Parts D F f) (new : D) (first now : LoggedStore F f) (log manifest : F) (commands : List Command) (header : List ℕ) (result : Result Ready E) → wal_of first ≡ parts.wal
      → store_state first ≡ state_of_parts parts → f.faults (wal_file parts.wal) ≡ 0 → log ≡ wal_file (wal_of now) → manifest ≡ manifest_file parts.manifest → IsClosed d f parts.disk new log manifest
      → header ≡ print_header parts.last.0 parts.heads.items → HasRunOver f first now commands header result → HasRunParts d f parts new commands result
  parts_over parts new first now log manifest commands header result wal is fresh log_is manifest_is closed header_is over =
      let s = over.session in
      let m : State = state_of_parts parts in
      let h : IsRunHistory m commands over.lines s.run.end = subst (λ (x : State). IsRunHistory x commands over.lines s.run.end) is s.run.history in
      has_parts parts new first now log manifest commands over.lines s.run.end result wal fresh (made_session first now m commands over.lines s is h) log_is manifest_is closed (inr h)
      (waits_with result (IsRunHistory m commands over.lines s.run.end) over.lines header (print_header parts.last.0 parts.heads.items) h header_is over.ready)

  -- where there was none, no line was made
  pub parts_unmade : {E : Type 0} (parts : Parts D F f) (new : D) (first : LoggedStore F f) (log manifest : F) (commands : List Command) (e : E) → wal_of first ≡ parts.wal
      → store_state first ≡ state_of_parts parts → f.faults (wal_file parts.wal) ≡ 0 → log ≡ wal_file (wal_of first) → manifest ≡ manifest_file parts.manifest → IsClosed d f parts.disk new log manifest
      → HasRunParts d f parts new commands (Err e)
  parts_unmade parts new first log manifest commands e wal is fresh log_is manifest_is closed =
      let m : State = state_of_parts parts in
      has_parts parts new first first log manifest commands [] (start m) (Err e) wal fresh (made_nothing first m is refl) log_is manifest_is closed (inl refl) tt
