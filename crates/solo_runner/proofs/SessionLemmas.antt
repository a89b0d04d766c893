-- Runs over a store with its log, line by line.
use Rattle.std.proofs.Common.{◌+◌, ◌≡◌, ℕ, Bool, true, false, List, [], ◌∷◌, ◌++◌, refl, sym, subst, ◌∙◌, arith}
use Rattle.udt_disk.specs.Causes.{Rose}
use Rattle.udt_disk.specs.declared.file.DiskFile.{Ghosts}
use Rattle.udt_model.specs.declared.line.Line.{Line}
use Rattle.udt_model.specs.declared.line.Mark.{Mark}
use Rattle.udt_model.specs.Lines.{says_fault}
use Rattle.udt_model.specs.Histories.{start}
use Rattle.udt_model.specs.Crashes.{Course, course_start, course_behind}
use Rattle.solo_runner.specs.Named.{course_after_event}
use Rattle.client_lang.specs.Print.{IsBuilt}
use Rattle.head_manifest.specs.declared.fold.Folded.{Folded}
use Rattle.client_lang.specs.declared.command.Command.{Command}
use Rattle.solo_runner.specs.LoggedStores.{IsInStep, IsStep, IsStepCause, store_state, wal_of}
use Rattle.solo_runner.specs.Sessions.{GoesWith, KeepsCourse, log_faults}
use Rattle.solo_runner.specs.Solo.{HasRun}
use Rattle.solo_runner.specs.declared.logged.LoggedStore.{LoggedStore}
use Rattle.solo_runner.proofs.SoloLemmas.{keeps_more, sound_more, sound_none}

-- the count rose where the reply says so, and didn't fall
cause_of : (before now : ℕ) (says : Bool) → IsStepCause before now says → says ≡ true → Rose before now
cause_of before now true cause e = cause
cause_of before now false cause e = absurd (cc e)

module _ {F : Type 0} (g : Ghosts F) where
  pub goes_nowhere : (s : LoggedStore F g) (lines : List Line) → lines ≡ [] → IsInStep g (wal_of s) (store_state s) → GoesWith g s s lines
  goes_nowhere s lines e ready = record {
    in_step = ready;
    kept = λ fold k. subst (λ (ls : List Line). KeepsCourse g s fold (course_behind (start (store_state s)) (course_start (store_state s)) ls)) (sym e) k;
    later = omega arith;
    sound = sound_none (log_faults g s) lines e;
    same = record { name = refl; told = refl; model = refl };
  }

  -- one event more
  kept_on : (mid new : LoggedStore F g) (number : ℕ) (line : Line) → IsStep g (wal_of mid) (wal_of new) (store_state mid) (store_state new) number line.event line.reply
      → (fold : Folded) (c : Course) → KeepsCourse g mid fold c → KeepsCourse g new fold (course_after_event (store_state mid) number c line.event line.reply)
  kept_on mid new number line s fold c k = (k.0, k.1 ∙ sym s.sizes, s.keeps_on.keeps fold c k.0 k.1 k.2)

  pub one_event_more : (old mid new : LoggedStore F g) (commands : List Command) (lines : List Line) (last : Mark) (number : ℕ) (line : Line) → IsBuilt line.event → number ≡ last.number + 1 → HasRun (store_state old) commands lines (store_state mid) last → GoesWith g old mid lines
      → IsStep g (wal_of mid) (wal_of new) (store_state mid) (store_state new) number line.event line.reply → GoesWith g old new (lines ++ line ∷ [])
  one_event_more old mid new commands lines last number line built is r w s = record {
    in_step = s.in_step;
    kept = λ fold k. keeps_more (KeepsCourse g new fold) (store_state old) (store_state mid) commands last (course_start (store_state old)) lines line number built is r (kept_on mid new number line s fold (course_behind (start (store_state old)) (course_start (store_state old)) lines) (w.kept fold k));
    later = omega (arith, w.later, s.later);
    sound = sound_more (log_faults g old) (log_faults g mid) (log_faults g new) lines line w.later s.later w.sound (cause_of (log_faults g mid) (log_faults g new) (says_fault line.reply) s.cause);
    same = record { name = s.same.name ∙ w.same.name; told = s.same.told ∙ w.same.told; model = s.same.model ∙ w.same.model };
  }
