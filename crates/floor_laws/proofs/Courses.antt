-- The course of a history stays sound.
use Rattle.std.proofs.Common.{◌≡◌, ℕ, ◌≤◌, Bool, true, false, Option, Some, None, refl, sym, ap, subst, inl, inr}
use Rattle.std.specs.Prelude.{if◌then◌else◌, slice_get}
use Rattle.std.proofs.lemmas.Bool.{cases_Bool, false≢true}
use Rattle.ts_key.specs.declared.numbers.Family.{Family}
use Rattle.udt_model.specs.declared.reply.Reply.{Reply}
use Rattle.udt_model.specs.declared.reply.Reply.TheVariants.{Done, OkAt, Table, Inputs, Kept, DroppedFault, DroppedMemory, DroppedFiles, Halted, Fault}
use Rattle.udt_model.specs.State.{State, FamilyState, family_at}
use Rattle.udt_model.specs.Acts.{Act}
use Rattle.udt_model.specs.Acts.Act.{write, raise, flush_end, compact_start, compact_end}
use Rattle.udt_model.specs.Steps.{IsReplyTo, after, without_job}
use Rattle.udt_model.specs.Crashes.{Course, Failing, IsOutcomeUnder, course_after, course_start, failing_after, syncs}
use Rattle.floor_laws.specs.Sound.{IsSoundState, IsSoundCourse}
use Rattle.floor_laws.proofs.States.{some_same}
use Rattle.floor_laws.proofs.Reopening.{sound_under}
use Rattle.floor_laws.proofs.Told.{sound_after}

without_families : (m : State) (act : Act) → (without_job m act).families ≡ m.families
without_families m (flush_end i start) = refl
without_families m (compact_end i start) = refl
without_families m act = refl

-- what syncs nothing leaves the families as they are
families_same : (m : State) (number : ℕ) (act : Act) (reply : Reply) → syncs act reply ≡ false → (after m number act reply).families ≡ m.families
families_same m number act Fault h = without_families m act
families_same m number act (Halted since) h = without_families m act
families_same m number act DroppedFault h = without_families m act
families_same m number act DroppedMemory h = without_families m act
families_same m number act (DroppedFiles next) h = without_families m act
families_same m number (write ops sync) (OkAt last) h = refl
families_same m number (raise i floor) Done h = absurd (false≢true (sym h))
families_same m number (flush_end i start) (Table table kept floor) h = absurd (false≢true (sym h))
families_same m number (compact_start i pick) (Inputs inputs level) h = refl
families_same m number (compact_end i start) (Kept kept pieces) h = absurd (false≢true (sym h))
families_same m number act reply h = refl

failing_here : (m : State) (number : ℕ) (act : Act) (f : Failing) → IsSoundState m → Some (record { state = m; number = number; act = act }) ≡ Some f → IsSoundState f.state
failing_here m number act f h e = subst (λ (z : Failing). IsSoundState z.state) (some_same (record { state = m; number = number; act = act }) f e) h

failing_sound : (m : State) (number : ℕ) (o : Option Failing) (act : Act) (reply : Reply) → IsSoundState m → ((f : Failing) → o ≡ Some f → IsSoundState f.state) → (f : Failing) → failing_after m number o act reply ≡ Some f → IsSoundState f.state
failing_sound m number o (write ops sync) Fault h k f e = failing_here m number (write ops sync) f h e
failing_sound m number o (raise i floor) Fault h k f e = failing_here m number (raise i floor) f h e
failing_sound m number o (flush_end i start) Fault h k f e = failing_here m number (flush_end i start) f h e
failing_sound m number o (compact_end i start) Fault h k f e = failing_here m number (compact_end i start) f h e
failing_sound m number o act reply h k f e = k f e

pub course_sound : (m : State) (c : Course) (number : ℕ) (act : Act) (reply : Reply) → IsSoundState m → IsSoundCourse m c → IsReplyTo m act reply → IsSoundCourse (after m number act reply) (course_after m number c act reply)
course_sound m c number act reply h k r = record {
  synced = λ i f at. elim (cases_Bool (syncs act reply)) [
    | inl y ↦ subst (λ (b : Bool). f.through.0 ≤ (if b then (after m number act reply).last.0 else c.synced)) (sym y) ((sound_after m number act reply h r).families i f at).tables.through
    | inr y ↦ subst (λ (b : Bool). f.through.0 ≤ (if b then (after m number act reply).last.0 else c.synced)) (sym y) (k.synced i f (subst (λ fs. slice_get fs i.0 ≡ Some f) (families_same m number act reply y) at))
  ];
  failing = failing_sound m number c.failing act reply h k.failing;
}

pub course_begins : (m : State) → IsSoundState m → IsSoundCourse m (course_start m)
course_begins m h = record { synced = λ i f at. (h.families i f at).tables.through; failing = λ f e. absurd (cc) }

pub sound_crash : (m : State) (c : Course) (number : ℕ) (act : Act) (left : State) → IsSoundState m → IsSoundCourse m c → IsOutcomeUnder m c number act left → IsSoundState left
sound_crash m c number act left h k o = sound_under m c number act left h k.synced k.failing o
