-- What the engine holds behind an act that makes an edit.
use Rattle.std.proofs.Common.{◌≡◌, ℕ, ◌+◌, ◌≤◌, true, false, List, [], Option, Some, None, refl, sym, ap, ◌∙◌, subst, arith, inl, inr}
use Rattle.std.specs.Prelude.{Contains, IsTrue, if◌then◌else◌}
use Rattle.std.proofs.lemmas.Bool.{false≢true}
use Rattle.ts_key.specs.declared.numbers.Family.{Family}
use Rattle.ts_key.specs.declared.numbers.Seq.{Seq}
use Rattle.wal.specs.declared.numbered.Numbered.{Numbered}
use Rattle.udt_model.specs.declared.reply.Reply.{Reply}
use Rattle.udt_model.specs.declared.reply.Reply.TheVariants.{Fault, OkAt}
use Rattle.udt_model.specs.State.{State}
use Rattle.udt_model.specs.Acts.{Act}
use Rattle.udt_model.specs.Acts.Act.{compact_end, flush_end, flush_start, raise, sync_all, write}
use Rattle.udt_model.specs.Steps.{IsReplyTo, after}
use Rattle.udt_model.specs.Crashes.{Course, Failing, IsChanged, IsFailed, IsOutcome, IsOutcomeUnder, course_after, cut_at, ends_after, failing_after, is_change, syncs}
use Rattle.manifest_edit.specs.declared.edit.Edit.{Edit}
use Rattle.manifest_fold.specs.declared.limits.TheConstants.{FILE_NUMBER_LIMIT}
use Rattle.floor_laws.specs.Sound.{IsSoundCourse}
use Rattle.floor_laws.proofs.Courses.{course_sound}
use Rattle.floor_laws.proofs.Told.{sound_after}
use Rattle.engine_laws.specs.Standing.{Says}
use Rattle.engine_laws.specs.Engine.{AreSameKept, HoldsState, MayEdit, with_batches, with_edit}
use Rattle.engine_laws.specs.Installs.{roll_edit}
use Rattle.engine_laws.proofs.Resting.{synced_low}
use Rattle.engine_laws.proofs.Syncing.{sync_unasked}
use Rattle.engine_laws.proofs.Editing.{edit_course, edit_holds_on, newest_not}
use Rattle.engine_laws.proofs.Moving.{other_log}
use Rattle.engine_laws.proofs.Installing.{roll_may}

pub act_holds : (m : State) (c : Course) (s : Says) (waiting : List Numbered) (number : ℕ) (act : Act) (reply : Reply) (edit : Edit)
    → HoldsState m c s waiting → IsReplyTo m act reply → IsTrue (syncs act reply) → ends_after c.ends act reply ≡ c.ends → MayEdit m (with_batches s waiting) edit (after m number act reply)
    → HoldsState (after m number act reply) (course_after m number c act reply) (with_edit (with_batches s waiting) edit) []
act_holds m c s waiting number act reply edit h r is_sync ends may =
    let next = after m number act reply in
    let d = course_after m number c act reply in
    let k = sync_unasked m c s waiting h in
    let low : d.synced ≤ m.last.0 =
    let e : d.synced ≡ next.last.0 = subst (λ b. (if b then next.last.0 else c.synced) ≡ next.last.0) (sym is_sync) refl in
    let l : next.last.0 ≡ m.last.0 = ap (λ (z : Seq). z.0) may.leads.same_last in
    omega (arith, e, l) in
    edit_holds_on m c (with_batches s waiting) edit next k may d (edit_course m c (with_batches s waiting) edit next k may d ends low (course_sound m c number act reply h.sound h.course.sound r))

module _ (m : State) (c : Course) (s : Says) (waiting : List Numbered) (number : ℕ) (family : Family) (log : ℕ)
    (h : HoldsState m c s waiting) (r : IsReplyTo m (flush_start family) (OkAt m.last.0)) (new : s.fold.next_file ≤ log) (most : log + 1 ≤ FILE_NUMBER_LIMIT) (empty : s.logs log ≡ []) where
  abbrev sealed : State
  sealed = after m number (flush_start family) (OkAt m.last.0)

  seal_may : MayEdit m (with_batches s waiting) (roll_edit m.last log) sealed
  seal_may =
      let none : (with_batches s waiting).logs log ≡ [] = other_log s waiting log (newest_not s.fold log h.well new) ∙ empty in
      let same : AreSameKept m sealed = record { families = refl; versions = refl; last = refl } in
      roll_may m sealed c (with_batches s waiting) log (sync_unasked m c s waiting h) new most none same (sound_after m number (flush_start family) (OkAt m.last.0) h.sound r)

  seal_on : (d : Course) → d.ends ≡ c.ends → d.synced ≤ m.last.0 → IsSoundCourse sealed d → HoldsState sealed d (with_edit (with_batches s waiting) (roll_edit m.last log)) []
  seal_on d ends low sound =
      let s1 = with_batches s waiting in
      let k = sync_unasked m c s waiting h in
      edit_holds_on m c s1 (roll_edit m.last log) sealed k seal_may d (edit_course m c s1 (roll_edit m.last log) sealed k seal_may d ends low sound)

  pub seal_holds : HoldsState sealed (course_after m number c (flush_start family) (OkAt m.last.0)) (with_edit (with_batches s waiting) (roll_edit m.last log)) []
  seal_holds = seal_on (course_after m number c (flush_start family) (OkAt m.last.0)) refl (synced_low m c s waiting h) (course_sound m c number (flush_start family) (OkAt m.last.0) h.sound h.course.sound r)

  pub seal_synced : HoldsState sealed (record c { synced = m.last.0 }) (with_edit (with_batches s waiting) (roll_edit m.last log)) []
  seal_synced = seal_on (record c { synced = m.last.0 }) refl (omega arith) (record { synced = λ i f q. (h.sound.families i f q).tables.through; failing = h.course.sound.failing })

-- ---- the disk fails

fault_cut : (m : State) (number : ℕ) (act : Act) (end : ℕ) → cut_at (after m number act Fault) end ≡ cut_at m end
fault_cut m number (flush_end i start) end = refl
fault_cut m number (compact_end i start) end = refl
fault_cut m number act end = refl

fault_ends : (ends : List ℕ) (act : Act) → ends_after ends act Fault ≡ ends
fault_ends ends (write ops sync) = refl
fault_ends ends act = refl

fault_syncs : (act : Act) → syncs act Fault ≡ false
fault_syncs (write ops sync) = refl
fault_syncs (raise i floor) = refl
fault_syncs sync_all = refl
fault_syncs (flush_end i start) = refl
fault_syncs (compact_end i start) = refl
fault_syncs act = refl

not_change : (act : Act) (reply : Reply) → is_change act reply ≡ true → (m : State) (number : ℕ) (left : State) → IsChanged m number act left → IsFailed (failing_after m number None act Fault) left
not_change (write ops sync) reply e m number left h = h
not_change (raise i floor) reply e m number left h = h
not_change (flush_end i start) reply e m number left h = h
not_change (compact_end i start) reply e m number left h = h
not_change act reply e m number left h = absurd (false≢true e)

none_failed : (o : Option Failing) (left : State) → o ≡ None → IsFailed o left → ⊥
none_failed None left e h = h
none_failed (Some f) left e h = absurd (cc)

pub fault_keeps : (m : State) (c : Course) (number : ℕ) (act : Act) (left : State) → c.failing ≡ None → IsOutcomeUnder m c number act left → IsOutcome (after m number act Fault) (course_after m number c act Fault) left
fault_keeps m c number act left none (inl (inl cut)) =
    inl (
      cut.0,
      subst (λ z. Contains z cut.0) (sym (fault_ends c.ends act)) cut.1,
      subst (λ b. (if b then (after m number act Fault).last.0 else c.synced) ≤ cut.0) (sym (fault_syncs act)) cut.2,
      cut.3 ∙ sym (fault_cut m number act cut.0),
    )
fault_keeps m c number act left none (inl (inr failed)) = absurd (none_failed c.failing left none failed)
fault_keeps m c number act left none (inr h) = inr (subst (λ z. IsFailed (failing_after m number z act Fault) left) (sym none) (not_change act h.0 h.2 m number left h))
