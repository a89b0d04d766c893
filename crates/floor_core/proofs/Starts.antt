-- A running job stays what its start made it.
use Rattle.std.proofs.Common.{◌≡◌, ℕ, ◌+◌, Bool, true, false, List, [], ◌∷◌, Option, Some, None, refl, sym, ap, subst, ◌∙◌, inl, inr}
use Rattle.std.specs.Prelude.{All, is_none, option_map, if◌then◌else◌}
use Rattle.std.proofs.lemmas.Bool.{cases_Bool, and_parts}
use Rattle.ts_key.specs.declared.numbers.Family.{Family}
use Rattle.udt_model.specs.declared.reply.Piece.{Piece}
use Rattle.udt_model.specs.declared.reply.Reply.{Reply}
use Rattle.udt_model.specs.declared.reply.Reply.TheVariants.{Busy}
use Rattle.udt_model.specs.Collecting.{collect, collect_all}
use Rattle.udt_model.specs.State.{State, Flush, Compaction, changed_at, floor_at, form_at, seqs_of}
use Rattle.udt_model.specs.Refusals.{busy, halt, unknown_family, ◌or_else◌}
use Rattle.udt_model.specs.Jobs.{deeper_of, flush_floor, flush_taken, in_form, inputs_hold, tables_from}
use Rattle.udt_model.specs.Steps.{compacted, flushed, with_compaction}
use Rattle.floor_laws.proofs.Members.{In, All-In}
use Rattle.floor_core.specs.declared.event.CoreEvent.{CoreEvent}
use Rattle.floor_core.specs.declared.event.CoreEvent.TheVariants.{FlushStart, FlushEnd, FlushDrop, CompactStart, CompactEnd, CompactDrop}
use Rattle.floor_core.specs.Cores.{CoreState, with_live_numbers}
use Rattle.floor_core.specs.Machine.{behind_event, flush_ended, is_accepted, effect}
use Rattle.floor_core.specs.Runs.{behind_all, ends_compaction, ends_flush}
use Rattle.floor_core.proofs.Numbering.{accepted_has}

-- ---- refused while it runs

some_last : (a b : Option Reply) (r : Reply) → is_none (a or_else b or_else Some r) ≡ true → ⊥
some_last None None r e = cc
some_last None (Some x) r e = cc
some_last (Some x) b r e = cc

flush_busy : (m : State) (i : Family) (o : Option Flush) (job : Flush) → o ≡ Some job → is_none (unknown_family m i or_else halt m or_else busy (option_map (λ (j : Flush). j.start) o)) ≡ true → ⊥
flush_busy m i o job e t = some_last (unknown_family m i) (halt m) (Busy job.start) (subst (λ z. is_none (unknown_family m i or_else halt m or_else busy (option_map (λ (j : Flush). j.start) z)) ≡ true) e t)

compaction_busy : (m : State) (i : Family) (o : Option Compaction) (job : Compaction) → o ≡ Some job → is_none (unknown_family m i or_else halt m or_else busy (option_map (λ (j : Compaction). j.start) o)) ≡ true → ⊥
compaction_busy m i o job e t = some_last (unknown_family m i) (halt m) (Busy job.start) (subst (λ z. is_none (unknown_family m i or_else halt m or_else busy (option_map (λ (j : Compaction). j.start) z)) ≡ true) e t)

-- ---- a flush

flush_beside : (m : State) (o : Option Compaction) (pieces : List Piece) → (with_compaction m o pieces).flush ≡ m.flush
flush_beside m None pieces = refl
flush_beside m (Some job) pieces = refl

flush_effect : (c : CoreState) (number : ℕ) (e : CoreEvent) (job : Flush) → is_accepted c e ≡ true → ends_flush e ≡ false → c.store.flush ≡ Some job → (effect c.store number e).flush ≡ Some job
flush_effect c number (FlushStart i) job y n h = absurd (flush_busy c.store i c.store.flush job h (and_parts _ _ y).0)
flush_effect c number (FlushEnd table) job y n h = absurd (cc)
flush_effect c number FlushDrop job y n h = absurd (cc)
flush_effect c number (CompactEnd pieces) job y n h = flush_beside c.store c.store.compaction pieces ∙ h
flush_effect c number e job y n h = h

flush_kept : (c : CoreState) (e : CoreEvent) (job : Flush) → ends_flush e ≡ false → c.store.flush ≡ Some job → (behind_event c e).store.flush ≡ Some job
flush_kept c e job n h =
    let P : Bool → Type 0 = λ b. (if b then with_live_numbers (effect c.store (c.events + 1) e) else c.store).flush ≡ Some job in
    elim (cases_Bool (is_accepted c e)) [
      | inl y ↦ subst P (sym y) (flush_effect c (c.events + 1) e job y n h)
      | inr y ↦ subst P (sym y) h
    ]

flush_stays : (c : CoreState) (es : List CoreEvent) (job : Flush) → ((e : CoreEvent) → In e es → ends_flush e ≡ false) → c.store.flush ≡ Some job → (behind_all c es).store.flush ≡ Some job
flush_stays c [] job n h = h
flush_stays c (e ∷ es) job n h = flush_stays (behind_event c e) es job (λ x i. n x (inr i)) (flush_kept c e job (n e (inl refl)) h)

abbrev flush_made : CoreState → Family → Flush
flush_made c i = record { start = c.events + 1; family = i; through = c.store.last; floor = floor_at c.store i; seqs = seqs_of c.store }

pub flushes_end : (c : CoreState) (i : Family) (es : List CoreEvent) → is_accepted c (FlushStart i) ≡ true → All (λ (e : CoreEvent). ends_flush e ≡ false) es
    → (behind_all (behind_event c (FlushStart i)) es).store.flush ≡ Some (flush_made c i)
flushes_end c i es y n =
    let P : Bool → Type 0 = λ b. (if b then with_live_numbers (effect c.store (c.events + 1) (FlushStart i)) else c.store).flush ≡ Some (flush_made c i) in
    flush_stays (behind_event c (FlushStart i)) es (flush_made c i) (λ e j. All-In (λ (x : CoreEvent). ends_flush x ≡ false) es e n j) (subst P (sym y) refl)

-- ---- a compaction

compaction_beside : (m : State) (o : Option Flush) (table : ℕ) → (flush_ended m o table).compaction ≡ m.compaction
compaction_beside m None table = refl
compaction_beside m (Some job) table = refl

compaction_effect : (c : CoreState) (number : ℕ) (e : CoreEvent) (job : Compaction) → is_accepted c e ≡ true → ends_compaction e ≡ false → c.store.compaction ≡ Some job → (effect c.store number e).compaction ≡ Some job
compaction_effect c number (CompactStart i inputs level) job y n h = absurd (compaction_busy c.store i c.store.compaction job h (and_parts _ _ y).0)
compaction_effect c number (CompactEnd pieces) job y n h = absurd (cc)
compaction_effect c number CompactDrop job y n h = absurd (cc)
compaction_effect c number (FlushEnd table) job y n h = compaction_beside c.store c.store.flush table ∙ h
compaction_effect c number e job y n h = h

compaction_kept : (c : CoreState) (e : CoreEvent) (job : Compaction) → ends_compaction e ≡ false → c.store.compaction ≡ Some job → (behind_event c e).store.compaction ≡ Some job
compaction_kept c e job n h =
    let P : Bool → Type 0 = λ b. (if b then with_live_numbers (effect c.store (c.events + 1) e) else c.store).compaction ≡ Some job in
    elim (cases_Bool (is_accepted c e)) [
      | inl y ↦ subst P (sym y) (compaction_effect c (c.events + 1) e job y n h)
      | inr y ↦ subst P (sym y) h
    ]

compaction_stays : (c : CoreState) (es : List CoreEvent) (job : Compaction) → ((e : CoreEvent) → In e es → ends_compaction e ≡ false) → c.store.compaction ≡ Some job → (behind_all c es).store.compaction ≡ Some job
compaction_stays c [] job n h = h
compaction_stays c (e ∷ es) job n h = compaction_stays (behind_event c e) es job (λ x i. n x (inr i)) (compaction_kept c e job (n e (inl refl)) h)

abbrev compaction_made : CoreState → Family → List ℕ → ℕ → Compaction
compaction_made c i inputs level = record { start = c.events + 1; family = i; inputs = inputs; level = level; deeper = deeper_of c.store i inputs level; last = c.store.last; floor = floor_at c.store i; seqs = seqs_of c.store }

pub compactions_end : (c : CoreState) (i : Family) (inputs : List ℕ) (level : ℕ) (es : List CoreEvent) → is_accepted c (CompactStart i inputs level) ≡ true → All (λ (e : CoreEvent). ends_compaction e ≡ false) es
    → (behind_all (behind_event c (CompactStart i inputs level)) es).store.compaction ≡ Some (compaction_made c i inputs level)
compactions_end c i inputs level es y n =
    let P : Bool → Type 0 = λ b. (if b then with_live_numbers (effect c.store (c.events + 1) (CompactStart i inputs level)) else c.store).compaction ≡ Some (compaction_made c i inputs level) in
    compaction_stays (behind_event c (CompactStart i inputs level)) es (compaction_made c i inputs level) (λ e j. All-In (λ (x : CoreEvent). ends_compaction x ≡ false) es e n j) (subst P (sym y) refl)

-- ---- ends

pub flush_makes : (c : CoreState) (job : Flush) (table : ℕ) → c.store.flush ≡ Some job → is_accepted c (FlushEnd table) ≡ true
    → let kept = in_form (form_at c.store job.family) (collect_all (flush_taken c.store job) job.floor job.seqs) in
    (behind_event c (FlushEnd table)).store.families ≡ changed_at job.family.0 (flushed (record { number = table; level = 0; versions = kept }) job.through (flush_floor c.store job)) c.store.families
flush_makes c job table e y =
    let kept = in_form (form_at c.store job.family) (collect_all (flush_taken c.store job) job.floor job.seqs) in
    let families = changed_at job.family.0 (flushed (record { number = table; level = 0; versions = kept }) job.through (flush_floor c.store job)) c.store.families in
    accepted_has (λ (m : State). m.families ≡ families) c (FlushEnd table) y (ap (λ o. (flush_ended c.store o table).families) e)

pub compaction_makes : (c : CoreState) (job : Compaction) (pieces : List Piece) → c.store.compaction ≡ Some job → is_accepted c (CompactEnd pieces) ≡ true
    → let kept = collect (inputs_hold c.store job) job.floor job.seqs job.deeper in
    (behind_event c (CompactEnd pieces)).store.families ≡ changed_at job.family.0 (compacted job.inputs (tables_from job.level kept pieces)) c.store.families
compaction_makes c job pieces e y =
    let kept = collect (inputs_hold c.store job) job.floor job.seqs job.deeper in
    let families = changed_at job.family.0 (compacted job.inputs (tables_from job.level kept pieces)) c.store.families in
    accepted_has (λ (m : State). m.families ≡ families) c (CompactEnd pieces) y (ap (λ o. (with_compaction c.store o pieces).families) e)
