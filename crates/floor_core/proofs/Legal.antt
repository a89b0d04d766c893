-- Each event that isn't refused is a legal step of the model.
use Rattle.std.proofs.Common.{◌≡◌, ℕ, ◌+◌, Bool, true, false, not, ◌&&◌, List, [], ◌∷◌, length, Option, Some, None, refl, sym, ap, subst, ◌∙◌, inl, inr, arith}
use Rattle.std.specs.Prelude.{is_none, is_some, ◌==◌, if◌then◌else◌, IsTrue, option_map, unwrap_or}
use Rattle.std.proofs.lemmas.Bool.{cases_Bool, and_parts}
use Rattle.std.proofs.lemmas.Bool.Decides.{nat_tests}
use Rattle.ts_key.specs.declared.batch.WriteOp.{WriteOp}
use Rattle.ts_key.specs.declared.numbers.Family.{Family}
use Rattle.ts_key.specs.declared.numbers.Ts.{Ts}
use Rattle.udt_model.specs.declared.reply.Piece.{Piece}
use Rattle.udt_model.specs.declared.reply.Reply.TheVariants.{Done, OkAt, Nothing, Table, Inputs, Kept, DroppedMemory, Halted}
use Rattle.udt_model.specs.State.{State, Flush, Compaction, tables_of}
use Rattle.udt_model.specs.Acts.Act.{write, raise, make_snapshot, release, flush_start, flush_end, compact_start, compact_end}
use Rattle.udt_model.specs.Refusals.{refusal, ◌otherwise◌}
use Rattle.udt_model.specs.Jobs.{IsClosed, are_new, compaction_kept, flush_floor, flush_kept, numbers_of_pieces, runs_compaction, runs_flush, unflushed_of}
use Rattle.udt_model.specs.Steps.{IsCompacted, IsFlushed, IsPicked, after, with_compaction, with_flush}
use Rattle.floor_laws.specs.Sound.{IsSoundState}
use Rattle.floor_laws.proofs.Told.{sound_after}
use Rattle.floor_core.specs.declared.event.CoreEvent.{CoreEvent}
use Rattle.floor_core.specs.declared.event.CoreEvent.TheVariants.{Write, Get, Raise, Snap, Release, Pin, PinnedGet, FlushStart, FlushEnd, FlushDrop, CompactStart, CompactEnd, CompactDrop, Halt}
use Rattle.floor_core.specs.Cores.{CoreState, with_live_numbers}
use Rattle.floor_core.specs.Machine.{are_closed, flush_ended, is_accepted, effect, parts_it, store_behind}
use Rattle.floor_core.proofs.Sound.{sound_live, sound_halted}

none_of : {X : Type 0} (o : Option X) → is_none o ≡ true → o ≡ None
none_of None e = refl
none_of (Some x) e = absurd (cc)

-- not halted
not_halted : (o : Option ℕ) → is_none (option_map Halted o) ≡ true → o ≡ None
not_halted None e = refl
not_halted (Some n) e = absurd (cc)

same_number : (n : ℕ) → (n == n) ≡ true
same_number n = grind (arith, nat_tests)

both_true : (a b : Bool) → a ≡ true → b ≡ true → IsTrue (a && b)
both_true a b e f = rw (e, f) refl

false_of : (b : Bool) → not b ≡ true → b ≡ false
false_of true e = absurd (cc)
false_of false e = refl

sound_write : (m : State) (number : ℕ) (ops : List WriteOp) → is_none (refusal m (write ops false)) ≡ true → IsSoundState m → IsSoundState (after m number (write ops false) (OkAt (m.last.0 + length ops)))
sound_write m number ops e h = sound_after m number (write ops false) (OkAt (m.last.0 + length ops)) h (record { running = refl; is = inl (sym (ap (λ z. z otherwise OkAt (m.last.0 + length ops)) (none_of (refusal m (write ops false)) e))) })

sound_raise : (m : State) (number : ℕ) (i : Family) (floor : Ts) → is_none (refusal m (raise i floor)) ≡ true → IsSoundState m → IsSoundState (after m number (raise i floor) Done)
sound_raise m number i floor e h = sound_after m number (raise i floor) Done h (record { running = refl; is = inl (sym (ap (λ z. z otherwise Done) (none_of (refusal m (raise i floor)) e))) })

sound_snap : (m : State) (number : ℕ) → is_none (refusal m make_snapshot) ≡ true → IsSoundState m → IsSoundState (after m number make_snapshot (OkAt m.last.0))
sound_snap m number e h = sound_after m number make_snapshot (OkAt m.last.0) h (record { running = refl; is = inl (sym (ap (λ z. z otherwise OkAt m.last.0) (none_of (refusal m make_snapshot) e))) })

sound_start : (m : State) (number : ℕ) (i : Family) → (is_none (refusal m (flush_start i)) && not (length (unflushed_of m i) == 0)) ≡ true → IsSoundState m → IsSoundState (after m number (flush_start i) (OkAt m.last.0))
sound_start m number i e h =
    let parts = and_parts (is_none (refusal m (flush_start i))) (not (length (unflushed_of m i) == 0)) e in
    let some = false_of (length (unflushed_of m i) == 0) parts.1 in
    sound_after m number (flush_start i) (OkAt m.last.0) h (record {
      running = refl;
      is = inl (sym (ap (λ z. z otherwise (if length (unflushed_of m i) == 0 then Nothing else OkAt m.last.0)) (none_of (refusal m (flush_start i)) parts.0) ∙ ap (λ b. if b then Nothing else OkAt m.last.0) some));
    })

sound_flushed : (m : State) (number : ℕ) (o : Option Flush) (table : ℕ) → m.flush ≡ o → m.halted ≡ None → IsTrue (are_new m.used (table ∷ [])) → IsSoundState m → IsSoundState (flush_ended m o table)
sound_flushed m number None table e halted new h = h
sound_flushed m number (Some job) table e halted new h =
    let floor = flush_floor m job in
    let kept = length (flush_kept m job) in
    let r : IsSoundState (with_flush m m.flush table floor) = sound_after m number (flush_end job.family job.start) (Table table kept floor) h (record {
      running = subst (λ z. IsTrue (runs_flush z job.family job.start)) (sym e) (both_true (job.start == job.start) (job.family.0 == job.family.0) (same_number job.start) (same_number job.family.0));
      is = inl (halted, subst (λ z. IsFlushed m z table kept floor) (sym e) (new, refl, refl));
    }) in
    subst (λ z. IsSoundState (with_flush m z table floor)) e r

sound_flush_drop : (m : State) (number : ℕ) (o : Option Flush) → m.flush ≡ o → is_some o ≡ true → IsSoundState m → IsSoundState (record m { flush = None })
sound_flush_drop m number None e s h = absurd (cc)
sound_flush_drop m number (Some job) e s h = sound_after m number (flush_end job.family job.start) DroppedMemory h (record {
  running = subst (λ z. IsTrue (runs_flush z job.family job.start)) (sym e) (both_true (job.start == job.start) (job.family.0 == job.family.0) (same_number job.start) (same_number job.family.0));
  is = inl tt;
})

closed_of : (m : State) (i : Family) (inputs : List ℕ) (level : ℕ) → are_closed (tables_of m i) inputs level ≡ true → IsClosed m i inputs level
closed_of m i inputs level e =
    let a = and_parts _ _ e in
    let b = and_parts _ _ a.0 in
    let d = and_parts _ _ b.0 in
    let f = and_parts _ _ d.0 in
    let g = and_parts _ _ f.0 in
    record { some = g.0; ascending = g.1; live = f.1; level_is = both_true _ _ d.1 b.1; taken_in = a.1 }

sound_plan : (m : State) (number : ℕ) (i : Family) (inputs : List ℕ) (level : ℕ) → (is_none (refusal m (compact_start i true)) && are_closed (tables_of m i) inputs level) ≡ true → IsSoundState m → IsSoundState (after m number (compact_start i true) (Inputs inputs level))
sound_plan m number i inputs level e h =
    let parts = and_parts (is_none (refusal m (compact_start i true))) (are_closed (tables_of m i) inputs level) e in
    sound_after m number (compact_start i true) (Inputs inputs level) h (record {
      running = refl;
      is = inl (subst (λ z. IsPicked m i z (Inputs inputs level)) (sym (none_of (refusal m (compact_start i true)) parts.0)) (closed_of m i inputs level parts.1));
    })

sound_compacted : (m : State) (number : ℕ) (o : Option Compaction) (pieces : List Piece) → m.compaction ≡ o → m.halted ≡ None → IsTrue (are_new m.used (numbers_of_pieces pieces)) → IsTrue (parts_it m o pieces)
    → IsSoundState m → IsSoundState (with_compaction m o pieces)
sound_compacted m number None pieces e halted new parts h = h
sound_compacted m number (Some job) pieces e halted new parts h =
    let kept = length (compaction_kept m job) in
    let r : IsSoundState (with_compaction m m.compaction pieces) = sound_after m number (compact_end job.family job.start) (Kept kept pieces) h (record {
      running = subst (λ z. IsTrue (runs_compaction z job.family job.start)) (sym e) (both_true (job.start == job.start) (job.family.0 == job.family.0) (same_number job.start) (same_number job.family.0));
      is = inl (halted, subst (λ z. IsCompacted m z kept pieces) (sym e) (new, refl, parts));
    }) in
    subst (λ z. IsSoundState (with_compaction m z pieces)) e r

sound_compaction_drop : (m : State) (number : ℕ) (o : Option Compaction) → m.compaction ≡ o → is_some o ≡ true → IsSoundState m → IsSoundState (record m { compaction = None })
sound_compaction_drop m number None e s h = absurd (cc)
sound_compaction_drop m number (Some job) e s h = sound_after m number (compact_end job.family job.start) DroppedMemory h (record {
  running = subst (λ z. IsTrue (runs_compaction z job.family job.start)) (sym e) (both_true (job.start == job.start) (job.family.0 == job.family.0) (same_number job.start) (same_number job.family.0));
  is = inl tt;
})

-- what an event that isn't refused makes of a sound store is sound
sound_effect : (c : CoreState) (number : ℕ) (event : CoreEvent) → is_accepted c event ≡ true → IsSoundState c.store → IsSoundState (effect c.store number event)
sound_effect c number (Write batch) e h = sound_write c.store number batch e h
sound_effect c number (Get i key t snap) e h = h
sound_effect c number (Raise i floor) e h = sound_raise c.store number i floor e h
sound_effect c number Snap e h = sound_snap c.store number e h
sound_effect c number (Release id) e h = sound_after c.store number (release id) Done h (record { running = refl; is = inl refl })
sound_effect c number Pin e h = h
sound_effect c number (PinnedGet pin i key t snap) e h = h
sound_effect c number (FlushStart i) e h = sound_start c.store number i e h
sound_effect c number (FlushEnd table) e h =
    let a = and_parts _ _ e in
    let b = and_parts _ _ a.0 in
    sound_flushed c.store number c.store.flush table refl (not_halted c.store.halted b.0) a.1 h
sound_effect c number FlushDrop e h = sound_flush_drop c.store number c.store.flush refl e h
sound_effect c number (CompactStart i inputs level) e h = sound_plan c.store number i inputs level e h
sound_effect c number (CompactEnd pieces) e h =
    let a = and_parts _ _ e in
    let b = and_parts _ _ a.0 in
    sound_compacted c.store number c.store.compaction pieces refl (not_halted c.store.halted b.0) b.1 a.1 h
sound_effect c number CompactDrop e h = sound_compaction_drop c.store number c.store.compaction refl e h
sound_effect c number Halt e h = sound_halted c.store (Some (unwrap_or c.store.halted number)) h

pub sound_behind : (c : CoreState) (event : CoreEvent) → IsSoundState c.store → IsSoundState (store_behind c event)
sound_behind c event h =
    let P : Bool → Type 0 = λ b. IsSoundState (if b then with_live_numbers (effect c.store (c.events + 1) event) else c.store) in
    elim (cases_Bool (is_accepted c event)) [
      | inl y ↦ subst P (sym y) (sound_live (effect c.store (c.events + 1) event) (sound_effect c (c.events + 1) event y h))
      | inr y ↦ subst P (sym y) h
    ]
