-- Every legal reply keeps what holds of a state.
use Rattle.std.proofs.Common.{◌≡◌, ℕ, ◌+◌, Bool, true, false, List, [], ◌∷◌, ◌++◌, length, Option, Some, None, refl, sym, ap, ◌∙◌, inl, inr, subst}
use Rattle.std.specs.Prelude.{option_map, ◌==◌, if◌then◌else◌}
use Rattle.std.proofs.lemmas.Bool.{cases_Bool, false≢true}
use Rattle.ts_key.specs.declared.batch.WriteOp.{WriteOp}
use Rattle.ts_key.specs.declared.numbers.Family.{Family}
use Rattle.ts_key.specs.declared.numbers.Ts.{Ts}
use Rattle.udt_model.specs.declared.reply.Piece.{Piece}
use Rattle.udt_model.specs.declared.reply.Reply.{Reply}
use Rattle.udt_model.specs.declared.reply.Reply.TheVariants.{Done, OkAt, Nothing, Table, Inputs, Kept, DroppedFault, DroppedMemory, DroppedFiles, Halted, Fault}
use Rattle.udt_model.specs.Versions.{made}
use Rattle.udt_model.specs.State.{State, FamilyState, Flush, Compaction, family_at, numbers_of, place_at, place_of_family, tables_of, with_family, with_floor}
use Rattle.udt_model.specs.Acts.{Act}
use Rattle.udt_model.specs.Acts.Act.{write, raise, make_snapshot, release, flush_start, flush_end, compact_start, compact_end}
use Rattle.udt_model.specs.Refusals.{◌or_else◌, ◌otherwise◌, halt, unknown_family, floor_fell, busy, refusal}
use Rattle.udt_model.specs.Jobs.{IsClosed, numbers_of_pieces, unflushed_of}
use Rattle.udt_model.specs.Steps.{IsFlushed, IsCompacted, IsPicked, IsTold, IsOutOfFiles, IsReplyTo, after, without_job, with_flush, with_compaction}
use Rattle.udt_model.specs.Crashes.{is_change}
use Rattle.floor_laws.specs.Sound.{IsSoundState}
use Rattle.floor_laws.proofs.States.{FlushIs, CompactionIs, Holds, holds_of, sound_from}
use Rattle.floor_laws.proofs.Writing.{is_refusal, Refuses, told_other, known_start, or_none, refuses_write, refuses_raise, refuses_flush_start, refuses_compact_start}
use Rattle.floor_laws.proofs.Stepping.{floor_none, step_write, step_raise, step_snapshot, step_release, step_drop_flush, step_drop_compaction, step_halt, step_flush_start, step_compact_start, all_closed, new_of, step_flush_end, step_compact_end}

step_without : (m : State) (act : Act) → Holds m → Holds (without_job m act)
step_without m (flush_end i start) h = step_drop_flush m h
step_without m (compact_end i start) h = step_drop_compaction m h
step_without m act h = h

write_goes : (m : State) (ops : List WriteOp) (sync : Bool) (last : ℕ) → OkAt last ≡ (refusal m (write ops false) otherwise OkAt (m.last.0 + length ops)) → Holds m → Holds (record m { versions = m.versions ++ made m.last.0 ops; last = record { 0 = last } })
write_goes m ops sync last told h =
    let r = told_other (refusal m (write ops false)) (OkAt (m.last.0 + length ops)) (OkAt last) (refuses_write m ops false) refl told in
    let e : last ≡ m.last.0 + length ops = number_same last (m.last.0 + length ops) r.1 in
    subst (λ n. Holds (record m { versions = m.versions ++ made m.last.0 ops; last = record { 0 = n } })) (sym e) (step_write m ops false r.0 h) where
      number_same : (a b : ℕ) → OkAt a ≡ OkAt b → a ≡ b
      number_same a b h = cc

raise_goes : (m : State) (i : Family) (floor : Ts) → Done ≡ (refusal m (raise i floor) otherwise Done) → Holds m → Holds (with_family m i (with_floor floor))
raise_goes m i floor told h =
    let r = told_other (refusal m (raise i floor)) Done Done (refuses_raise m i floor) refl told in
    let k = known_start m i (floor_fell floor (place_at m i)) r.0 in
    let fell = (or_none (unknown_family m i or_else halt m) (floor_fell floor (place_at m i)) r.0).1 in
    let e : floor_fell floor (Some (place_of_family i k.0)) ≡ None = at_place m i floor (family_at m i) k.0 k.1 fell in
    step_raise m i k.0 floor k.1 (floor_none floor i k.0 e) h where
      at_place : (m : State) (i : Family) (floor : Ts) (o : Option FamilyState) (f : FamilyState) → o ≡ Some f → floor_fell floor (option_map (place_of_family i) o) ≡ None → floor_fell floor (Some (place_of_family i f)) ≡ None
      at_place m i floor o f e h = subst (λ z. floor_fell floor (option_map (place_of_family i) z) ≡ None) e h

flush_starts : (m : State) (number : ℕ) (i : Family) (through : ℕ) → OkAt through ≡ (refusal m (flush_start i) otherwise (if length (unflushed_of m i) == 0 then Nothing else OkAt m.last.0)) → Holds m → Holds (after m number (flush_start i) (OkAt through))
flush_starts m number i through told h =
    let r = told_other (refusal m (flush_start i)) (if length (unflushed_of m i) == 0 then Nothing else OkAt m.last.0) (OkAt through) (refuses_flush_start m i) refl told in
    let k = known_start m i (busy (option_map (λ (job : Flush). job.start) m.flush)) r.0 in
    step_flush_start m number i k.0 k.1 h

plan_starts : (m : State) (number : ℕ) (i : Family) (pick : Bool) (inputs : List ℕ) (level : ℕ) → refusal m (compact_start i pick) ≡ None → IsClosed m i inputs level → Holds m → Holds (after m number (compact_start i pick) (Inputs inputs level))
plan_starts m number i pick inputs level ok closed h =
    let k = known_start m i (busy (option_map (λ (job : Compaction). job.start) m.compaction)) ok in
    step_compact_start m number i k.0 inputs level k.1 closed h

whole_starts : (m : State) (number : ℕ) (i : Family) (inputs : List ℕ) (level : ℕ) → Inputs inputs level ≡ (refusal m (compact_start i false) otherwise (if length (tables_of m i) == 0 then Nothing else Inputs (numbers_of (tables_of m i)) 6)) → Holds m → Holds (after m number (compact_start i false) (Inputs inputs level))
whole_starts m number i inputs level told h =
    let whole = if length (tables_of m i) == 0 then Nothing else Inputs (numbers_of (tables_of m i)) 6 in
    let r = told_other (refusal m (compact_start i false)) whole (Inputs inputs level) (refuses_compact_start m i false) refl told in
    let k = known_start m i (busy (option_map (λ (job : Compaction). job.start) m.compaction)) r.0 in
    elim (cases_Bool (length (tables_of m i) == 0)) [
      | inl y ↦ let e : Inputs inputs level ≡ Nothing = rw y at (r.1) in absurd (cc)
      | inr y ↦
          let e : Inputs inputs level ≡ Inputs (numbers_of (tables_of m i)) 6 = rw y at (r.1) in
          let e1 : inputs ≡ numbers_of (tables_of m i) = cc in
          let e2 : level ≡ 6 = cc in
          let closed : IsClosed m i inputs level = subst (λ z. IsClosed m i z level) (sym e1) (subst (λ z. IsClosed m i (numbers_of (tables_of m i)) z) (sym e2) (all_closed m i k.0 k.1 (h.families i k.0 k.1).order y)) in
          plan_starts m number i false inputs level r.0 closed h
    ]

pick_starts : (m : State) (number : ℕ) (i : Family) (inputs : List ℕ) (level : ℕ) (o : Option Reply) → refusal m (compact_start i true) ≡ o → Refuses o → IsPicked m i o (Inputs inputs level) → Holds m → Holds (after m number (compact_start i true) (Inputs inputs level))
pick_starts m number i inputs level None e n picked h = plan_starts m number i true inputs level e picked h
pick_starts m number i inputs level (Some r) e n picked h = let q : is_refusal (Inputs inputs level) ≡ true = ap is_refusal picked ∙ n in absurd (cc)

compact_starts : (m : State) (number : ℕ) (i : Family) (pick : Bool) (inputs : List ℕ) (level : ℕ) → IsTold m (compact_start i pick) (Inputs inputs level) → Holds m → Holds (after m number (compact_start i pick) (Inputs inputs level))
compact_starts m number i true inputs level told h = pick_starts m number i inputs level (refusal m (compact_start i true)) refl (refuses_compact_start m i true) told h
compact_starts m number i false inputs level told h = whole_starts m number i inputs level told h

flush_ends : (m : State) (o : Option Flush) (table kept : ℕ) (floor : Ts) → m.flush ≡ o → IsFlushed m o table kept floor → Holds m → Holds (with_flush m o table floor)
flush_ends m None table kept floor e told h = absurd told
flush_ends m (Some job) table kept floor e told h =
    let k : FlushIs m (Some job) = subst (FlushIs m) e h.flush in
    step_flush_end m job k.0 table floor k.1 k.2 (new_of m.used (table ∷ []) told.0) told.2 h

compact_ends : (m : State) (o : Option Compaction) (kept : ℕ) (pieces : List Piece) → m.compaction ≡ o → IsCompacted m o kept pieces → Holds m → Holds (with_compaction m o pieces)
compact_ends m None kept pieces e told h = absurd told
compact_ends m (Some job) kept pieces e told h =
    let k : CompactionIs m (Some job) = subst (CompactionIs m) e h.compaction in
    step_compact_end m job k.0 pieces k.1 k.2 (new_of m.used (numbers_of_pieces pieces) told.0) told.2 h

-- a reply that is neither a fault nor a lack of files is the model's
pub told_of : (m : State) (act : Act) (reply : Reply) → IsReplyTo m act reply → (reply ≡ Fault → ⊥) → (IsOutOfFiles m act reply → ⊥) → IsTold m act reply
told_of m act reply r no_fault no_full = elim r.is [
  | inl t ↦ t
  | inr x ↦ elim x [ inl f ↦ absurd (no_fault f.0) | inr f ↦ absurd (no_full f) ]
]

pub step_after : (m : State) (number : ℕ) (act : Act) (reply : Reply) → IsReplyTo m act reply → Holds m → Holds (after m number act reply)
step_after m number act Fault r h = step_halt (without_job m act) (Some number) (step_without m act h)
step_after m number act (Halted since) r h = step_without m act h
step_after m number act DroppedFault r h = step_without m act h
step_after m number act DroppedMemory r h = step_without m act h
step_after m number act (DroppedFiles next) r h = step_without m act h
step_after m number (write ops sync) (OkAt last) r h = write_goes m ops sync last (told_of m (write ops sync) (OkAt last) r (λ e. absurd (cc)) (λ b. b)) h
step_after m number (raise i floor) Done r h = raise_goes m i floor (told_of m (raise i floor) Done r (λ e. absurd (cc)) (λ b. b)) h
step_after m number make_snapshot (OkAt seq) r h = step_snapshot m number h
step_after m number (release event) Done r h = step_release m event h
step_after m number (flush_start i) (OkAt through) r h = flush_starts m number i through (told_of m (flush_start i) (OkAt through) r (λ e. absurd (cc)) (λ b. let e = b.0 in absurd (cc))) h
step_after m number (flush_end i start) (Table table kept floor) r h = flush_ends m m.flush table kept floor refl (told_of m (flush_end i start) (Table table kept floor) r (λ e. absurd (cc)) (λ b. b)).1 h
step_after m number (compact_start i pick) (Inputs inputs level) r h = compact_starts m number i pick inputs level (told_of m (compact_start i pick) (Inputs inputs level) r (λ e. absurd (cc)) (λ b. b)) h
step_after m number (compact_end i start) (Kept kept pieces) r h = compact_ends m m.compaction kept pieces refl (told_of m (compact_end i start) (Kept kept pieces) r (λ e. absurd (cc)) (λ b. b)).1 h
step_after m number act reply r h = h

-- an act that changed what is on the disk, by what it was told
pub step_told : (m : State) (number : ℕ) (act : Act) (reply : Reply) → IsTold m act reply → is_change act reply ≡ true → Holds m → Holds (after m number act reply)
step_told m number (write ops sync) (OkAt last) told c h = write_goes m ops sync last told h
step_told m number (raise i floor) Done told c h = raise_goes m i floor told h
step_told m number (flush_end i start) (Table table kept floor) told c h = flush_ends m m.flush table kept floor refl told.1 h
step_told m number (compact_end i start) (Kept kept pieces) told c h = compact_ends m m.compaction kept pieces refl told.1 h
step_told m number act reply told c h = absurd (false≢true c)

pub sound_after : (m : State) (number : ℕ) (act : Act) (reply : Reply) → IsSoundState m → IsReplyTo m act reply → IsSoundState (after m number act reply)
sound_after m number act reply h r = sound_from (after m number act reply) (step_after m number act reply r (holds_of m h))
