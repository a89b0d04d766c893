-- What a running job takes stays the same, whatever happens meanwhile.
use Rattle.std.proofs.Common.{◌≡◌, ℕ, zero, suc, ◌+◌, ◌≤◌, ◌&&◌, Bool, false, List, [], ◌∷◌, ◌++◌, Option, Some, None, refl, ap, ◌∙◌, arith, inl, inr, subst}
use Rattle.std.specs.Prelude.{nat_lt, nat_le, ◌==◌, slice_get, flat_map}
use Rattle.std.specs.List.{filter}
use Rattle.std.proofs.lemmas.Bool.{cases_Bool, and_right, lt-leb}
use Rattle.std.proofs.lemmas.List.{append-nil}
use Rattle.std.proofs.lemmas.List.Elements.{filter-append}
use Rattle.ts_key.specs.declared.batch.WriteOp.{WriteOp}
use Rattle.ts_key.specs.declared.numbers.Family.{Family}
use Rattle.ts_key.specs.declared.numbers.Ts.{Ts}
use Rattle.ts_key.specs.declared.numbers.Seq.{Seq}
use Rattle.ts_key.specs.declared.version.Version.{Version}
use Rattle.udt_model.specs.declared.reply.Piece.{Piece}
use Rattle.udt_model.specs.declared.reply.Reply.{Reply}
use Rattle.udt_model.specs.declared.reply.Reply.TheVariants.{Done, OkAt, Table, Inputs, Kept, DroppedFault, DroppedMemory, DroppedFiles, Halted, Fault}
use Rattle.udt_model.specs.Versions.{between, logged, made}
use Rattle.udt_model.specs.State.{State, FamilyState, LiveTable, Flush, Compaction, changed_at, tables_of_family, through_at, through_of, with_floor}
use Rattle.udt_model.specs.Acts.{Act}
use Rattle.udt_model.specs.Acts.Act.{write, raise, flush_end, compact_start, compact_end}
use Rattle.udt_model.specs.Jobs.{compaction_kept, flush_kept, inputs_hold, inputs_of, is_input, tables_from, flush_taken}
use Rattle.udt_model.specs.Steps.{IsFlushed, IsReplyTo, after, compacted, flushed, with_compaction, with_flush, without_job}
use Rattle.floor_laws.specs.Sound.{IsSoundState}
use Rattle.floor_laws.proofs.Members.{In, filter_none}
use Rattle.floor_laws.proofs.Tables.{has-In, numbers-In, filter_with_table}
use Rattle.floor_laws.proofs.States.{some_same, FlushIs, CompactionIs, Holds, holds_of}
use Rattle.floor_laws.proofs.Stepping.{New, new_of}
use Rattle.floor_laws.proofs.Told.{told_of}

-- ---- a flush

pub logged_above : (n : ℕ) (os : List WriteOp) (v : Version) → In v (logged n os) → n ≤ v.seq.0
logged_above n [] v i = absurd i
logged_above n (o ∷ os) v (inl q) = let e : n ≡ v.seq.0 = ap (λ (z : Version). z.seq.0) q in omega (arith, e)
logged_above n (o ∷ os) v (inr i) = let l = logged_above (n + 1) os v i in omega (arith, l)

taken_written : (i : Family) (a t last : ℕ) (w : List Version) (os : List WriteOp) → t ≤ last → between i a t (w ++ made last os) ≡ between i a t w
taken_written i a t last w os le =
    let p : Version → Bool = λ (v : Version). v.family.0 == i.0 && nat_lt a v.seq.0 && nat_le v.seq.0 t in
    filter-append p w (made last os)
    ∙ ap (λ z. filter p w ++ z) (filter_none p (made last os) (λ v j. let l = logged_above (last + 1) os v j in and_right (v.family.0 == i.0 && nat_lt a v.seq.0) (nat_le v.seq.0 t) (lt-leb v.seq.0 t (omega (arith, l, le)))))
    ∙ append-nil (filter p w)

through_changed : (fs : List FamilyState) (n : ℕ) (change : FamilyState → FamilyState) → ((f : FamilyState) → (change f).through ≡ f.through) → (k : ℕ) → through_of (slice_get (changed_at n change fs) k) ≡ through_of (slice_get fs k)
through_changed [] n change h k = refl
through_changed (f ∷ fs) zero change h zero = h f
through_changed (f ∷ fs) zero change h (suc k) = refl
through_changed (f ∷ fs) (suc n) change h zero = refl
through_changed (f ∷ fs) (suc n) change h (suc k) = through_changed fs n change h k

taken_through : (m : State) (job : Flush) (a b : Seq) → a ≡ b → between job.family a.0 job.through.0 m.versions ≡ between job.family b.0 job.through.0 m.versions
taken_through m job a b e = ap (λ (z : Seq). between job.family z.0 job.through.0 m.versions) e

taken_without : (m : State) (act : Act) (job : Flush) → flush_taken (without_job m act) job ≡ flush_taken m job
taken_without m (flush_end i start) job = refl
taken_without m (compact_end i start) job = refl
taken_without m act job = refl

taken_compacted : (m : State) (o : Option Compaction) (pieces : List Piece) (job : Flush) → flush_taken (with_compaction m o pieces) job ≡ flush_taken m job
taken_compacted m None pieces job = refl
taken_compacted m (Some c) pieces job = taken_through m job (through_at (with_compaction m (Some c) pieces) job.family) (through_at m job.family) (through_changed m.families c.family.0 (compacted c.inputs (tables_from c.level (compaction_kept m c) pieces)) (λ f. refl) job.family.0)

taken_flushed : (m : State) (o : Option Flush) (table : ℕ) (floor : Ts) (job : Flush) → m.flush ≡ o → (with_flush m o table floor).flush ≡ Some job → flush_taken (with_flush m o table floor) job ≡ flush_taken m job
taken_flushed m None table floor job e q = refl
taken_flushed m (Some c) table floor job e q = absurd (cc)

bounded_job : (m : State) (o : Option Flush) (job : Flush) → o ≡ Some job → FlushIs m o → job.through.0 ≤ m.last.0
bounded_job m None job e h = absurd (cc)
bounded_job m (Some c) job e h = subst (λ (z : Flush). z.through.0 ≤ m.last.0) (some_same c job e) h.2.to

pub taken_same : (m : State) (number : ℕ) (act : Act) (reply : Reply) (job : Flush) → Holds m → m.flush ≡ Some job → (after m number act reply).flush ≡ Some job → flush_taken (after m number act reply) job ≡ flush_taken m job
taken_same m number act Fault job h e q = taken_without m act job
taken_same m number act (Halted since) job h e q = taken_without m act job
taken_same m number act DroppedFault job h e q = taken_without m act job
taken_same m number act DroppedMemory job h e q = taken_without m act job
taken_same m number act (DroppedFiles next) job h e q = taken_without m act job
taken_same m number (write ops sync) (OkAt last) job h e q = taken_written job.family (through_at m job.family).0 job.through.0 m.last.0 m.versions ops (bounded_job m m.flush job e h.flush)
taken_same m number (raise i floor) Done job h e q = taken_through m job (through_at (after m number (raise i floor) Done) job.family) (through_at m job.family) (through_changed m.families i.0 (with_floor floor) (λ f. refl) job.family.0)
taken_same m number (flush_end i start) (Table table kept floor) job h e q = taken_flushed m m.flush table floor job refl q
taken_same m number (compact_start i pick) (Inputs inputs level) job h e q = refl
taken_same m number (compact_end i start) (Kept kept pieces) job h e q = taken_compacted m m.compaction pieces job
taken_same m number act reply job h e q = refl

-- ---- a compaction

inputs_changed : (p : LiveTable → Bool) (fs : List FamilyState) (n : ℕ) (change : FamilyState → FamilyState) (k : ℕ) → (k ≡ n → (f : FamilyState) → slice_get fs n ≡ Some f → filter p (change f).tables ≡ filter p f.tables) → filter p (tables_of_family (slice_get (changed_at n change fs) k)) ≡ filter p (tables_of_family (slice_get fs k))
inputs_changed p [] n change k h = refl
inputs_changed p (f ∷ fs) zero change zero h = h refl f refl
inputs_changed p (f ∷ fs) zero change (suc k) h = refl
inputs_changed p (f ∷ fs) (suc n) change zero h = refl
inputs_changed p (f ∷ fs) (suc n) change (suc k) h = inputs_changed p fs n change k (λ e. h (ap suc e))

held_of : (job : Compaction) (m m2 : State) → inputs_of m2 job.family job.inputs ≡ inputs_of m job.family job.inputs → inputs_hold m2 job ≡ inputs_hold m job
held_of job m m2 e = ap (λ (z : List LiveTable). flat_map (λ (t : LiveTable). t.versions) z) e

held_without : (m : State) (act : Act) (job : Compaction) → inputs_hold (without_job m act) job ≡ inputs_hold m job
held_without m (flush_end i start) job = refl
held_without m (compact_end i start) job = refl
held_without m act job = refl

held_compacted : (m : State) (o : Option Compaction) (pieces : List Piece) (job : Compaction) → (with_compaction m o pieces).compaction ≡ Some job → inputs_hold (with_compaction m o pieces) job ≡ inputs_hold m job
held_compacted m None pieces job q = refl
held_compacted m (Some c) pieces job q = absurd (cc)

-- a new table is no input
not_input : (m : State) (job : Compaction) (number : ℕ) → Holds m → m.compaction ≡ Some job → New m.used (number ∷ []) → (n : LiveTable) → n.number ≡ number → is_input job.inputs n ≡ false
not_input m job number h e new n q =
    let k : CompactionIs m (Some job) = subst (CompactionIs m) e h.compaction in
    elim (cases_Bool (is_input job.inputs n)) [
      | inl y ↦
          let r = numbers-In n.number k.0.tables (k.2.live n.number (has-In job.inputs n.number y)) in
          absurd (new.fresh number (inl refl) (subst (λ z. In z m.used) (r.2 ∙ q) (h.used job.family k.0 k.1 r.0 r.1)))
      | inr y ↦ y
    ]

held_flushed : (m : State) (o : Option Flush) (table kept : ℕ) (floor : Ts) (job : Compaction) → Holds m → m.compaction ≡ Some job → IsFlushed m o table kept floor → inputs_hold (with_flush m o table floor) job ≡ inputs_hold m job
held_flushed m None table kept floor job h e told = absurd told
held_flushed m (Some c) table kept floor job h e told =
    let n : LiveTable = record { number = table; level = 0; versions = flush_kept m c } in
    let out = not_input m job table h e (new_of m.used (table ∷ []) told.0) n refl in
    held_of job m (with_flush m (Some c) table floor) (inputs_changed (is_input job.inputs) m.families c.family.0 (flushed n c.through floor) job.family.0 (λ q f at. filter_with_table (is_input job.inputs) n f.tables out))

pub held_same : (m : State) (number : ℕ) (act : Act) (reply : Reply) (job : Compaction) → Holds m → IsReplyTo m act reply → m.compaction ≡ Some job → (after m number act reply).compaction ≡ Some job → inputs_hold (after m number act reply) job ≡ inputs_hold m job
held_same m number act Fault job h r e q = held_without m act job
held_same m number act (Halted since) job h r e q = held_without m act job
held_same m number act DroppedFault job h r e q = held_without m act job
held_same m number act DroppedMemory job h r e q = held_without m act job
held_same m number act (DroppedFiles next) job h r e q = held_without m act job
held_same m number (write ops sync) (OkAt last) job h r e q = refl
held_same m number (compact_start i pick) (Inputs inputs level) job h r e q = refl
held_same m number (raise i floor) Done job h r e q = held_of job m (after m number (raise i floor) Done) (inputs_changed (is_input job.inputs) m.families i.0 (with_floor floor) job.family.0 (λ z f at. refl))
held_same m number (flush_end i start) (Table table kept floor) job h r e q = held_flushed m m.flush table kept floor job h e (told_of m (flush_end i start) (Table table kept floor) r (λ z. absurd (cc)) (λ b. b)).1
held_same m number (compact_end i start) (Kept kept pieces) job h r e q = held_compacted m m.compaction pieces job q
held_same m number act reply job h r e q = refl

pub flush_takes : (m : State) (number : ℕ) (act : Act) (reply : Reply) (job : Flush) → IsSoundState m → m.flush ≡ Some job → (after m number act reply).flush ≡ Some job → flush_taken (after m number act reply) job ≡ flush_taken m job
flush_takes m number act reply job h e q = taken_same m number act reply job (holds_of m h) e q

pub compaction_takes : (m : State) (number : ℕ) (act : Act) (reply : Reply) (job : Compaction) → IsSoundState m → IsReplyTo m act reply → m.compaction ≡ Some job → (after m number act reply).compaction ≡ Some job → inputs_hold (after m number act reply) job ≡ inputs_hold m job
compaction_takes m number act reply job h r e q = held_same m number act reply job (holds_of m h) r e q
