-- Snapshots, views, jobs and the halt keep the numbers of their events.
use Rattle.std.proofs.Common.{◌≡◌, ℕ, ◌+◌, ◌<◌, ◌≤◌, Bool, true, List, [], ◌∷◌, Option, Some, None, refl, sym, subst, inl, inr, arith, get_or, zero, suc}
use Rattle.std.specs.Prelude.{All, AllPairs, ◌==◌, if◌then◌else◌, not, option_map, unwrap_or, length}
use Rattle.std.proofs.lemmas.Bool.{cases_Bool}
use Rattle.std.proofs.lemmas.List.Elements.{All-append, All-cons, All-filter, All-nil}
use Rattle.std.proofs.lemmas.List.Kept.{AllPairs-filter}
use Rattle.std.proofs.lemmas.List.Quantifiers.{all_pairs_push}
use Rattle.udt_model.specs.declared.reply.Piece.{Piece}
use Rattle.udt_model.specs.State.{State, Snap, Flush, Compaction, live_numbers}
use Rattle.udt_model.specs.Steps.{with_compaction}
use Rattle.floor_laws.proofs.Members.{In, All-In, All-from}
use Rattle.floor_core.specs.declared.event.CoreEvent.{CoreEvent}
use Rattle.floor_core.specs.declared.event.CoreEvent.TheVariants.{Snap as TakeSnap, Release, Pin, FlushStart, FlushEnd, FlushDrop, CompactStart, CompactEnd, CompactDrop, Halt}
use Rattle.floor_core.specs.Cores.{CoreState, PinnedView, with_live_numbers}
use Rattle.floor_core.specs.Machine.{behind_event, effect, flush_ended, is_accepted, pinned_too, store_behind, view_now}
use Rattle.floor_core.specs.Runs.{AreNumbered, IsSoFar}

-- ---- lists that get one more

at_In : {X : Type 0} (xs : List X) (k : ℕ) (d : X) → k < length xs → In (get_or xs k d) xs
at_In [] k d h = absurd (omega arith)
at_In (x ∷ xs) zero d h = inl refl
at_In (x ∷ xs) (suc k) d h = inr (at_In xs k d (omega arith))

-- ---- snapshots

pub snaps_flushed : (m : State) (o : Option Flush) (table : ℕ) → (flush_ended m o table).snaps ≡ m.snaps
snaps_flushed m None table = refl
snaps_flushed m (Some job) table = refl

pub snaps_compacted : (m : State) (o : Option Compaction) (pieces : List Piece) → (with_compaction m o pieces).snaps ≡ m.snaps
snaps_compacted m None pieces = refl
snaps_compacted m (Some job) pieces = refl

-- what holds of each snapshot and of one that is made holds of each behind an event
all_snaps : (P : Snap → Type 0) (m : State) (number : ℕ) (e : CoreEvent) → All P m.snaps → P (record { event = number; seq = m.last }) → All P (effect m number e).snaps
all_snaps P m number TakeSnap h new = All-append P m.snaps (record { event = number; seq = m.last } ∷ []) h (All-cons P (record { event = number; seq = m.last }) [] new (All-nil P))
all_snaps P m number (Release id) h new = All-filter (λ (s : Snap). not (s.event == id)) P m.snaps h
all_snaps P m number (FlushEnd table) h new = subst (λ z. All P z) (sym (snaps_flushed m m.flush table)) h
all_snaps P m number (CompactEnd pieces) h new = subst (λ z. All P z) (sym (snaps_compacted m m.compaction pieces)) h
all_snaps P m number e h new = h

pub snaps_behind : (P : Snap → Type 0) (c : CoreState) (e : CoreEvent) → All P c.store.snaps → P (record { event = c.events + 1; seq = c.store.last }) → All P (store_behind c e).snaps
snaps_behind P c e h new =
    let Q : Bool → Type 0 = λ b. All P (if b then with_live_numbers (effect c.store (c.events + 1) e) else c.store).snaps in
    elim (cases_Bool (is_accepted c e)) [
      | inl y ↦ subst Q (sym y) (all_snaps P c.store (c.events + 1) e h new)
      | inr y ↦ subst Q (sym y) h
    ]

abbrev IsEarlierSnap : Snap → Snap → Type 0
IsEarlierSnap a b = a.event < b.event

snaps_ascend : (m : State) (last : ℕ) (e : CoreEvent) → All (λ (s : Snap). s.event ≤ last) m.snaps → AllPairs IsEarlierSnap m.snaps → AllPairs IsEarlierSnap (effect m (last + 1) e).snaps
snaps_ascend m last TakeSnap h up =
    all_pairs_push IsEarlierSnap m.snaps (record { event = last + 1; seq = m.last }) up (λ k d lt. let l = All-In (λ (s : Snap). s.event ≤ last) m.snaps (get_or m.snaps k d) h (at_In m.snaps k d lt) in omega (arith, l))
snaps_ascend m last (Release id) h up = AllPairs-filter IsEarlierSnap (λ (s : Snap). not (s.event == id)) m.snaps up
snaps_ascend m last (FlushEnd table) h up = subst (λ z. AllPairs IsEarlierSnap z) (sym (snaps_flushed m m.flush table)) up
snaps_ascend m last (CompactEnd pieces) h up = subst (λ z. AllPairs IsEarlierSnap z) (sym (snaps_compacted m m.compaction pieces)) up
snaps_ascend m last e h up = up

snaps_ascend_behind : (c : CoreState) (e : CoreEvent) → All (λ (s : Snap). s.event ≤ c.events) c.store.snaps → AllPairs IsEarlierSnap c.store.snaps → AllPairs IsEarlierSnap (store_behind c e).snaps
snaps_ascend_behind c e h up =
    let Q : Bool → Type 0 = λ b. AllPairs IsEarlierSnap (if b then with_live_numbers (effect c.store (c.events + 1) e) else c.store).snaps in
    elim (cases_Bool (is_accepted c e)) [
      | inl y ↦ subst Q (sym y) (snaps_ascend c.store c.events e h up)
      | inr y ↦ subst Q (sym y) up
    ]

-- ---- views

views_numbered : (c : CoreState) (e : CoreEvent) → All (λ (v : PinnedView). v.number ≤ c.events) c.pins → All (λ (v : PinnedView). v.number ≤ c.events + 1) (pinned_too c e)
views_numbered c Pin h =
    let P : PinnedView → Type 0 = λ v. v.number ≤ c.events + 1 in
    let v : PinnedView = view_now c.store (c.events + 1) in
    All-append P c.pins (v ∷ []) (All-from P c.pins (λ z i. let l = All-In (λ (z : PinnedView). z.number ≤ c.events) c.pins z h i in omega (arith, l))) (All-cons P v [] (omega arith) (All-nil P))
views_numbered c e h = All-from (λ (v : PinnedView). v.number ≤ c.events + 1) c.pins (λ z i. let l = All-In (λ (z : PinnedView). z.number ≤ c.events) c.pins z h i in omega (arith, l))

abbrev IsEarlierView : PinnedView → PinnedView → Type 0
IsEarlierView a b = a.number < b.number

views_ascend : (c : CoreState) (e : CoreEvent) → All (λ (v : PinnedView). v.number ≤ c.events) c.pins → AllPairs IsEarlierView c.pins → AllPairs IsEarlierView (pinned_too c e)
views_ascend c Pin h up =
    all_pairs_push IsEarlierView c.pins (view_now c.store (c.events + 1)) up (λ k d lt. let l = All-In (λ (z : PinnedView). z.number ≤ c.events) c.pins (get_or c.pins k d) h (at_In c.pins k d lt) in omega (arith, l))
views_ascend c e h up = up

-- ---- jobs and the halt

so_far_next : (n : ℕ) (o : Option ℕ) → IsSoFar n o → IsSoFar (n + 1) o
so_far_next n None h = tt
so_far_next n (Some k) h = omega (arith, h)

abbrev FlushSoFar : ℕ → State → Type 0
FlushSoFar n m = IsSoFar n (option_map (λ (job : Flush). job.start) m.flush)

abbrev CompactionSoFar : ℕ → State → Type 0
CompactionSoFar n m = IsSoFar n (option_map (λ (job : Compaction). job.start) m.compaction)

flush_flushed : (n : ℕ) (m : State) (o : Option Flush) (table : ℕ) → FlushSoFar n m → FlushSoFar n (flush_ended m o table)
flush_flushed n m None table h = h
flush_flushed n m (Some job) table h = tt

flush_compacted : (n : ℕ) (m : State) (o : Option Compaction) (pieces : List Piece) → FlushSoFar n m → FlushSoFar n (with_compaction m o pieces)
flush_compacted n m None pieces h = h
flush_compacted n m (Some job) pieces h = h

flush_effect : (n : ℕ) (m : State) (e : CoreEvent) → FlushSoFar n m → FlushSoFar n (effect m n e)
flush_effect n m (FlushStart i) h = omega arith
flush_effect n m FlushDrop h = tt
flush_effect n m (FlushEnd table) h = flush_flushed n m m.flush table h
flush_effect n m (CompactEnd pieces) h = flush_compacted n m m.compaction pieces h
flush_effect n m e h = h

compaction_flushed : (n : ℕ) (m : State) (o : Option Flush) (table : ℕ) → CompactionSoFar n m → CompactionSoFar n (flush_ended m o table)
compaction_flushed n m None table h = h
compaction_flushed n m (Some job) table h = h

compaction_compacted : (n : ℕ) (m : State) (o : Option Compaction) (pieces : List Piece) → CompactionSoFar n m → CompactionSoFar n (with_compaction m o pieces)
compaction_compacted n m None pieces h = h
compaction_compacted n m (Some job) pieces h = tt

compaction_effect : (n : ℕ) (m : State) (e : CoreEvent) → CompactionSoFar n m → CompactionSoFar n (effect m n e)
compaction_effect n m (CompactStart i inputs level) h = omega arith
compaction_effect n m CompactDrop h = tt
compaction_effect n m (FlushEnd table) h = compaction_flushed n m m.flush table h
compaction_effect n m (CompactEnd pieces) h = compaction_compacted n m m.compaction pieces h
compaction_effect n m e h = h

halted_flushed : (n : ℕ) (m : State) (o : Option Flush) (table : ℕ) → IsSoFar n m.halted → IsSoFar n (flush_ended m o table).halted
halted_flushed n m None table h = h
halted_flushed n m (Some job) table h = h

halted_compacted : (n : ℕ) (m : State) (o : Option Compaction) (pieces : List Piece) → IsSoFar n m.halted → IsSoFar n (with_compaction m o pieces).halted
halted_compacted n m None pieces h = h
halted_compacted n m (Some job) pieces h = h

first_mark : (n : ℕ) (o : Option ℕ) → IsSoFar n o → unwrap_or o n ≤ n
first_mark n None h = omega arith
first_mark n (Some k) h = h

halted_effect : (n : ℕ) (m : State) (e : CoreEvent) → IsSoFar n m.halted → IsSoFar n (effect m n e).halted
halted_effect n m Halt h = first_mark n m.halted h
halted_effect n m (FlushEnd table) h = halted_flushed n m m.flush table h
halted_effect n m (CompactEnd pieces) h = halted_compacted n m m.compaction pieces h
halted_effect n m e h = h

-- what holds of the store, and of what an accepted event makes of it, holds of the store behind an event
pub store_has : (P : State → Type 0) (c : CoreState) (e : CoreEvent) → P c.store → P (with_live_numbers (effect c.store (c.events + 1) e)) → P (store_behind c e)
store_has P c e old new =
    let Q : Bool → Type 0 = λ b. P (if b then with_live_numbers (effect c.store (c.events + 1) e) else c.store) in
    elim (cases_Bool (is_accepted c e)) [ inl y ↦ subst Q (sym y) new | inr y ↦ subst Q (sym y) old ]

-- what holds of what an accepted event makes of the store holds of the store behind it
pub accepted_has : (P : State → Type 0) (c : CoreState) (e : CoreEvent) → is_accepted c e ≡ true → P (with_live_numbers (effect c.store (c.events + 1) e)) → P (store_behind c e)
accepted_has P c e y new = subst (λ (b : Bool). P (if b then with_live_numbers (effect c.store (c.events + 1) e) else c.store)) (sym y) new

pub numbered_behind : (c : CoreState) (e : CoreEvent) → AreNumbered c → AreNumbered (behind_event c e)
numbered_behind c e h =
    let n : ℕ = c.events + 1 in
    let flush : FlushSoFar n c.store = so_far_next c.events (option_map (λ (job : Flush). job.start) c.store.flush) h.flush in
    let compaction : CompactionSoFar n c.store = so_far_next c.events (option_map (λ (job : Compaction). job.start) c.store.compaction) h.compaction in
    let halted : IsSoFar n c.store.halted = so_far_next c.events c.store.halted h.halted in
    record {
      snaps = snaps_behind (λ (s : Snap). s.event ≤ c.events + 1) c e (All-from (λ (s : Snap). s.event ≤ c.events + 1) c.store.snaps (λ s i. let l = All-In (λ (z : Snap). z.event ≤ c.events) c.store.snaps s h.snaps i in omega (arith, l))) (omega arith);
      snaps_ascend = snaps_ascend_behind c e h.snaps h.snaps_ascend;
      views = views_numbered c e h.views;
      views_ascend = views_ascend c e h.views h.views_ascend;
      flush = store_has (FlushSoFar n) c e flush (flush_effect n c.store e flush);
      compaction = store_has (CompactionSoFar n) c e compaction (compaction_effect n c.store e compaction);
      halted = store_has (λ (m : State). IsSoFar n m.halted) c e halted (halted_effect n c.store e halted);
    }

-- ---- used numbers

pub used_behind : (c : CoreState) (e : CoreEvent) → c.store.used ≡ live_numbers c.store → (store_behind c e).used ≡ live_numbers (store_behind c e)
used_behind c e h = store_has (λ (m : State). m.used ≡ live_numbers m) c e h refl
