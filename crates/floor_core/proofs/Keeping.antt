-- Snapshots and the halt keep their numbers.
use Rattle.std.proofs.Common.{◌≡◌, ℕ, ◌+◌, ◌≤◌, Bool, true, not, cond, List, [], ◌∷◌, ◌++◌, Option, Some, None, refl, sym, ap, subst, ◌∙◌, inl, inr, arith}
use Rattle.std.specs.Prelude.{All, find, ◌==◌, unwrap_or}
use Rattle.std.specs.List.{filter}
use Rattle.std.proofs.lemmas.Bool.{cases_Bool}
use Rattle.std.proofs.lemmas.Bool.Decides.{nat_tests}
use Rattle.udt_model.specs.declared.reply.Piece.{Piece}
use Rattle.udt_model.specs.State.{State, Snap, Flush, Compaction}
use Rattle.udt_model.specs.Steps.{with_compaction}
use Rattle.floor_laws.proofs.Members.{In, All-In}
use Rattle.floor_core.specs.declared.event.CoreEvent.{CoreEvent}
use Rattle.floor_core.specs.declared.event.CoreEvent.TheVariants.{Snap as TakeSnap, Release, FlushEnd, CompactEnd, Halt}
use Rattle.floor_core.specs.Cores.{CoreState}
use Rattle.floor_core.specs.Machine.{behind_event, effect, flush_ended, is_accepted}
use Rattle.floor_core.specs.Steps.{find_snap}
use Rattle.floor_core.specs.Runs.{IsSoundCore, behind_all, keeps_snapshot}
use Rattle.floor_core.proofs.Numbering.{accepted_has, snaps_compacted, snaps_flushed, store_has}
use Rattle.floor_core.proofs.Pins.{equal, find_kept, find_last, not_equal}

-- ---- the halt

halted_flushed : (m : State) (o : Option Flush) (table : ℕ) → (flush_ended m o table).halted ≡ m.halted
halted_flushed m None table = refl
halted_flushed m (Some job) table = refl

halted_compacted : (m : State) (o : Option Compaction) (pieces : List Piece) → (with_compaction m o pieces).halted ≡ m.halted
halted_compacted m None pieces = refl
halted_compacted m (Some job) pieces = refl

halted_effect : (m : State) (number k : ℕ) (e : CoreEvent) → m.halted ≡ Some k → (effect m number e).halted ≡ Some k
halted_effect m number k Halt h = ap (λ (o : Option ℕ). Some (unwrap_or o number)) h
halted_effect m number k (FlushEnd table) h = halted_flushed m m.flush table ∙ h
halted_effect m number k (CompactEnd pieces) h = halted_compacted m m.compaction pieces ∙ h
halted_effect m number k e h = h

halted_stays : (c : CoreState) (es : List CoreEvent) (k : ℕ) → c.store.halted ≡ Some k → (behind_all c es).store.halted ≡ Some k
halted_stays c [] k h = h
halted_stays c (e ∷ es) k h = halted_stays (behind_event c e) es k (store_has (λ (m : State). m.halted ≡ Some k) c e h (halted_effect c.store (c.events + 1) k e h))

pub halts_keep : (c : CoreState) (es : List CoreEvent) → (behind_all (behind_event c Halt) es).store.halted ≡ Some (unwrap_or c.store.halted (c.events + 1))
halts_keep c es = halted_stays (behind_event c Halt) es (unwrap_or c.store.halted (c.events + 1)) refl

-- ---- snapshots

-- what is found is found among those that pass a test, where it passes
found_left : (p q : Snap → Bool) (xs : List Snap) (s : Snap) → ((x : Snap) → p x ≡ true → q x ≡ true) → find p xs ≡ Some s → find p (filter q xs) ≡ Some s
found_left p q [] s passes h = absurd (cc)
found_left p q (x ∷ xs) s passes h =
    let P : Bool → Type 0 = λ b. find p (cond b (x ∷ filter q xs) (filter q xs)) ≡ Some s in
    elim (cases_Bool (p x)) [
      | inl y ↦
          let here : Some x ≡ Some s = sym (ap (λ b. cond b (Some x) (find p xs)) y) ∙ h in
          subst P (sym (passes x y)) (ap (λ b. cond b (Some x) (find p (filter q xs))) y ∙ here)
      | inr n ↦
          let rest : find p (filter q xs) ≡ Some s = found_left p q xs s passes (sym (ap (λ b. cond b (Some x) (find p xs)) n) ∙ h) in
          elim (cases_Bool (q x)) [
            | inl y ↦ subst P (sym y) (ap (λ b. cond b (Some x) (find p (filter q xs))) n ∙ rest)
            | inr m ↦ subst P (sym m) rest
          ]
    ]

other_number : (a k id : ℕ) → not (id == k) ≡ true → (a == k) ≡ true → not (a == id) ≡ true
other_number a k id n e = grind (arith, nat_tests)

snap_effect : (m : State) (number k : ℕ) (s : Snap) (e : CoreEvent) → keeps_snapshot k e ≡ true → find_snap m k ≡ Some s → find_snap (effect m number e) k ≡ Some s
snap_effect m number k s TakeSnap n h = find_kept (λ (z : Snap). z.event == k) m.snaps (record { event = number; seq = m.last } ∷ []) s h
snap_effect m number k s (Release id) n h = found_left (λ (z : Snap). z.event == k) (λ (z : Snap). not (z.event == id)) m.snaps s (λ x e. other_number x.event k id n e) h
snap_effect m number k s (FlushEnd table) n h = ap (find (λ (z : Snap). z.event == k)) (snaps_flushed m m.flush table) ∙ h
snap_effect m number k s (CompactEnd pieces) n h = ap (find (λ (z : Snap). z.event == k)) (snaps_compacted m m.compaction pieces) ∙ h
snap_effect m number k s e n h = h

snap_stays : (c : CoreState) (es : List CoreEvent) (k : ℕ) (s : Snap) → ((e : CoreEvent) → In e es → keeps_snapshot k e ≡ true) → find_snap c.store k ≡ Some s → find_snap (behind_all c es).store k ≡ Some s
snap_stays c [] k s n h = h
snap_stays c (e ∷ es) k s n h =
    snap_stays (behind_event c e) es k s (λ x i. n x (inr i)) (store_has (λ (m : State). find_snap m k ≡ Some s) c e h (snap_effect c.store (c.events + 1) k s e (n e (inl refl)) h))

abbrev snap_now : CoreState → Snap
snap_now c = record { event = c.events + 1; seq = c.store.last }

snap_made : (c : CoreState) → IsSoundCore c → is_accepted c TakeSnap ≡ true → find_snap (behind_event c TakeSnap).store (c.events + 1) ≡ Some (snap_now c)
snap_made c h y =
    let p : Snap → Bool = λ z. z.event == (c.events + 1) in
    let found : find p (c.store.snaps ++ snap_now c ∷ []) ≡ Some (snap_now c) =
    find_last p c.store.snaps (snap_now c) (λ x i. not_equal x.event c.events (All-In (λ (z : Snap). z.event ≤ c.events) c.store.snaps x h.numbers.snaps i)) (equal (c.events + 1)) in
    accepted_has (λ (m : State). find_snap m (c.events + 1) ≡ Some (snap_now c)) c TakeSnap y found

pub snapshots_keep : (c : CoreState) (es : List CoreEvent) → IsSoundCore c → is_accepted c TakeSnap ≡ true → All (λ (e : CoreEvent). keeps_snapshot (c.events + 1) e ≡ true) es
    → find_snap (behind_all (behind_event c TakeSnap) es).store (c.events + 1) ≡ Some (snap_now c)
snapshots_keep c es h y n = snap_stays (behind_event c TakeSnap) es (c.events + 1) (snap_now c) (λ e j. All-In (λ (x : CoreEvent). keeps_snapshot (c.events + 1) x ≡ true) es e n j) (snap_made c h y)
