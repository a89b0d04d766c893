-- Refused events.
use Rattle.std.proofs.Common.{◌≡◌, ℕ, ◌+◌, true, false, List, [], ◌∷◌, length, Option, Some, None, sym, ap, ◌∙◌, arith}
use Rattle.std.specs.Prelude.{is_some, if◌then◌else◌, slice_get}
use Rattle.std.proofs.lemmas.Bool.{and_parts}
use Rattle.ts_key.specs.declared.numbers.Family.{Family}
use Rattle.ts_key.specs.declared.numbers.Ts.{Ts}
use Rattle.ts_key.specs.declared.numbers.Seq.{Seq}
use Rattle.udt_model.specs.State.{State, FamilyState, family_at, sight}
use Rattle.floor_core.specs.declared.event.CoreEvent.{CoreEvent}
use Rattle.floor_core.specs.declared.event.CoreEvent.TheVariants.{Write, Get, Pin, PinnedGet}
use Rattle.floor_core.specs.declared.event.CoreReply.TheVariants as replies
use Rattle.floor_core.specs.Cores.{CoreState, PinnedFamily, PinnedView, with_live_numbers}
use Rattle.floor_core.specs.Machine.{answer_to, behind_event, has_family, is_accepted, has_snapshot, effect, pin_of, read_kept, read_lists, read_pin, sight_from, told}
use Rattle.floor_core.specs.Runs.{behind_all}

reads_lists : (m : State) (i : Family) (o : Option FamilyState) (key : List ℕ) (t : Ts) (s : Seq) → is_some o ≡ true → read_lists m i o key t s ≡ replies.Refused → ⊥
reads_lists m i None key t s e h = cc
reads_lists m i (Some f) key t s e h = cc

reads_kept : (i : Family) (o : Option PinnedFamily) (key : List ℕ) (t : Ts) (s : Seq) → is_some o ≡ true → read_kept i o key t s ≡ replies.Refused → ⊥
reads_kept i None key t s e h = cc
reads_kept i (Some f) key t s e h = cc

reads_pin : (m : State) (o : Option PinnedView) (i : Family) (key : List ℕ) (t : Ts) (snap : Option ℕ) → has_family o i ≡ true → read_pin m o i key t snap ≡ replies.Refused → ⊥
reads_pin m None i key t snap e h = cc
reads_pin m (Some v) i key t snap e h = reads_kept i (slice_get v.families i.0) key t (sight_from m v.last snap) e h

answers : (c : CoreState) (e : CoreEvent) → is_accepted c e ≡ true → answer_to c e ≡ replies.Refused → ⊥
answers c (Get i key t snap) y h = reads_lists c.store i (family_at c.store i) key t (sight c.store snap) (and_parts (is_some (family_at c.store i)) (has_snapshot c.store snap) y).0 h
answers c (PinnedGet pin i key t snap) y h = reads_pin c.store (pin_of c pin) i key t snap (and_parts (has_family (pin_of c pin) i) (has_snapshot c.store snap) y).0 h
answers c (Write batch) y h = cc
answers c e y h = cc

pub refuses_exactly : (c : CoreState) (e : CoreEvent) → (is_accepted c e ≡ false → told c e ≡ replies.Refused) × (is_accepted c e ≡ true → told c e ≡ replies.Refused → ⊥)
refuses_exactly c e = (
  λ n. ap (λ b. if b then answer_to c e else replies.Refused) n,
  λ y h. answers c e y (sym (ap (λ b. if b then answer_to c e else replies.Refused) y) ∙ h),
)

store_stays : (c : CoreState) (e : CoreEvent) → is_accepted c e ≡ false → (if is_accepted c e then with_live_numbers (effect c.store (c.events + 1) e) else c.store) ≡ c.store
store_stays c e n = ap (λ b. if b then with_live_numbers (effect c.store (c.events + 1) e) else c.store) n

pub refused_changes_nothing : (c : CoreState) (e : CoreEvent) → is_accepted c e ≡ false → behind_event c e ≡ record c { events = c.events + 1 }
refused_changes_nothing c Pin n = absurd (cc)
refused_changes_nothing c e n = ap (λ (z : State). record c { store = z; events = c.events + 1 }) (store_stays c e n)

pub counts_events : (c : CoreState) (es : List CoreEvent) → (behind_all c es).events ≡ c.events + length es
counts_events c [] = omega arith
counts_events c (e ∷ es) = let r = counts_events (behind_event c e) es in omega (arith, r)
