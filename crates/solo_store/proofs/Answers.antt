-- What a store answers, and the model's replies.
use Rattle.std.proofs.Common.{◌≡◌, ℕ, List, refl, sym, ap, ◌∙◌, inl, inr, Option, Some, None}
use Rattle.std.specs.Prelude.{slice_get}
use Rattle.ts_key.specs.declared.numbers.Family.{Family}
use Rattle.ts_key.specs.declared.numbers.Seq.{Seq}
use Rattle.ts_key.specs.declared.numbers.Ts.{Ts}
use Rattle.udt_model.specs.declared.reply.Reply.{Reply}
use Rattle.udt_model.specs.declared.reply.Reply.TheVariants as replies
use Rattle.udt_model.specs.Acts.Act.{ask_floor, get, raise, sync_all}
use Rattle.udt_model.specs.Reads.{read}
use Rattle.udt_model.specs.Refusals.{floor_fell, halt, unknown_family, ◌or_else◌, ◌otherwise◌}
use Rattle.udt_model.specs.State.{State, family_at, place_at}
use Rattle.udt_model.specs.State.{FamilyState as ModelFamily}
use Rattle.udt_model.specs.Steps.{IsReplyTo, got, reply_of_read}
use Rattle.floor_laws.specs.Sound.{IsSoundState}
use Rattle.super_version.specs.Contents.{versions_in}
use Rattle.super_version.specs.declared.family.FamilyState.{FamilyState}
use Rattle.super_version.specs.declared.version.SuperVersion.{SuperVersion}
use Rattle.store_engine.specs.Now.{IsNow}
use Rattle.store_engine.proofs.Admitting.{both}
use Rattle.solo_store.specs.Replies.{halted_told}
use Rattle.solo_store.proofs.Shown.{read_shown}

-- the super version has a family exactly where the state has it
pub data FamilyIs (m : State) (now : SuperVersion) (i : Family) : Type 0 where
  absent : slice_get now.families i.0 ≡ None → family_at m i ≡ None → FamilyIs m now i
  present : (g : FamilyState) (f : ModelFamily) → slice_get now.families i.0 ≡ Some g → family_at m i ≡ Some f → FamilyIs m now i

pub family_is : (m : State) (now : SuperVersion) (i : Family) → IsNow now m → FamilyIs m now i
family_is m now i shows = elim (both now.families m.families i.0 shows.count) [
  | inl none ↦ absent none.0 none.1
  | inr some ↦ let more = some.1 in present some.0 more.0 more.1.0 more.1.1
]

none_some : {X : Type 0} (x : X) → None ≡ Some x → ⊥
none_some x e = absurd (cc)

-- a family that the one has, the other has
pub record Stands (m : State) (i : Family) : Type 0 where
  pub family : ModelFamily
  pub at : family_at m i ≡ Some family

pub there : (m : State) (now : SuperVersion) (i : Family) (g : FamilyState) → IsNow now m → slice_get now.families i.0 ≡ Some g → Stands m i
there m now i g shows at = elim (family_is m now i shows) [
  | absent a b ↦ absurd (none_some g (sym a ∙ at))
  | present h f a b ↦ record { family = f; at = b }
]

pub not_there : (m : State) (now : SuperVersion) (i : Family) → IsNow now m → slice_get now.families i.0 ≡ None → family_at m i ≡ None
not_there m now i shows none = elim (family_is m now i shows) [
  | absent a b ↦ b
  | present h f a b ↦ absurd (none_some h (sym none ∙ a))
]

-- ---- where the store is halted

halted_place : (m : State) (now : SuperVersion) (i : Family) (since : ℕ) (rest : Option Reply) (answer : Reply) → IsNow now m → m.halted ≡ Some since
    → halted_told (slice_get now.families i.0) since ≡ ((unknown_family m i or_else halt m) or_else rest otherwise answer)
halted_place m now i since rest answer shows halted = elim (family_is m now i shows) [
  | absent a b ↦ rw (a, b) refl
  | present g f a b ↦ rw (a, b, halted) refl
]

pub raise_halted : (m : State) (now : SuperVersion) (i : Family) (floor : Ts) (since : ℕ) → IsNow now m → m.halted ≡ Some since → IsReplyTo m (raise i floor) (halted_told (slice_get now.families i.0) since)
raise_halted m now i floor since shows halted = record { running = refl; is = inl (halted_place m now i since (floor_fell floor (place_at m i)) replies.Done shows halted) }

pub sync_halted : (m : State) (since : ℕ) → m.halted ≡ Some since → IsReplyTo m sync_all (replies.Halted since)
sync_halted m since halted = record { running = refl; is = inl (rw halted refl) }

-- ---- floors

pub floor_unknown : (m : State) (now : SuperVersion) (i : Family) → IsNow now m → slice_get now.families i.0 ≡ None → IsReplyTo m (ask_floor i) replies.Unknown
floor_unknown m now i shows none = let gone = not_there m now i shows none in record { running = refl; is = inl (rw gone refl) }

pub floor_told : (m : State) (now : SuperVersion) (i : Family) (g : FamilyState) → IsNow now m → slice_get now.families i.0 ≡ Some g → IsReplyTo m (ask_floor i) (replies.Floor g.floor)
floor_told m now i g shows at =
    let f = there m now i g shows at in
    let stands = f.at in
    let same = (shows.families i f.family g stands at).floor in
    record { running = refl; is = inl (rw stands (ap replies.Floor same)) }

-- ---- reads

pub get_unknown : (m : State) (now : SuperVersion) (i : Family) (key : List ℕ) (t : Ts) → IsNow now m → slice_get now.families i.0 ≡ None → IsReplyTo m (get i key t None) replies.Unknown
get_unknown m now i key t shows none = let gone = not_there m now i shows none in record { running = refl; is = inl (rw gone refl) }

pub get_told : (m : State) (now : SuperVersion) (i : Family) (g : FamilyState) (key : List ℕ) (t : Ts) → IsNow now m → IsSoundState m → slice_get now.families i.0 ≡ Some g
    → IsReplyTo m (get i key t None) (reply_of_read (read (versions_in i g) g.floor i key t now.last))
get_told m now i g key t shows sound at =
    let f = there m now i g shows at in
    let stands = f.at in
    let same = read_shown m i f.family g (shows.families i f.family g stands at) sound stands key t in
    let seen : read (versions_in i g) g.floor i key t now.last ≡ read (versions_in i g) g.floor i key t m.last = ap (λ (s : Seq). read (versions_in i g) g.floor i key t s) shows.last in
    let told : reply_of_read (read (versions_in i g) g.floor i key t now.last) ≡ got m (place_at m i) key t m.last = ap reply_of_read (seen ∙ same) ∙ sym (rw stands refl) in
    record { running = refl; is = inl told }
