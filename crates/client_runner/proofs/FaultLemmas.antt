-- A history in which no disk failed tells no fault.
use Rattle.std.proofs.Common.{◌∙◌, ◌≡◌, ℕ, ◌+◌, Bool, true, false, List, [], ◌∷◌, ◌++◌, Option, Some, None, refl, sym, ap, subst, inl, inr}
use Rattle.std.specs.Prelude.{All, option_map, nat_lt, if◌then◌else◌, length}
use Rattle.std.specs.List.{list_any}
use Rattle.std.proofs.lemmas.List.Elements.{All-head, All-tail}
use Rattle.ts_key.specs.declared.limits.TheConstants.{SEQUENCE_LIMIT}
use Rattle.ts_key.specs.declared.numbers.Ts.{Ts}
use Rattle.ts_key.specs.declared.version.Version.{Version}
use Rattle.udt_model.specs.declared.event.NamedOp.{NamedOp}
use Rattle.udt_model.specs.declared.event.Event.{Event}
use Rattle.udt_model.specs.declared.event.Event.TheVariants as events
use Rattle.udt_model.specs.declared.line.Line.{Line}
use Rattle.udt_model.specs.declared.place.Place.{Place}
use Rattle.udt_model.specs.declared.read.Answer.TheVariants as answers
use Rattle.udt_model.specs.declared.read.ModelRead.{ModelRead}
use Rattle.udt_model.specs.declared.read.ModelRead.TheVariants as reads
use Rattle.udt_model.specs.declared.reply.Reply.{Reply}
use Rattle.udt_model.specs.declared.reply.Reply.TheVariants.{Fault, Halted, OkAt}
use Rattle.udt_model.specs.State.{State}
use Rattle.solo_runner.specs.Named.{accepted_unless, reply_of_write, done_unless, full_for_ops, place_of, refusal_of_op, refusal_of_ops, reply_of_solo_sync, unknown_in_ops, family_of_op, version_of_op}
use Rattle.udt_model.specs.Refusals.{fell, halt, unknown_place, ◌or_else◌}
use Rattle.udt_model.specs.Steps.{got, reply_of_read}
use Rattle.solo_runner.specs.Named.{IsReplyByName, IsToldByName, after_by_name}
use Rattle.udt_model.specs.Lines.{says_fault}
use Rattle.udt_model.specs.Versions.{newest_of, of_key}
use Rattle.udt_model.specs.Histories.{Point, IsSound, Leads, behind}
use Rattle.client_lang.specs.Print.{IsBuilt, IsBuiltLine}
use Rattle.solo_runner.proofs.Naming.{after_agrees, reply_agrees_back}
use Rattle.client_runner.specs.Left.{tells_fault}

-- a refusal that isn't that of a halted store
abbrev IsCalm : Option Reply → Type 0
IsCalm None = Unit {0}
IsCalm (Some reply) = tells_fault reply ≡ false

or_calm : (a b : Option Reply) → IsCalm a → IsCalm b → IsCalm (a or_else b)
or_calm None b p q = q
or_calm (Some r) b p q = p

unknown_calm : (m : State) (os : List NamedOp) → IsCalm (unknown_in_ops m os)
unknown_calm m [] = tt
unknown_calm m (o ∷ os) = or_calm (unknown_place (place_of m o.family)) (unknown_in_ops m os) (place_calm (place_of m o.family)) (unknown_calm m os) where
  place_calm : (p : Option Place) → IsCalm (unknown_place p)
  place_calm None = refl
  place_calm (Some p) = tt

if_calm : (b : Bool) (x y : Option Reply) → IsCalm x → IsCalm y → IsCalm (if b then x else y)
if_calm true x y p q = p
if_calm false x y p q = q

fell_calm : (k : ℕ) (ts : Ts) (v : Option Version) → IsCalm (fell k ts v)
fell_calm k ts None = tt
fell_calm k ts (Some v) = if_calm (nat_lt ts.0 v.ts.0) _ _ refl tt

refusal_calm : (w : List Version) (k : ℕ) (p : Option Place) (o : NamedOp) → IsCalm (refusal_of_op w k p o)
refusal_calm w k None o = refl
refusal_calm w k (Some p) o = if_calm (nat_lt o.ts.0 p.floor.0) _ _ refl (fell_calm k o.ts (newest_of (of_key w p.family o.key)))

refused_calm : (m : State) (w : List Version) (n k : ℕ) (os : List NamedOp) → IsCalm (refusal_of_ops m w n k os)
refused_calm m w n k [] = tt
refused_calm m w n k (o ∷ os) = or_calm (refusal_of_op w k (place_of m o.family) o) _ (refusal_calm w k (place_of m o.family) o) (refused_calm m (w ++ version_of_op (family_of_op m o) o (n + 1) ∷ []) (n + 1) (k + 1) os)

halt_calm : (m : State) → m.halted ≡ None → IsCalm (halt m)
halt_calm m e = subst (λ (h : Option ℕ). IsCalm (option_map Halted h)) (sym e) tt

full_calm : (m : State) (os : List NamedOp) → IsCalm (full_for_ops m os)
full_calm m os = if_calm (nat_lt SEQUENCE_LIMIT (m.last.0 + length os)) _ _ refl tt

accepted_calm : (n : ℕ) (r : Option Reply) → IsCalm r → tells_fault (accepted_unless n r) ≡ false
accepted_calm n None h = refl
accepted_calm n (Some r) h = h

admitted_calm : (m : State) (os : List NamedOp) → m.halted ≡ None → tells_fault (reply_of_write m os) ≡ false
admitted_calm m os e =
    let works : Option Reply = unknown_in_ops m os or_else halt m in
    let fits : Option Reply = works or_else refusal_of_ops m m.versions m.last.0 1 os in
    accepted_calm (m.last.0 + length os) (fits or_else full_for_ops m os)
    (or_calm fits (full_for_ops m os) (or_calm works (refusal_of_ops m m.versions m.last.0 1 os) (or_calm (unknown_in_ops m os) (halt m) (unknown_calm m os) (halt_calm m e)) (refused_calm m m.versions m.last.0 1 os)) (full_calm m os))

read_calm : (r : ModelRead) → tells_fault (reply_of_read r) ≡ false
read_calm (reads.Collapsed floor) = refl
read_calm (reads.Told answers.Absent) = refl
read_calm (reads.Told (answers.Found value stamp)) = refl

got_calm : (m : State) (p : Option Place) (key : List ℕ) (t : Ts) → tells_fault (got m p key t m.last) ≡ false
got_calm m None key t = refl
got_calm m (Some p) key t = read_calm _

synced_calm : (m : State) → m.halted ≡ None → tells_fault (reply_of_solo_sync m) ≡ false
synced_calm m e = subst (λ (h : Option ℕ). tells_fault (done_unless (option_map Halted h)) ≡ false) (sym e) refl

told_calm : (m : State) (event : Event) (reply : Reply) → m.halted ≡ None → IsToldByName m event reply → tells_fault reply ≡ false
told_calm m (events.Write ops sync) reply e h = rw h (admitted_calm m ops e)
told_calm m (events.Get family key t None) reply e h = rw h (got_calm m (place_of m family) key t)
told_calm m (events.Get family key t (Some snap)) reply e h = absurd h
told_calm m events.Sync reply e h = rw h (synced_calm m e)
told_calm m event reply e h = absurd h

-- the reply tells no fault where none came before and none comes now
sound_calm : (m : State) (event : Event) (reply : Reply) → m.halted ≡ None → IsReplyByName m event reply → says_fault reply ≡ false → tells_fault reply ≡ false
sound_calm m event reply e (inl told) sound = told_calm m event reply e told
sound_calm m event reply e (inr (inl want)) sound = rw want.0 refl
sound_calm m (events.Write ops sync) reply e (inr (inr fault)) sound = absurd (cc (ap says_fault fault.0))
sound_calm m events.Sync reply e (inr (inr fault)) sound = absurd (cc (ap says_fault fault.0))
sound_calm m event reply e (inr (inr fault)) sound = absurd fault

after_works : (m : State) (number : ℕ) (event : Event) (reply : Reply) → m.halted ≡ None → says_fault reply ≡ false → (after_by_name m number event reply).halted ≡ None
after_works m number (events.Write ops sync) (OkAt last) e sound = e
after_works m number event Fault e sound = absurd (cc sound)
after_works m number event reply e sound = e

pub none_told : (p end : Point) (lines : List Line) → p.height ≡ 0 → All IsBuiltLine lines → p.state.halted ≡ None → Leads p lines end → All IsSound lines → list_any (λ l. tells_fault l.reply) lines ≡ false
none_told p end [] low built e h sound = refl
none_told p end (l ∷ lines) low built e h sound =
    let here : says_fault l.reply ≡ false = All-head IsSound l lines sound in
    let event : IsBuilt l.event = (All-head IsBuiltLine l lines built).event in
    let calm : tells_fault l.reply ≡ false = sound_calm p.state l.event l.reply e (reply_agrees_back p.height p.state (p.names l.who) l.event l.reply low event h.0.reply) here in
    let works : (behind p l).state.halted ≡ None =
    ap (λ (s : State). s.halted) (after_agrees p.state (p.names l.who) (p.number + 1) l.event l.reply event) ∙ after_works p.state (p.number + 1) l.event l.reply e here in
    rw calm (none_told (behind p l) end lines low (All-tail IsBuiltLine l lines built) works h.1 (All-tail IsSound l lines sound))
