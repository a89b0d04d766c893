-- What is asked by name is what is asked by number.
use Rattle.std.proofs.Common.{arith, ◌≡◌, ℕ, ◌+◌, ◌-◌, ◌^◌, Bool, true, false, IsTrue, List, [], ◌∷◌, ◌++◌, length, map, Option, Some, None, refl, sym, ap, ◌∙◌, subst, inl, inr, ⊎_elim}
use Rattle.std.proofs.lemmas.List.{length-map}
use Rattle.std.proofs.lemmas.Option.{none-some}
use Rattle.std.specs.Prelude.{option_map, nat_lt, if◌then◌else◌, All}
use Rattle.std.proofs.lemmas.List.Elements.{All-head, All-tail}
use Rattle.ts_key.specs.declared.limits.TheConstants.{SEQUENCE_LIMIT}
use Rattle.ts_key.specs.declared.batch.WriteOp.{WriteOp}
use Rattle.ts_key.specs.declared.numbers.Ts.{Ts}
use Rattle.ts_key.specs.declared.version.Version.{Version}
use Rattle.udt_model.specs.declared.event.NamedOp.{NamedOp}
use Rattle.udt_model.specs.declared.event.Event.{Event}
use Rattle.udt_model.specs.declared.event.Event.TheVariants.{Write, Get, Sync}
use Rattle.udt_model.specs.declared.line.FamilyHead.{FamilyHead}
use Rattle.udt_model.specs.declared.line.Line.{Line}
use Rattle.udt_model.specs.declared.line.Who.{Who}
use Rattle.udt_model.specs.declared.line.Who.TheVariants.{Client, Flusher, Compactor, Runner}
use Rattle.udt_model.specs.declared.place.Place.{Place}
use Rattle.udt_model.specs.declared.reply.Reply.{Reply}
use Rattle.udt_model.specs.declared.reply.Reply.TheVariants.{OkAt, Below, Fell, Full, Halted, Fault, Done}
use Rattle.udt_model.specs.Versions.{newest_of, of_key}
use Rattle.udt_model.specs.Versions as versions
use Rattle.udt_model.specs.State.{State, place_at, family_of as family_named, heads_of}
use Rattle.udt_model.specs.Acts.Act.{write}
use Rattle.udt_model.specs.Refusals as refusals
use Rattle.udt_model.specs.Refusals.{◌or_else◌, ◌otherwise◌, unknown_place, fell, halt}
use Rattle.udt_model.specs.Steps as steps
use Rattle.udt_model.specs.Lines as lines
use Rattle.udt_model.specs.Names.{Names, act_of, no_names, op_of}
use Rattle.udt_model.specs.Histories.{is_named}
use Rattle.udt_model.proofs.Laws.{place_of_name}
use Rattle.client_lang.specs.Print.{IsBuilt, IsBuiltLine}
use Rattle.solo_runner.specs.Expand.{held_after, held_behind}
use Rattle.solo_runner.specs.Named as named

abbrev pub ops_of : State → List NamedOp → List WriteOp
ops_of m os = map (op_of (heads_of m)) os

same_place : (m : State) (name : List ℕ) → place_at m (family_named (heads_of m) name) ≡ named.place_of m name
same_place m name = place_of_name m name

same_or : (a b c d : Option Reply) → a ≡ b → c ≡ d → (a or_else c) ≡ (b or_else d)
same_or a b c d p q = rw (p, q) refl

same_unknown : (m : State) (os : List NamedOp) → refusals.unknown m (ops_of m os) ≡ named.unknown_in_ops m os
same_unknown m [] = refl
same_unknown m (o ∷ os) =
    same_or (unknown_place (place_at m (family_named (heads_of m) o.family))) (unknown_place (named.place_of m o.family)) (refusals.unknown m (ops_of m os)) (named.unknown_in_ops m os)
    (ap unknown_place (same_place m o.family)) (same_unknown m os)

same_op : (w : List Version) (k : ℕ) (p : Option Place) (heads : List FamilyHead) (o : NamedOp) → refusals.op_refusal w k p (op_of heads o) ≡ named.refusal_of_op w k p o
same_op w k None heads o = refl
same_op w k (Some p) heads o = refl

same_refused : (m : State) (os : List NamedOp) (w : List Version) (n k : ℕ) → refusals.refused m w n k (ops_of m os) ≡ named.refusal_of_ops m w n k os
same_refused m [] w n k = refl
same_refused m (o ∷ os) w n k =
    same_or (refusals.op_refusal w k (place_at m (family_named (heads_of m) o.family)) (op_of (heads_of m) o)) (named.refusal_of_op w k (named.place_of m o.family) o) _ _
    (ap (λ (p : Option Place). refusals.op_refusal w k p (op_of (heads_of m) o)) (same_place m o.family) ∙ same_op w k (named.place_of m o.family) (heads_of m) o)
    (same_refused m os (w ++ named.version_of_op (named.family_of_op m o) o (n + 1) ∷ []) (n + 1) (k + 1))

same_full : (m : State) (os : List NamedOp) → refusals.full m (ops_of m os) ≡ named.full_for_ops m os
same_full m os = ap (λ (k : ℕ). if nat_lt SEQUENCE_LIMIT (m.last.0 + k) then Some (Full m.last) else None) (length-map os (op_of (heads_of m)))

-- the refusal of a write
abbrev pub named_refusal : State → List NamedOp → Option Reply
named_refusal m os = ((named.unknown_in_ops m os or_else halt m) or_else named.refusal_of_ops m m.versions m.last.0 1 os) or_else named.full_for_ops m os

pub same_refusal : (m : State) (os : List NamedOp) (sync : Bool) → refusals.refusal m (write (ops_of m os) sync) ≡ named_refusal m os
same_refusal m os sync =
    same_or _ ((named.unknown_in_ops m os or_else halt m) or_else named.refusal_of_ops m m.versions m.last.0 1 os) _ (named.full_for_ops m os)
    (same_or _ (named.unknown_in_ops m os or_else halt m) _ (named.refusal_of_ops m m.versions m.last.0 1 os) (same_or _ (named.unknown_in_ops m os) _ (halt m) (same_unknown m os) refl) (same_refused m os m.versions m.last.0 1))
    (same_full m os)

same_unless : (a b : Option Reply) (k n : ℕ) → a ≡ b → k ≡ n → (a otherwise OkAt k) ≡ named.accepted_unless n b
same_unless None b k n e same = ap OkAt same ∙ ap (named.accepted_unless n) e
same_unless (Some r) b k n e same = ap (named.accepted_unless n) e

-- the reply to a write is the same
pub same_admitted : (m : State) (os : List NamedOp) → steps.admitted m (ops_of m os) ≡ named.reply_of_write m os
same_admitted m os = same_unless (refusals.refusal m (write (ops_of m os) false)) (named_refusal m os) (m.last.0 + length (ops_of m os)) (m.last.0 + length os) (same_refusal m os false) (ap (λ (k : ℕ). m.last.0 + k) (length-map os (op_of (heads_of m))))

-- and so are its versions
pub same_made : (m : State) (os : List NamedOp) (n : ℕ) → versions.made n (ops_of m os) ≡ named.versions_made m n os
same_made m [] n = refl
same_made m (o ∷ os) n = ap (λ (vs : List Version). named.version_of_op (named.family_of_op m o) o (n + 1) ∷ vs) (same_made m os (n + 1))

-- ---- no refusal is an ok

abbrev IsNoOk : Option Reply → Type 0
IsNoOk (Some (OkAt n)) = ⊥
IsNoOk r = Unit {0}

no_ok_or : (a b : Option Reply) → IsNoOk a → IsNoOk b → IsNoOk (a or_else b)
no_ok_or None b p q = q
no_ok_or (Some r) b p q = p

no_ok_place : (p : Option Place) → IsNoOk (unknown_place p)
no_ok_place None = tt
no_ok_place (Some p) = tt

no_ok_unknown : (m : State) (os : List NamedOp) → IsNoOk (named.unknown_in_ops m os)
no_ok_unknown m [] = tt
no_ok_unknown m (o ∷ os) = no_ok_or (unknown_place (named.place_of m o.family)) (named.unknown_in_ops m os) (no_ok_place (named.place_of m o.family)) (no_ok_unknown m os)

no_ok_halt : (h : Option ℕ) → IsNoOk (option_map Halted h)
no_ok_halt None = tt
no_ok_halt (Some n) = tt

no_ok_if : (b : Bool) (x y : Option Reply) → IsNoOk x → IsNoOk y → IsNoOk (if b then x else y)
no_ok_if true x y p q = p
no_ok_if false x y p q = q

no_ok_fell : (k : ℕ) (ts : Ts) (v : Option Version) → IsNoOk (fell k ts v)
no_ok_fell k ts None = tt
no_ok_fell k ts (Some v) = no_ok_if (nat_lt ts.0 v.ts.0) (Some (Fell k v.ts)) None tt tt

no_ok_op : (w : List Version) (k : ℕ) (p : Option Place) (o : NamedOp) → IsNoOk (named.refusal_of_op w k p o)
no_ok_op w k None o = tt
no_ok_op w k (Some p) o = no_ok_if (nat_lt o.ts.0 p.floor.0) (Some (Below k p.floor)) (fell k o.ts (newest_of (of_key w p.family o.key))) tt (no_ok_fell k o.ts (newest_of (of_key w p.family o.key)))

no_ok_refused : (m : State) (os : List NamedOp) (w : List Version) (n k : ℕ) → IsNoOk (named.refusal_of_ops m w n k os)
no_ok_refused m [] w n k = tt
no_ok_refused m (o ∷ os) w n k = no_ok_or (named.refusal_of_op w k (named.place_of m o.family) o) _ (no_ok_op w k (named.place_of m o.family) o) (no_ok_refused m os (w ++ named.version_of_op (named.family_of_op m o) o (n + 1) ∷ []) (n + 1) (k + 1))

no_ok : (m : State) (os : List NamedOp) → IsNoOk (named_refusal m os)
no_ok m os =
    no_ok_or ((named.unknown_in_ops m os or_else halt m) or_else named.refusal_of_ops m m.versions m.last.0 1 os) (named.full_for_ops m os)
    (no_ok_or (named.unknown_in_ops m os or_else halt m) (named.refusal_of_ops m m.versions m.last.0 1 os) (no_ok_or (named.unknown_in_ops m os) (halt m) (no_ok_unknown m os) (no_ok_halt m.halted)) (no_ok_refused m os m.versions m.last.0 1))
    (no_ok_if (nat_lt SEQUENCE_LIMIT (m.last.0 + length os)) (Some (Full m.last)) None tt tt)

taken_is : (r : Option Reply) (n : ℕ) → IsNoOk r → named.accepted_unless n r ≡ OkAt n → r ≡ None
taken_is None n right e = refl
taken_is (Some r) n right e = absurd (subst (λ (x : Reply). IsNoOk (Some x)) e right)

-- ---- replies

same_done : (h : Option ℕ) → (option_map Halted h otherwise Done) ≡ named.done_unless (option_map Halted h)
same_done None = refl
same_done (Some n) = refl

none_halt : (h : Option ℕ) → option_map Halted h ≡ None → h ≡ None
none_halt None e = refl
none_halt (Some n) e = absurd (none-some (Halted n) (sym e))

-- what is legal by name is legal, whatever names are in use
pub reply_agrees : (m : State) (names : Names) (event : Event) (reply : Reply) → IsBuilt event → named.IsReplyByName m event reply → lines.IsReply 0 m names event reply
reply_agrees m names (Write os sync) reply built (inl told) = inl (record { running = refl; is = inl (told ∙ sym (same_admitted m os)) })
reply_agrees m names (Write os sync) reply built (inr (inl want)) = inr (refl, inl want)
reply_agrees m names (Write os sync) reply built (inr (inr fault)) =
    inl (record { running = refl; is = inr (inl (fault.0, refl, same_refusal m os sync ∙ taken_is (named_refusal m os) (m.last.0 + length os) (no_ok m os) fault.1)) })
reply_agrees m names (Get family key t None) reply built (inl told) = inl (record { running = refl; is = inl (told ∙ ap (λ (p : Option Place). steps.got m p key t m.last) (sym (same_place m family))) })
reply_agrees m names (Get family key t None) reply built (inr (inl want)) = inr (refl, inl want)
reply_agrees m names (Get family key t None) reply built (inr (inr fault)) = absurd fault
reply_agrees m names Sync reply built (inl told) = inl (record { running = refl; is = inl (told ∙ sym (same_done m.halted)) })
reply_agrees m names Sync reply built (inr (inl want)) = inr (refl, inl want)
reply_agrees m names Sync reply built (inr (inr fault)) = inl (record { running = refl; is = inr (inl (fault.0, refl, ap (option_map Halted) fault.1)) })
reply_agrees m names event reply built it = absurd built

-- and the other way round, in a history that isn't too long
pub reply_agrees_back : (height : ℕ) (m : State) (names : Names) (event : Event) (reply : Reply) → height ≡ 0 → IsBuilt event → lines.IsReply height m names event reply → named.IsReplyByName m event reply
reply_agrees_back height m names (Write os sync) reply low built (inl it) = ⊎_elim (λ told. inl (told ∙ same_admitted m os))
    (λ rest. ⊎_elim (λ fault. inr (inr (fault.0, ap (named.accepted_unless (m.last.0 + length os)) (sym (same_refusal m os sync) ∙ fault.2)))) (λ none. absurd none) rest) it.is
reply_agrees_back height m names (Write os sync) reply low built (inr free) = ⊎_elim (λ want. inr (inl want)) (λ long. absurd (omega (arith, long.2, low))) free.1
reply_agrees_back height m names (Get family key t None) reply low built (inl it) = ⊎_elim (λ told. inl (told ∙ ap (λ (p : Option Place). steps.got m p key t m.last) (same_place m family)))
    (λ rest. ⊎_elim (λ fault. absurd (cc fault.1)) (λ none. absurd none) rest) it.is
reply_agrees_back height m names (Get family key t None) reply low built (inr free) = ⊎_elim (λ want. inr (inl want)) (λ long. absurd (omega (arith, long.2, low))) free.1
reply_agrees_back height m names Sync reply low built (inl it) = ⊎_elim (λ told. inl (told ∙ same_done m.halted))
    (λ rest. ⊎_elim (λ fault. inr (inr (fault.0, none_halt m.halted fault.2))) (λ none. absurd none) rest) it.is
reply_agrees_back height m names Sync reply low built (inr free) = ⊎_elim (λ want. inr (inl want)) (λ long. absurd (omega (arith, long.2, low))) free.1
reply_agrees_back height m names event reply low built it = absurd built

-- what a write that is taken leaves
write_leaves : (m : State) (names : Names) (number last : ℕ) (os : List NamedOp) (sync : Bool) → lines.after_event m number names (Write os sync) (OkAt last) ≡ named.after_by_name m number (Write os sync) (OkAt last)
write_leaves m names number last os sync = ap (λ (vs : List Version). let n : State = record m { versions = m.versions ++ vs; last = record { 0 = last } } in n) (same_made m os m.last.0)

pub after_agrees : (m : State) (names : Names) (number : ℕ) (event : Event) (reply : Reply) → IsBuilt event → lines.after_event m number names event reply ≡ named.after_by_name m number event reply
after_agrees m names number (Write os sync) (OkAt last) built = write_leaves m names number last os sync
after_agrees m names number (Write os sync) reply built = refl
after_agrees m names number (Get family key t None) Fault built = refl
after_agrees m names number (Get family key t None) reply built = refl
after_agrees m names number Sync Fault built = refl
after_agrees m names number Sync reply built = refl
after_agrees m names number event reply built = absurd built

pub act_agrees : (heads : List FamilyHead) (names : Names) (event : Event) → IsBuilt event → act_of heads names event ≡ act_of heads no_names event
act_agrees heads names (Write os sync) built = refl
act_agrees heads names (Get family key t None) built = refl
act_agrees heads names Sync built = refl
act_agrees heads names event built = absurd built

named_when : (who : Who) (names : Names) (event : Event) → IsBuilt event → IsTrue (is_named who names event)
named_when (Client n) names (Write os sync) built = refl
named_when (Client n) names (Get family key t None) built = refl
named_when (Client n) names Sync built = refl
named_when Runner names (Write os sync) built = refl
named_when Runner names (Get family key t None) built = refl
named_when Runner names Sync built = refl
named_when Flusher names (Write os sync) built = refl
named_when Flusher names (Get family key t None) built = refl
named_when Flusher names Sync built = refl
named_when Compactor names (Write os sync) built = refl
named_when Compactor names (Get family key t None) built = refl
named_when Compactor names Sync built = refl
named_when who names event built = absurd built

pub is_named_built : (who : Who) (names : Names) (event : Event) → IsBuilt event → IsTrue (is_named who names event)
is_named_built who names event built = named_when who names event built

-- ---- snapshots

held_none : (event : Event) (reply : Reply) → IsBuilt event → held_after [] event reply ≡ []
held_none (Write os sync) reply built = refl
held_none (Get family key t None) reply built = refl
held_none Sync reply built = refl
held_none event reply built = absurd built

-- a client that makes no snapshot holds none
pub none_held : (ls : List Line) → All IsBuiltLine ls → held_behind [] ls ≡ []
none_held [] built = refl
none_held (l ∷ ls) built = ap (λ (held : List (List ℕ)). held_behind held ls) (held_none l.event l.reply (All-head IsBuiltLine l ls built).event) ∙ none_held ls (All-tail IsBuiltLine l ls built)
