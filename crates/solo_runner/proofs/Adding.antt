-- Operations that are added one by one.
use Rattle.std.proofs.Common.{◌≡◌, ℕ, suc, ◌+◌, ◌<◌, ◌≤◌, Bool, false, List, [], ◌∷◌, ◌++◌, length, take, drop, get_or, Option, Some, None, refl, sym, ap, subst, ◌∙◌, append_assoc, append-nil, drop-cons, inl, inr, arith}
use Rattle.std.specs.Prelude.{Result, Ok, Err, IfOk, OnErr, option_map}
use Rattle.std.proofs.lemmas.List.{drop_all, length-take-le, take_all, take_more}
use Rattle.ts_key.specs.declared.version.Version.{Version}
use Rattle.udt_model.specs.declared.event.NamedOp.{NamedOp}
use Rattle.udt_model.specs.declared.event.Event.TheVariants.{Write}
use Rattle.udt_model.specs.declared.reply.Reply.{Reply}
use Rattle.udt_model.specs.declared.reply.Reply.TheVariants.{OkAt, DroppedFault, Fault, Halted, NoMemory}
use Rattle.solo_runner.specs.Named.{IsReplyByName, after_by_name}
use Rattle.udt_model.specs.Lines.{says_fault}
use Rattle.client_lang.specs.Print.{IsBuiltReply}
use Rattle.udt_model.specs.State.{State}
use Rattle.solo_runner.specs.Named.{accepted_unless, reply_of_write, family_of_op, full_for_ops, versions_made, place_of, refusal_of_op, refusal_of_ops, unknown_in_ops, version_of_op}
use Rattle.udt_model.specs.Refusals.{halt, ◌or_else◌}
use Rattle.solo_runner.specs.Adding.{Grows, IsWriteRefusal, after_op, refusal_of, with_versions}

-- the versions of the first i operations were added, and the refusal is that of the others
pub record AddedSoFar (m : State) (ops : List NamedOp) (i : ℕ) (now : State) : Type 0 where
  pub state_is : now ≡ with_versions m (m.versions ++ versions_made m m.last.0 (take i ops))
  pub rest : refusal_of_ops m now.versions (m.last.0 + i) (i + 1) (drop i ops) ≡ refusal_of_ops m m.versions m.last.0 1 ops

pub none_added : (m : State) (ops : List NamedOp) → AddedSoFar m ops 0 m
none_added m ops = record {
  state_is = ap (with_versions m) (sym (append-nil m.versions));
  rest = let e : m.last.0 + 0 ≡ m.last.0 = omega arith in rw e refl;
}

made_push : (m : State) (n : ℕ) (os : List NamedOp) (o : NamedOp) → versions_made m n (os ++ o ∷ []) ≡ versions_made m n os ++ version_of_op (family_of_op m o) o (n + length os + 1) ∷ []
made_push m n [] o = let e : n + 0 + 1 ≡ n + 1 = omega arith in rw e refl
made_push m n (p ∷ os) o =
    let e : n + 1 + length os + 1 ≡ n + length (p ∷ os) + 1 = omega arith in
    ap (λ (vs : List Version). version_of_op (family_of_op m p) p (n + 1) ∷ vs) (made_push m (n + 1) os o ∙ ap (λ (k : ℕ). versions_made m (n + 1) os ++ version_of_op (family_of_op m o) o k ∷ []) e)

rest_at : (ops : List NamedOp) (i : ℕ) (o : NamedOp) → i < length ops → o ≡ get_or ops i o → drop i ops ≡ o ∷ drop (i + 1) ops
rest_at ops i o lt e =
    let k : suc i ≡ i + 1 = omega arith in
    drop-cons ops i o lt ∙ ap (λ (x : NamedOp). x ∷ drop (suc i) ops) (sym e) ∙ ap (λ (j : ℕ). o ∷ drop j ops) k

front_at : (ops : List NamedOp) (i : ℕ) (o : NamedOp) → i < length ops → o ≡ get_or ops i o → take (i + 1) ops ≡ take i ops ++ o ∷ []
front_at ops i o lt e = take_more ops i o lt ∙ ap (λ (x : NamedOp). take i ops ++ x ∷ []) (sym e)

-- none is refused: the rest goes on behind it
accepted_goes_on : (m : State) (w : List Version) (n k : ℕ) (o : NamedOp) (os : List NamedOp) → refusal_of_op w k (place_of m o.family) o ≡ None → refusal_of_ops m w n k (o ∷ os) ≡ refusal_of_ops m (w ++ version_of_op (family_of_op m o) o (n + 1) ∷ []) (n + 1) (k + 1) os
accepted_goes_on m w n k o os e = ap (λ (r : Option Reply). r or_else refusal_of_ops m (w ++ version_of_op (family_of_op m o) o (n + 1) ∷ []) (n + 1) (k + 1) os) e

stops_here : (m : State) (w : List Version) (n k : ℕ) (o : NamedOp) (os : List NamedOp) (r : Reply) → refusal_of_op w k (place_of m o.family) o ≡ Some r → refusal_of_ops m w n k (o ∷ os) ≡ Some r
stops_here m w n k o os r e = ap (λ (x : Option Reply). x or_else refusal_of_ops m (w ++ version_of_op (family_of_op m o) o (n + 1) ∷ []) (n + 1) (k + 1) os) e

length-front : (ops : List NamedOp) (i : ℕ) → i < length ops → length (take i ops) ≡ i
length-front ops i lt = length-take-le i ops (omega arith)

step_on : (m : State) (ops : List NamedOp) (i : ℕ) (w : List Version) (o : NamedOp) → i < length ops → o ≡ get_or ops i o → w ≡ m.versions ++ versions_made m m.last.0 (take i ops)
    → refusal_of_ops m w (m.last.0 + i) (i + 1) (drop i ops) ≡ refusal_of_ops m m.versions m.last.0 1 ops → refusal_of_op w (i + 1) (place_of m o.family) o ≡ None
    → AddedSoFar m ops (i + 1) (with_versions m (w ++ version_of_op (family_of_op m o) o (m.last.0 + (i + 1)) ∷ []))
step_on m ops i w o lt at w_is rest none =
    let n : m.last.0 + length (take i ops) + 1 ≡ m.last.0 + (i + 1) = omega (arith, length-front ops i lt) in
    let k : m.last.0 + i + 1 ≡ m.last.0 + (i + 1) = omega arith in
    let more : m.versions ++ versions_made m m.last.0 (take (i + 1) ops) ≡ w ++ version_of_op (family_of_op m o) o (m.last.0 + (i + 1)) ∷ [] =
    ap (λ (os : List NamedOp). m.versions ++ versions_made m m.last.0 os) (front_at ops i o lt at)
    ∙ ap (λ (vs : List Version). m.versions ++ vs) (made_push m m.last.0 (take i ops) o ∙ ap (λ (j : ℕ). versions_made m m.last.0 (take i ops) ++ version_of_op (family_of_op m o) o j ∷ []) n)
    ∙ sym (append_assoc m.versions (versions_made m m.last.0 (take i ops)) (version_of_op (family_of_op m o) o (m.last.0 + (i + 1)) ∷ []))
    ∙ ap (λ (vs : List Version). vs ++ version_of_op (family_of_op m o) o (m.last.0 + (i + 1)) ∷ []) (sym w_is) in
    record {
      state_is = ap (with_versions m) (sym more);
      rest =
          ap (λ (j : ℕ). refusal_of_ops m (w ++ version_of_op (family_of_op m o) o j ∷ []) j (i + 1 + 1) (drop (i + 1) ops)) (sym k)
          ∙ sym (accepted_goes_on m w (m.last.0 + i) (i + 1) o (drop (i + 1) ops) none)
          ∙ ap (refusal_of_ops m w (m.last.0 + i) (i + 1)) (sym (rest_at ops i o lt at))
          ∙ rest;
    }

versions_of : (m : State) (w : List Version) (now : State) → now ≡ with_versions m w → now.versions ≡ w
versions_of m w now e = ap (λ (s : State). s.versions) e

-- one more was added
pub added_more : (m : State) (ops : List NamedOp) (i : ℕ) (now new : State) (o : NamedOp) (n : ℕ) (found : Option Reply) → AddedSoFar m ops i now → i < length ops → o ≡ get_or ops i o
    → found ≡ refusal_of_op now.versions (i + 1) (place_of now o.family) o → n ≡ m.last.0 + (i + 1) → new ≡ after_op now o n found → found ≡ None → AddedSoFar m ops (i + 1) new
added_more m ops i now new o n found a lt at f number later none =
    let w : List Version = m.versions ++ versions_made m m.last.0 (take i ops) in
    let same : now ≡ with_versions m w = a.state_is in
    let vs : now.versions ≡ w = versions_of m w now same in
    let refusal_is : refusal_of_op w (i + 1) (place_of m o.family) o ≡ None = ap (λ (s : State). refusal_of_op s.versions (i + 1) (place_of s o.family) o) (sym same) ∙ sym f ∙ none in
    let rest : refusal_of_ops m w (m.last.0 + i) (i + 1) (drop i ops) ≡ refusal_of_ops m m.versions m.last.0 1 ops = ap (λ (x : List Version). refusal_of_ops m x (m.last.0 + i) (i + 1) (drop i ops)) (sym vs) ∙ a.rest in
    let next : new ≡ with_versions m (w ++ version_of_op (family_of_op m o) o (m.last.0 + (i + 1)) ∷ []) =
    later ∙ ap (λ (k : ℕ). after_op now o k found) number ∙ ap (after_op now o (m.last.0 + (i + 1))) none ∙ ap (λ (s : State). after_op s o (m.last.0 + (i + 1)) None) same in
    subst (AddedSoFar m ops (i + 1)) (sym next) (step_on m ops i w o lt at refl rest refusal_is)

-- it stops at one that is refused
pub added_stops : (m : State) (ops : List NamedOp) (i : ℕ) (now : State) (o : NamedOp) (found : Option Reply) (r : Reply) → AddedSoFar m ops i now → i < length ops → o ≡ get_or ops i o
    → found ≡ refusal_of_op now.versions (i + 1) (place_of now o.family) o → found ≡ Some r → Some r ≡ refusal_of_ops m m.versions m.last.0 1 ops
added_stops m ops i now o found r a lt at f some =
    let w : List Version = m.versions ++ versions_made m m.last.0 (take i ops) in
    let same : now ≡ with_versions m w = a.state_is in
    let refusal_is : refusal_of_op now.versions (i + 1) (place_of m o.family) o ≡ Some r = ap (λ (s : State). refusal_of_op now.versions (i + 1) (place_of s o.family) o) (sym same) ∙ sym f ∙ some in
    sym (stops_here m now.versions (m.last.0 + i) (i + 1) o (drop (i + 1) ops) r refusal_is) ∙ ap (refusal_of_ops m now.versions (m.last.0 + i) (i + 1)) (sym (rest_at ops i o lt at)) ∙ a.rest

-- what was added so far stands behind what was there
pub added_grows : (m : State) (ops : List NamedOp) (i : ℕ) (now : State) → AddedSoFar m ops i now → Grows m now
added_grows m ops i now a = (versions_made m m.last.0 (take i ops), a.state_is)

pub stopped_grows : (m : State) (ops : List NamedOp) (i : ℕ) (now new : State) (o : NamedOp) (n : ℕ) (found : Option Reply) (r : Reply) → AddedSoFar m ops i now → new ≡ after_op now o n found → found ≡ Some r → Grows m new
stopped_grows m ops i now new o n found r a later some = subst (Grows m) (sym (later ∙ ap (after_op now o n) some)) (added_grows m ops i now a)

pub same_grows : (m : State) (ops : List NamedOp) (i : ℕ) (now new : State) → AddedSoFar m ops i now → new ≡ now → Grows m new
same_grows m ops i now new a e = subst (Grows m) (sym e) (added_grows m ops i now a)

-- all were added
pub added_all : (m : State) (ops : List NamedOp) (i : ℕ) (now : State) → length ops ≤ i → AddedSoFar m ops i now → (now ≡ with_versions m (m.versions ++ versions_made m m.last.0 ops)) × (None ≡ refusal_of_ops m m.versions m.last.0 1 ops)
added_all m ops i now le a =
    let all : take i ops ≡ ops = take_all i ops le in
    let none : drop i ops ≡ [] = drop_all i ops le in (
      a.state_is ∙ ap (λ (os : List NamedOp). with_versions m (m.versions ++ versions_made m m.last.0 os)) all,
      ap (refusal_of_ops m now.versions (m.last.0 + i) (i + 1)) (sym none) ∙ a.rest,
    )

pub Grows-refl : (m : State) → Grows m m
Grows-refl m = ([], ap (with_versions m) (sym (append-nil m.versions)))

-- ---- writes

not_halted : (u h : Option Reply) → h ≡ None → u or_else h ≡ u
not_halted None h e = e
not_halted (Some r) h e = refl

-- the reply to a write where the store isn't halted
pub admitted_by : (m : State) (os : List NamedOp) → m.halted ≡ None → accepted_unless (m.last.0 + length os) (refusal_of m os) ≡ reply_of_write m os
admitted_by m os e =
    sym (ap (λ (u : Option Reply). accepted_unless (m.last.0 + length os) (u or_else refusal_of_ops m m.versions m.last.0 1 os or_else full_for_ops m os)) (not_halted (unknown_in_ops m os) (halt m) (ap (option_map Halted) e)))

-- a write that is refused leaves the state
pub refusal_leaves : (m : State) (number : ℕ) (os : List NamedOp) (sync : Bool) (r : Reply) → IsWriteRefusal r → after_by_name m number (Write os sync) r ≡ m
refusal_leaves m number os sync (OkAt n) h = absurd h
refusal_leaves m number os sync Fault h = absurd h
refusal_leaves m number os sync r h = refl

pub refusal_sound : (r : Reply) → IsWriteRefusal r → says_fault r ≡ false
refusal_sound (OkAt n) h = absurd h
refusal_sound Fault h = absurd h
refusal_sound DroppedFault h = absurd h
refusal_sound r h = refl

pub told_sound : {E : Type 0} (r : Result Reply E) (reply : Reply) → IfOk r (λ x. says_fault x ≡ false) → IfOk r (λ told. reply ≡ told) → OnErr r (reply ≡ NoMemory) → says_fault reply ≡ false
told_sound (Ok x) reply a b c = rw b a
told_sound (Err x) reply a b c = rw c refl

pub refusal_built : (r : Reply) → IsWriteRefusal r → IsBuiltReply r
refusal_built (OkAt n) h = absurd h
refusal_built Fault h = absurd h
refusal_built r h = h

pub take_front : (vs more : List Version) (n : ℕ) → n ≡ length vs → take n (vs ++ more) ≡ vs
take_front [] more n e = rw e refl
take_front (v ∷ vs) more n e = let k : n ≡ suc (length vs) = omega arith in rw k (ap (λ (t : List Version). v ∷ t) (take_front vs more (length vs) refl))

-- without what was added the state is the one before
pub back_again : (m now new : State) (n : ℕ) → Grows m now → n ≡ length m.versions → new ≡ with_versions now (take n now.versions) → new ≡ m
back_again m now new n g size e =
    let w : List Version = m.versions ++ g.0 in
    let vs : now.versions ≡ w = versions_of m w now g.1 in
    let front : take n now.versions ≡ m.versions = ap (take n) vs ∙ take_front m.versions g.0 n size in
    e ∙ ap (with_versions now) front ∙ ap (λ (s : State). with_versions s m.versions) g.1

-- the reply and the state of a write
pub record IsWritten (m : State) (number : ℕ) (os : List NamedOp) (sync : Bool) (new : State) (reply : Reply) : Type 0 where
  pub legal : IsReplyByName m (Write os sync) reply
  pub after_is : new ≡ after_by_name m number (Write os sync) reply
  pub built : IsBuiltReply reply

pub written : {E : Type 0} (m new : State) (number : ℕ) (os : List NamedOp) (sync : Bool) (r : Result Reply E) (reply : Reply) → IfOk r (λ x. x ≡ reply_of_write m os) → ((s : Bool) (k : ℕ) → IfOk r (λ x. new ≡ after_by_name m k (Write os s) x)) → OnErr r (new ≡ m) → IfOk r IsBuiltReply
    → IfOk r (λ x. reply ≡ x) → OnErr r (reply ≡ NoMemory) → IsWritten m number os sync new reply
written m new number os sync (Ok x) reply a b c d e f = record { legal = inl (e ∙ a); after_is = b sync number ∙ ap (after_by_name m number (Write os sync)) (sym e); built = subst IsBuiltReply (sym e) d }
written m new number os sync (Err x) reply a b c d e f = record { legal = inr (inl (f, refl)); after_is = c ∙ ap (after_by_name m number (Write os sync)) (sym f); built = subst IsBuiltReply (sym f) tt }

-- the reply to a write, by what admitting it found
pub reply_found : (m : State) (os : List NamedOp) (found : Option Reply) → m.halted ≡ None → found ≡ refusal_of m os → accepted_unless (m.last.0 + length os) found ≡ reply_of_write m os
reply_found m os found works is = ap (accepted_unless (m.last.0 + length os)) is ∙ admitted_by m os works
