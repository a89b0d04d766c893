-- Writes, operation by operation.
use Rattle.std.proofs.Common.{◌≡◌, ℕ, ◌+◌, ◌<◌, ◌≤◌, true, false, List, [], ◌∷◌, ◌++◌, length, get_or, drop, Option, Some, None, refl, sym, ap, ◌∙◌, arith, append_assoc}
use Rattle.std.specs.Prelude.{is_none, is_some, option_map, if◌then◌else◌}
use Rattle.std.proofs.lemmas.List.{at_drop_more, at_drop_all, append-nil}
use Rattle.ts_key.specs.declared.batch.WriteOp.{WriteOp}
use Rattle.ts_key.specs.declared.version.Version.{Version}
use Rattle.udt_model.specs.declared.reply.Reply.TheVariants.{Unknown}
use Rattle.udt_model.specs.State.{State, FamilyState, family_at, place_at, place_of_family}
use Rattle.udt_model.specs.Versions.{made, version_of}
use Rattle.udt_model.specs.Refusals.{op_refusal, refused, unknown, unknown_place, ◌or_else◌}
use Rattle.floor_core.specs.Steps.{admitted_versions}

none_from : {X : Type 0} (o : Option X) → false ≡ is_some o → o ≡ None
none_from None e = refl
none_from (Some x) e = absurd (cc)

some_from : {X : Type 0} (o : Option X) → true ≡ is_some o → (x : X) × (o ≡ Some x)
some_from None e = absurd (cc)
some_from (Some x) e = (x, refl)

-- ---- unknown families

family_known : (m : State) (o : WriteOp) (os : List WriteOp) (f : Option FamilyState) → is_none f ≡ false → unknown_place (option_map (place_of_family o.family) f) or_else unknown m os ≡ unknown m os
family_known m o os None e = absurd (cc)
family_known m o os (Some f) e = refl

family_unknown : (m : State) (o : WriteOp) (os : List WriteOp) (f : Option FamilyState) → is_none f ≡ true → unknown_place (option_map (place_of_family o.family) f) or_else unknown m os ≡ Some Unknown
family_unknown m o os None e = refl
family_unknown m o os (Some f) e = absurd (cc)

pub unknown_more : (m : State) (ops : List WriteOp) (i : ℕ) (o : WriteOp) → i < length ops → o ≡ get_or ops i o → is_none (family_at m o.family) ≡ false → unknown m (drop i ops) ≡ unknown m ops → unknown m (drop (i + 1) ops) ≡ unknown m ops
unknown_more m ops i o lt at e inv =
    sym (at_drop_more (unknown m) ops i o lt ∙ ap (λ (z : WriteOp). unknown m (z ∷ drop (i + 1) ops)) (sym at) ∙ family_known m o (drop (i + 1) ops) (family_at m o.family) e) ∙ inv

pub unknown_here : (m : State) (ops : List WriteOp) (i : ℕ) (o : WriteOp) → i < length ops → o ≡ get_or ops i o → is_none (family_at m o.family) ≡ true → unknown m (drop i ops) ≡ unknown m ops → true ≡ is_some (unknown m ops)
unknown_here m ops i o lt at e inv =
    sym (ap is_some (sym inv ∙ at_drop_more (unknown m) ops i o lt ∙ ap (λ (z : WriteOp). unknown m (z ∷ drop (i + 1) ops)) (sym at) ∙ family_unknown m o (drop (i + 1) ops) (family_at m o.family) e))

pub unknown_none : (m : State) (ops : List WriteOp) (i : ℕ) → length ops ≤ i → unknown m (drop i ops) ≡ unknown m ops → false ≡ is_some (unknown m ops)
unknown_none m ops i le inv = sym (ap is_some (sym inv ∙ at_drop_all (unknown m) ops i le))

-- ---- the operations so far

-- the first i operations aren't refused, and w has their versions
pub record Admitting (m : State) (last : ℕ) (ops : List WriteOp) (i : ℕ) (w : List Version) : Type 0 where
  pub last_is : last ≡ m.last.0
  pub rest : refused m w (last + i) (i + 1) (drop i ops) ≡ refused m m.versions last 1 ops
  pub list : w ++ made (last + i) (drop i ops) ≡ m.versions ++ made last ops

pub admitting_none : (m : State) (last : ℕ) (ops : List WriteOp) (w : List Version) → last ≡ m.last.0 → w ≡ m.versions → Admitting m last ops 0 w
admitting_none m last ops w l e = record {
  last_is = l;
  rest = ap (λ z. refused m z (last + 0) 1 ops) e ∙ ap (λ n. refused m m.versions n 1 ops) (zero_more last);
  list = ap (λ z. z ++ made (last + 0) ops) e ∙ ap (λ n. m.versions ++ made n ops) (zero_more last);
}
  where
    zero_more : (n : ℕ) → n + 0 ≡ n
    zero_more n = omega arith

refused_on : (m : State) (w : List Version) (n k : ℕ) (o : WriteOp) (os : List WriteOp) → op_refusal w k (place_at m o.family) o ≡ None → refused m w n k (o ∷ os) ≡ refused m (w ++ version_of o (n + 1) ∷ []) (n + 1) (k + 1) os
refused_on m w n k o os e = ap (λ z. z or_else refused m (w ++ version_of o (n + 1) ∷ []) (n + 1) (k + 1) os) e

pub admitting_more : (m : State) (last : ℕ) (ops : List WriteOp) (i : ℕ) (o : WriteOp) (v : Version) (w new : List Version) → i < length ops → o ≡ get_or ops i o
    → ((k : ℕ) → false ≡ is_some (op_refusal w k (place_at m o.family) o)) → v ≡ version_of o (last + i + 1) → new ≡ w ++ v ∷ [] → Admitting m last ops i w → Admitting m last ops (i + 1) new
admitting_more m last ops i o v w new lt at ok made_is new_is a =
    let rest = drop (i + 1) ops in
    let here : drop i ops ≡ o ∷ rest = at_drop_more (λ (z : List WriteOp). z) ops i o lt ∙ ap (λ (z : WriteOp). z ∷ rest) (sym at) in
    let w1 = w ++ version_of o (last + i + 1) ∷ [] in
    let new_w : new ≡ w1 = new_is ∙ ap (λ (z : Version). w ++ z ∷ []) made_is in
    record {
      last_is = a.last_is;
      rest =
          ap (λ z. refused m z (last + (i + 1)) (i + 1 + 1) rest) new_w
          ∙ ap (λ n. refused m w1 n (i + 1 + 1) rest) (one_on last i)
          ∙ sym (refused_on m w (last + i) (i + 1) o rest (none_from (op_refusal w (i + 1) (place_at m o.family) o) (ok (i + 1))))
          ∙ ap (refused m w (last + i) (i + 1)) (sym here)
          ∙ a.rest;
      list =
          ap (λ z. z ++ made (last + (i + 1)) rest) new_w
          ∙ ap (λ n. w1 ++ made n rest) (one_on last i)
          ∙ append_assoc w (version_of o (last + i + 1) ∷ []) (made (last + i + 1) rest)
          ∙ ap (λ z. w ++ made (last + i) z) (sym here)
          ∙ a.list;
    }
  where
    one_on : (a b : ℕ) → a + (b + 1) ≡ a + b + 1
    one_on a b = omega arith

-- one is refused
pub admitting_stops : (m : State) (last : ℕ) (ops : List WriteOp) (i : ℕ) (o : WriteOp) (w : List Version) → i < length ops → o ≡ get_or ops i o
    → ((k : ℕ) → true ≡ is_some (op_refusal w k (place_at m o.family) o)) → Admitting m last ops i w → None ≡ admitted_versions m ops
admitting_stops m last ops i o w lt at below a =
    let rest = drop (i + 1) ops in
    let here : drop i ops ≡ o ∷ rest = at_drop_more (λ (z : List WriteOp). z) ops i o lt ∙ ap (λ (z : WriteOp). z ∷ rest) (sym at) in
    let r = some_from (op_refusal w (i + 1) (place_at m o.family) o) (below (i + 1)) in
    let stop : refused m w (last + i) (i + 1) (drop i ops) ≡ Some r.0 = ap (refused m w (last + i) (i + 1)) here ∙ ap (λ z. z or_else refused m (w ++ version_of o (last + i + 1) ∷ []) (last + i + 1) (i + 1 + 1) rest) r.1 in
    let all : refused m m.versions m.last.0 1 ops ≡ Some r.0 = ap (λ n. refused m m.versions n 1 ops) (sym a.last_is) ∙ sym a.rest ∙ stop in
    sym (ap (λ z. if is_none z then Some (m.versions ++ made m.last.0 ops) else None) all)

-- none is
pub admitting_all : (m : State) (last : ℕ) (ops : List WriteOp) (i : ℕ) (w : List Version) → length ops ≤ i → Admitting m last ops i w → Some w ≡ admitted_versions m ops
admitting_all m last ops i w le a =
    let here : drop i ops ≡ [] = at_drop_all (λ (z : List WriteOp). z) ops i le in
    let none : refused m m.versions m.last.0 1 ops ≡ None = ap (λ n. refused m m.versions n 1 ops) (sym a.last_is) ∙ sym a.rest ∙ ap (refused m w (last + i) (i + 1)) here in
    let list : w ≡ m.versions ++ made m.last.0 ops = sym (append-nil w) ∙ ap (λ z. w ++ made (last + i) z) (sym here) ∙ a.list ∙ ap (λ n. m.versions ++ made n ops) a.last_is in
    ap Some list ∙ sym (ap (λ z. if is_none z then Some (m.versions ++ made m.last.0 ops) else None) none)
