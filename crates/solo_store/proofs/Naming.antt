-- Families by their names, as the model and a store find them.
use Rattle.std.proofs.Common.{◌≡◌, ℕ, ◌+◌, ◌<◌, ◌≤◌, List, [], ◌∷◌, length, map, refl, sym, ap, ◌∙◌, arith, inl, inr}
use Rattle.std.specs.Prelude.{All}
use Rattle.std.specs.Str.{bytes_eq}
use Rattle.std.proofs.lemmas.Bool.{cases_Bool}
use Rattle.std.proofs.lemmas.List.{length-map}
use Rattle.std.proofs.lemmas.List.Elements.{All-head, All-tail, All-nil, All-cons}
use Rattle.ts_key.specs.Batches.{IsBatch, IsStamped}
use Rattle.ts_key.specs.declared.batch.WriteOp.{WriteOp}
use Rattle.ts_key.specs.declared.limits.TheConstants.{BATCH_LIMIT, STAMP_LIMIT}
use Rattle.ts_key.specs.declared.numbers.Family.{Family}
use Rattle.udt_model.specs.declared.event.NamedOp.{NamedOp}
use Rattle.udt_model.specs.declared.line.FamilyHead.{FamilyHead}
use Rattle.udt_model.specs.Names.{op_of}
use Rattle.udt_model.specs.State.{State, family_of, family_or, heads_of, place_from}
use Rattle.solo_store.specs.Names.{family_named, names_in, op_named, place_by_name}

head_name : FamilyHead → List ℕ
head_name h = h.name

place_is : (n k : ℕ) (heads : List FamilyHead) (name : List ℕ) → k ≡ n + length heads → family_or k (place_from n heads name) ≡ record { 0 = place_by_name n (map (λ (h : FamilyHead). h.name) heads) name }
place_is n k [] name e = let same : k ≡ n = omega (arith, e) in ap (λ (i : ℕ). let c : Family = record { 0 = i } in c) same
place_is n k (h ∷ hs) name e = elim (cases_Bool (bytes_eq h.name name)) [
  | inl y ↦ rw y refl
  | inr y ↦ let rest = place_is (n + 1) k hs name (omega (arith, e)) in rw y rest
]

-- the number of the family is the model's
pub family_same : (m : State) (names : List (List ℕ)) (name : List ℕ) → names ≡ names_in m → family_of (heads_of m) name ≡ family_named names name
family_same m names name e =
    place_is 0 (length (heads_of m)) (heads_of m) name (omega (arith)) ∙ ap (λ (ns : List (List ℕ)). family_named ns name) (sym e)

op_same : (m : State) (names : List (List ℕ)) (o : NamedOp) → names ≡ names_in m → op_of (heads_of m) o ≡ op_named names o
op_same m names o e = ap (λ (c : Family). let w : WriteOp = record { family = c; key = o.key; ts = o.ts; op = o.op } in w) (family_same m names o.family e)

-- so are the operations
pub ops_same : (m : State) (names : List (List ℕ)) (os : List NamedOp) → names ≡ names_in m → map (op_of (heads_of m)) os ≡ map (op_named names) os
ops_same m names [] e = refl
ops_same m names (o ∷ os) e =
    ap (λ (w : WriteOp). w ∷ map (op_of (heads_of m)) os) (op_same m names o e) ∙ ap (λ (ws : List WriteOp). op_named names o ∷ ws) (ops_same m names os e)

-- ---- batches

pub length-named : (names : List (List ℕ)) (os : List NamedOp) → length (map (op_named names) os) ≡ length os
length-named names os = length-map os (op_named names)

stamped_named : (names : List (List ℕ)) (os : List NamedOp) → All (λ (o : NamedOp). o.ts.0 ≤ STAMP_LIMIT) os → All IsStamped (map (op_named names) os)
stamped_named names [] all = All-nil IsStamped
stamped_named names (o ∷ os) all =
    All-cons IsStamped (op_named names o) (map (op_named names) os) (All-head (λ (o : NamedOp). o.ts.0 ≤ STAMP_LIMIT) o os all) (stamped_named names os (All-tail (λ (o : NamedOp). o.ts.0 ≤ STAMP_LIMIT) o os all))

-- the operations of a write are a batch
pub named_batch : (names : List (List ℕ)) (os : List NamedOp) → 0 < length os → length os ≤ BATCH_LIMIT → All (λ (o : NamedOp). o.ts.0 ≤ STAMP_LIMIT) os → IsBatch (map (op_named names) os)
named_batch names os some within stamped = record {
  some = omega (arith, some, length-named names os);
  within = omega (arith, within, length-named names os);
  stamped = stamped_named names os stamped;
}
