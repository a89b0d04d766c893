-- Families by their names.
use Rattle.std.specs.Prelude.{ℕ, ◌+◌, Bool, nat_le, if◌then◌else◌, List, [], ◌∷◌, length, map}
use Rattle.std.specs.List.{list_any}
use Rattle.std.specs.Str.{bytes_eq}
use Rattle.ts_key.specs.declared.batch.WriteOp.{WriteOp}
use Rattle.ts_key.specs.declared.numbers.Family.{Family}
use Rattle.udt_model.specs.declared.event.NamedOp.{NamedOp}
use Rattle.udt_model.specs.declared.line.FamilyHead.{FamilyHead}
use Rattle.udt_model.specs.State.{State, heads_of}

-- the place of this name among names that begin at place n; where it isn't there, the one behind the last
abbrev pub place_by_name : ℕ → List (List ℕ) → List ℕ → ℕ
place_by_name n [] name = n
place_by_name n (other ∷ names) name = if bytes_eq other name then n else place_by_name (n + 1) names name

-- the number of the family of this name
abbrev pub family_named : List (List ℕ) → List ℕ → Family
family_named names name = record { 0 = place_by_name 0 names name }

abbrev pub op_named : List (List ℕ) → NamedOp → WriteOp
op_named names o = record { family = family_named names o.family; key = o.key; ts = o.ts; op = o.op }

-- no family has the name
abbrev pub is_unnamed : List (List ℕ) → List ℕ → Bool
is_unnamed names name = nat_le (length names) (place_by_name 0 names name)

-- an operation names no family
abbrev pub is_any_unnamed : List (List ℕ) → List NamedOp → Bool
is_any_unnamed names ops = list_any (λ o. is_unnamed names o.family) ops

-- the names of a state's families, in order
abbrev pub names_in : State → List (List ℕ)
names_in m = map (λ (h : FamilyHead). h.name) (heads_of m)
