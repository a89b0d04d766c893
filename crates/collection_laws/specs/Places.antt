-- The places of versions in the stored order.
use Rattle.std.specs.Prelude.{◌≡◌, ℕ, true, List, [], ◌∷◌}
use Rattle.std.specs.List.{All, AllByRecursion, AllPairs}
use Rattle.std.specs.List.Sorted.{IsSortedBy}
use Rattle.ts_key.specs.declared.numbers.Family.{Family}
use Rattle.ts_key.specs.declared.version.Version.{Version}
use Rattle.udt_model.specs.Orders.{is_version_before}

-- both have one place: the same key, timestamp and sequence
abbrev pub HaveOnePlace : Version → Version → Type 0
HaveOnePlace a b = (a.key ≡ b.key) × (a.ts.0 ≡ b.ts.0) × (a.seq.0 ≡ b.seq.0)

-- no two of them have one place
abbrev pub AreApart : List Version → Type 0
AreApart vs = AllPairs (λ a b. HaveOnePlace a b → ⊥) vs

-- each is of this family
abbrev pub AreOfFamily : Family → List Version → Type 0
AreOfFamily family vs = All (λ v. v.family.0 ≡ family.0) vs

-- each stands before the ones behind it
abbrev pub AreStored : List Version → Type 0
AreStored [] = Unit {0}
AreStored (v ∷ vs) = AllByRecursion (λ w. is_version_before v w ≡ true) vs × AreStored vs

-- none stands before one that it comes after; two may have one place
abbrev pub AreSortedByPlace : List Version → Type 0
AreSortedByPlace vs = IsSortedBy is_version_before vs
