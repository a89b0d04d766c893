-- Families that stand at the places of their numbers.
use Rattle.std.specs.Prelude.{◌≡◌, ℕ, ◌+◌, List, [], ◌∷◌}
use Rattle.std.specs.List.{AllByRecursion}
use Rattle.memtable.specs.Memtables.{Memtable}
use Rattle.super_version.specs.declared.family.FamilyState.{FamilyState}
use Rattle.super_version.specs.Live.{Live}

abbrev pub IsTableOf : ℕ → Live → Type 0
IsTableOf n t = t.table.contents.family ≡ n

-- all memtables and tables of a family bear this number
pub record BearsNumber (n : ℕ) (f : FamilyState) : Type 0 where
  pub active : f.active.family.0 ≡ n
  pub sealed : AllByRecursion (λ (m : Memtable). m.family.0 ≡ n) f.sealed
  pub tables : AllByRecursion (AllByRecursion (IsTableOf n)) f.levels

-- each bears the number of its place, where the list begins at place n
abbrev pub StandInPlaces : ℕ → List FamilyState → Type 0
StandInPlaces n [] = Unit {0}
StandInPlaces n (f ∷ fs) = BearsNumber n f × StandInPlaces (n + 1) fs
