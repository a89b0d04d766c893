-- What the parts of a head's reader find.
use Rattle.std.specs.Prelude.{◌≡◌, ℕ, List, ◌∷◌, ◌++◌, length}
use Rattle.std.specs.List.{flat_map, All}
use Rattle.udt_model.specs.declared.line.FamilyHead.{FamilyHead}
use Rattle.manifest.specs.Heads.{family_text, IsNewFamily, IsNamed}

-- the bytes begin with the length of a name, the name, this byte for a form, and the size of a timestamp
abbrev pub StartsWithName : List ℕ → List ℕ → ℕ → List ℕ → Type 0
StartsWithName bytes name code rest = bytes ≡ length name ∷ (name ++ code ∷ 8 ∷ rest)

-- the bytes begin with this family
pub record StartsWithFamily (bytes : List ℕ) (f : FamilyHead) (rest : List ℕ) : Type 0 where
  pub new : IsNewFamily f
  pub named : IsNamed f
  pub is : bytes ≡ family_text f ++ rest

-- the bytes are so many families
pub record AreSpelled (bytes : List ℕ) (count : ℕ) (families : List FamilyHead) : Type 0 where
  pub long : length families ≡ count
  pub new : All IsNewFamily families
  pub named : All IsNamed families
  pub is : bytes ≡ flat_map family_text families
