-- What reading the parts of a table answers.
use Rattle.std.specs.Prelude.{◌≡◌, ℕ, ◌^◌, ◌<◌, List, Option, Some, None}
use Rattle.block_table.specs.declared.parts.Parts.{Parts}
use Rattle.block_table.specs.declared.parts.Head.{Head}
use Rattle.block_table.specs.declared.properties.Properties.{Properties}
use Rattle.block_table.specs.Tables.{with_footer}

-- these are the parts of the image; where none were found, it has none
abbrev pub ReadsParts : List ℕ → Option Parts → Type 0
ReadsParts image (Some x) = image ≡ with_footer x.blocks.now x.index.now x.properties.now
ReadsParts image None = (blocks index properties : List ℕ) → image ≡ with_footer blocks index properties → ⊥

-- the numbers that don't follow from the versions have their sizes
pub record FitsHead (p : Properties) : Type 0 where
  pub family : p.family.0 < 2 ^ 32
  pub collected_by : p.collected_by.0 < 2 ^ 64

-- so have those that were found
pub record FitsFound (h : Head) : Type 0 where
  pub family : h.family.0 < 2 ^ 32
  pub collected_by : h.collected_by.0 < 2 ^ 64

-- the properties say this of the family, the form and the floor
pub record IsHeadOf (p : Properties) (h : Head) : Type 0 where
  pub family : h.family.0 ≡ p.family.0
  pub form : h.form ≡ p.form
  pub collected_by : h.collected_by.0 ≡ p.collected_by.0

-- what was found is what these properties say
abbrev pub IsFoundHead : Properties → Option Head → Type 0
IsFoundHead p None = ⊥
IsFoundHead p (Some h) = IsHeadOf p h
