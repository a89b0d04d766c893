-- Which sizes of timestamps the families of a folder may have.
use Rattle.std.specs.Prelude.{◌≡◌, ℕ, ◌≤◌, List, length, All}
use Rattle.ts_key.specs.declared.limits.TheConstants.{FAMILY_LIMIT, STAMP_SIZE}

-- a store has so many families, each with timestamps of this size
pub record AreSizes (sizes : List ℕ) : Type 0 where
  pub some : 1 ≤ length sizes
  pub within : length sizes ≤ FAMILY_LIMIT
  pub allowed : All (λ size. size ≡ STAMP_SIZE) sizes
