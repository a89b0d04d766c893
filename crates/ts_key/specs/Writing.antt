-- What a writer leaves.
use Rattle.std.specs.Prelude.{◌≡◌, ℕ, List, ◌++◌}

-- the old bytes still stand at the front
pub record Extends (old new : List ℕ) : Type 0 where
  pub more : List ℕ
  pub is : new ≡ old ++ more
