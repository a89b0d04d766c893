-- A frame that was read, as contracts see it.
use Rattle.std.specs.Prelude.{ℕ, List}

-- the offset of its gate, and its body
pub record Placed : Type 0 where
  pub at : ℕ
  pub bytes : List ℕ
