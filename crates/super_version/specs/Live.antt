-- Live tables.
use Rattle.std.specs.Prelude.{ℕ}
use Rattle.block_table.specs.Held.{Held}

-- a table that is in use: the number of its file, and what the file holds
pub record Live : Type 0 where
  pub number : ℕ
  pub table : Held
