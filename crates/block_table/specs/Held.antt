-- A table in memory.
use Rattle.std.specs.Prelude.{ℕ, List}
use Rattle.block_table.specs.Contents.{Contents}

-- its bytes, and what they hold
pub record Held : Type 0 where
  pub image : List ℕ
  pub contents : Contents
