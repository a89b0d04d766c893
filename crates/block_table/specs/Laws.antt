-- A law of tables.
use Rattle.std.specs.Prelude.{◌≡◌, ℕ, ◌^◌, ◌<◌, List, length}
use Rattle.block_table.specs.Contents.{Contents}
use Rattle.block_table.specs.Tables.{IsTable}

-- an image is the table of one contents alone
abbrev pub TablesAreUnique : Type 0
TablesAreUnique = (image : List ℕ) (t u : Contents) → length image < 2 ^ 64 → IsTable t image → IsTable u image → t ≡ u
