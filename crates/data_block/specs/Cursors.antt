-- What a cursor over a block stands for.
use Rattle.std.specs.Prelude.{ℕ, List}
use Rattle.ts_key.specs.Items.{Item}
use Rattle.data_block.specs.declared.cursor.BlockCursor.{BlockCursor}

-- the versions that it walks over
abbrev pub cursor_items : BlockCursor → List Item
cursor_items c = c.block.now

-- 0 before the first version, i + 1 at the version with index i, and one more after the last
abbrev pub place_of : BlockCursor → ℕ
place_of c = c.place
