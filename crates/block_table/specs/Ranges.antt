-- The least and the greatest key of versions.
use Rattle.std.specs.Prelude.{◌≡◌, ◌<◌, List, [], length, Option, Some, None}
use Rattle.ts_key.specs.Items.{Item}
use Rattle.block_table.specs.declared.writer.KeyRange.{KeyRange}
use Rattle.block_table.specs.Contents.{first_key, last_user_key}

-- the range of a list that has a version; none of the empty list
abbrev pub IsRangeOf : Option KeyRange → List Item → Type 0
IsRangeOf None vs = vs ≡ []
IsRangeOf (Some r) vs = (0 < length vs) × (r.least ≡ first_key vs) × (r.greatest ≡ last_user_key vs)
