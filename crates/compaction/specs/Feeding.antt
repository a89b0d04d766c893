-- The versions of tables, taken one by one.
use Rattle.std.specs.Prelude.{ℕ, Bool, true, false, List, [], ◌∷◌, map, take, drop, Option, Some, None}
use Rattle.std.specs.List.{flat_map}
use Rattle.std.specs.Ordering.{is_eq}
use Rattle.ts_key.specs.Order.{SortKey, sort_cmp}
use Rattle.ts_key.specs.Items.{Item}
use Rattle.ts_key.specs.declared.numbers.Family.{Family}
use Rattle.ts_key.specs.declared.version.Version.{Version}
use Rattle.merge_cursor.specs.Sides.{all, passed, sides}
use Rattle.data_block.specs.Cursors.{cursor_items, place_of}
use Rattle.data_block.specs.declared.cursor.BlockCursor.{BlockCursor}
use Rattle.super_version.specs.Live.{Live}
use Rattle.super_version.specs.Contents.{items_of_table, version_of_item}

-- versions of a family
abbrev pub versions_from : Family → List Item → List Version
versions_from family items = map (version_of_item family) items

-- all versions of tables, table after table
abbrev pub versions_in_tables : Family → List Live → List Version
versions_in_tables family tables = flat_map (λ t. versions_from family (items_of_table t)) tables

-- what cursors walk over, in the stored order
abbrev pub walked_items : List BlockCursor → List Item
walked_items cs = all (sides cursor_items place_of cs)

-- how many of them are passed
abbrev pub count_passed : List BlockCursor → ℕ
count_passed cs = passed (sides cursor_items place_of cs)

-- what a walk has passed, and what it hasn't
abbrev pub passed_items : List BlockCursor → List Item
passed_items cs = take (count_passed cs) (walked_items cs)

abbrev pub left_items : List BlockCursor → List Item
left_items cs = drop (count_passed cs) (walked_items cs)

-- the last of the versions has this sort key; there is none where there is none
abbrev pub ends_at : Option SortKey → List Item → Bool
ends_at None [] = true
ends_at None (v ∷ vs) = false
ends_at (Some k) [] = false
ends_at (Some k) (v ∷ []) = is_eq (sort_cmp v.sort_key k)
ends_at (Some k) (v ∷ w ∷ vs) = ends_at (Some k) (w ∷ vs)
