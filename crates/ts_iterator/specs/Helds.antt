-- What a list holds of a version.
use Rattle.std.specs.Prelude.{Option, Some, None}
use Rattle.ts_key.specs.Items.{Item, item_of, shown}
use Rattle.ts_iterator.specs.declared.held.Held.{Held}
use Rattle.ts_iterator.specs.declared.held.Held.TheVariants.{Whole, Lent}

abbrev pub held_item : Held → Item
held_item (Whole v) = item_of v.now
held_item (Lent key hit) = shown (record { 0 = key; 1 = hit })

abbrev pub item_held_by : Option Held → Option Item
item_held_by None = None
item_held_by (Some held) = Some (held_item held)
