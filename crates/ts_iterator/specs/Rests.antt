-- The rows that a scan has yet to give.
use Rattle.std.specs.Prelude.{◌≡◌, ℕ, List, [], ◌∷◌, Bool, false, reverse, if◌then◌else◌, Option, Some, None}
use Rattle.std.specs.Option.{option_copied}
use Rattle.ts_key.specs.Items.{Item}
use Rattle.ts_key.specs.Lists.{standing}
use Rattle.udt_model.specs.Orders.{is_below}
use Rattle.udt_model.specs.declared.reply.Row.{Row}
use Rattle.ts_iterator.specs.declared.up.Up.{Up}
use Rattle.ts_iterator.specs.declared.down.Down.{Down}
use Rattle.ts_iterator.specs.declared.scan.Scan.{Scan}
use Rattle.ts_iterator.specs.declared.scan.Way.{Way}
use Rattle.ts_iterator.specs.declared.scan.Way.TheVariants as ways
use Rattle.ts_iterator.specs.Helds.{item_held_by}
use Rattle.ts_iterator.specs.Rows.{is_passed, least_key, rows_down, rows_up}
use Rattle.ts_iterator.specs.Sources.{source_walk_place, walked_sources}
use Rattle.ts_iterator.specs.Walks.{ahead, back_from}

abbrev pub rest_up : {C : Type 0} → (C → List Item) → (C → ℕ) → Up C → List Row
rest_up items place x = rows_up x.floor x.high x.t.0 x.s.0 (option_copied x.decided) (ahead (place x.cursor) (items x.cursor))

-- from a place back, where this version was the last one found
abbrev pub rest_down_from : {C : Type 0} → (C → List Item) → Down C → Option Item → ℕ → List Row
rest_down_from items x best place = rows_down x.floor (least_key x.low) x.high x.t.0 x.s.0 best (back_from place (items x.cursor))

abbrev pub rest_down : {C : Type 0} → (C → List Item) → (C → ℕ) → Down C → List Row
rest_down items place x = rest_down_from items x (item_held_by x.best) (place x.cursor)

-- it stands at this version, which isn't below the lower bound, and which gives nothing or not
pub record StandsIn {C : Type 0} (items : C → List Item) (place : C → ℕ) (x : Down C) (v : Item) (passed : Bool) : Type 0 where
  pub at : Some v ≡ standing (items x.cursor) (place x.cursor)
  pub inside : is_below v.sort_key.key (least_key x.low) ≡ false
  pub is : is_passed x.high x.t.0 x.s.0 v ≡ passed

abbrev pub rest_of : Way → List Row
rest_of (ways.Up x) = rest_up (λ m. walked_sources m.children.items) (λ m. source_walk_place m.before m.children.items) x
rest_of (ways.Down x) = rest_down (λ m. walked_sources m.children.items) (λ m. source_walk_place m.before m.children.items) x

abbrev pub rest : Scan → List Row
rest x = rest_of x.way

-- the rows of an answer
abbrev pub rows_given : Option Row → List Row
rows_given None = []
rows_given (Some row) = row ∷ []

-- in which order rows are given
abbrev pub in_order_of : Bool → List Row → List Row
in_order_of forward rows = if forward then rows else reverse rows
