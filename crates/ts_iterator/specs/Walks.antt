-- What lies before a cursor that goes up, and before one that goes down.
use Rattle.std.specs.Prelude.{◌≡◌, ℕ, zero, suc, ◌-◌, ◌^◌, ◌≤◌, true, nat_le, if◌then◌else◌, List, [], drop, length, reverse, take, Option, Some, None}
use Rattle.ts_key.specs.Items.{Item}
use Rattle.ts_key.specs.Lists.{below, standing}
use Rattle.ts_key.specs.Order.{SortKey}
use Rattle.ts_key.specs.Visible.{is_item_seen}

-- the items from its place on; none where it stands before the first
abbrev pub ahead : {X : Type 0} → ℕ → List X → List X
ahead zero xs = []
ahead (suc n) xs = drop n xs

-- the items from its place back; none where it stands after the last
abbrev pub back_from : {X : Type 0} → ℕ → List X → List X
back_from place xs = if nat_le place (length xs) then reverse (take place xs) else []

-- where a key's versions begin
abbrev pub top_of : List ℕ → SortKey
top_of key = record { key = key; ts = 2 ^ 64 - 1; seq = 2 ^ 64 - 1 }

-- the place is that of the last version before the upper bound, and the last of all where there is no bound
abbrev pub IsLastBelow : Option (List ℕ) → ℕ → List Item → Type 0
IsLastBelow None place vs = place ≡ length vs
IsLastBelow (Some high) place vs = place ≡ below (top_of high) vs

-- the place isn't behind a version that the read of the key sees
abbrev pub IsUptoSeen : List ℕ → ℕ → ℕ → List Item → ℕ → Type 0
IsUptoSeen key t s vs place = (p : ℕ) (v : Item) → Some v ≡ standing vs p → is_item_seen key t s v ≡ true → place ≤ p

-- at the place stands what was found, which the read of the key sees, and it isn't behind another place
pub record StandsUpto (key : List ℕ) (t s : ℕ) (vs : List Item) (other place : ℕ) (found : Option Item) : Type 0 where
  pub it : Item
  pub is : found ≡ Some it
  pub stands : Some it ≡ standing vs place
  pub seen : is_item_seen key t s it ≡ true
  pub upto : place ≤ other
