-- A tree of games between sides, which the one with the lowest front wins.
use Rattle.std.specs.Prelude.{◌≡◌, ◌≢◌, ℕ, zero, suc, ◌+◌, ◌-◌, ◌*◌, ◌/◌, ◌<◌, ◌≤◌, ◌⊎◌, length, get_or, nat_lt, List, Option, Some, true, false, slice_get, if◌then◌else◌}
use Rattle.ts_key.specs.Order.{SortKey}
use Rattle.merge_cursor.specs.Sides.{Side, front_of, is_lower}

-- where the first version stands that a side hasn't passed
abbrev pub front_at : List Side → ℕ → Option SortKey
front_at ss i = front_of (slice_get ss i)

-- side j stands no lower than side i, and where it is the earlier one it stands higher
pub record GoesBefore (ss : List Side) (i j : ℕ) : Type 0 where
  pub least : is_lower (front_at ss j) (front_at ss i) ≡ false
  pub first : (p : SortKey) → front_at ss i ≡ Some p → j < i → is_lower (Some p) (front_at ss j) ≡ true

-- the one of two that goes before the other
pub record IsBetter (ss : List Side) (a b best : ℕ) : Type 0 where
  pub one : best ≢ a → best ≡ b
  pub left : GoesBefore ss best a
  pub right : GoesBefore ss best b

-- the side that stands at a place: at a leaf its own, and else the winner of the game there
abbrev pub winner_at : List ℕ → ℕ → ℕ
winner_at winners place = if nat_lt place (length winners) then get_or winners place 0 else place - length winners

-- the winner at a place is the better of the two below
abbrev pub IsWon : List Side → List ℕ → ℕ → Type 0
IsWon ss winners place = IsBetter ss (winner_at winners (2 * place)) (winner_at winners (2 * place + 1)) (winner_at winners place)

-- at all places
abbrev pub AreWon : List Side → List ℕ → Type 0
AreWon ss winners = (place : ℕ) → 1 ≤ place → place < length winners → IsWon ss winners place

abbrev pub halved : ℕ → ℕ → ℕ
halved zero place = place
halved (suc times) place = halved times (place / 2)

-- a place on the way from another, with it, to the top
abbrev pub IsAbove : ℕ → ℕ → Type 0
IsAbove place from = (times : ℕ) × (halved times from ≡ place)

-- at all places but those on the way from one to the top
abbrev pub AreWonBut : List Side → List ℕ → ℕ → Type 0
AreWonBut ss winners from = (place : ℕ) → 1 ≤ place → place < length winners → IsWon ss winners place ⊎ IsAbove place from
