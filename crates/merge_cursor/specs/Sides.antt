-- Several lists, each with a count_of of versions that are passed.
use Rattle.std.specs.Prelude.{◌≡◌, ℕ, ◌+◌, ◌-◌, ◌≤◌, ◌<◌, length, not, get_or, List, [], ◌∷◌, Bool, true, false, map, Option, Some, None, slice_get, if◌then◌else◌}
use Rattle.std.specs.Borrow.{Bor}
use Rattle.ts_key.specs.Order.{SortKey, sort_key_of, is_before}
use Rattle.ts_key.specs.Items.{Item}
use Rattle.ts_key.specs.Lists.{standing, merged}
use Rattle.ts_key.specs.declared.lent.KeyRef.{KeyRef}

-- a list of versions, and how many of them are passed
pub record Side : Type 0 where
  pub versions : List Item
  pub passed : ℕ

-- the side of a cursor
abbrev pub side : {C : Type 0} → (C → List Item) → (C → ℕ) → C → Side
side items place c = record { versions = items c; passed = place c - 1 }

abbrev pub sides : {C : Type 0} → (C → List Item) → (C → ℕ) → List C → List Side
sides items place cs = map (side items place) cs

-- the first place is lower; none is above all
abbrev pub is_lower : Option SortKey → Option SortKey → Bool
is_lower None b = false
is_lower (Some a) None = true
is_lower (Some a) (Some b) = is_before a b

-- the first is no higher, and there is one
abbrev pub is_first : Option SortKey → Option SortKey → Bool
is_first None b = false
is_first (Some a) b = not (is_lower b (Some a))

-- the sort key of a lent key
abbrev pub key_lent : Option KeyRef → Option SortKey
key_lent None = None
key_lent (Some k) = Some (sort_key_of k)

abbrev pub key_in : Option Item → Option SortKey
key_in None = None
key_in (Some v) = Some v.sort_key

-- where the first version that isn't passed stands
abbrev pub front : Side → Option SortKey
front s = key_in (slice_get s.versions s.passed)

-- the first is higher, where there is none below all
abbrev pub is_higher : Option SortKey → Option SortKey → Bool
is_higher None b = false
is_higher (Some a) None = true
is_higher (Some a) (Some b) = is_before b a

-- where the last version stands that is passed
abbrev pub back : Side → Option SortKey
back s = key_in (standing s.versions s.passed)

abbrev pub back_of : Option Side → Option SortKey
back_of None = None
back_of (Some s) = back s

abbrev pub front_of : Option Side → Option SortKey
front_of None = None
front_of (Some s) = front s

abbrev pub passed : List Side → ℕ
passed [] = 0
passed (s ∷ ss) = s.passed + passed ss

abbrev pub lists : List Side → List (List Item)
lists ss = map (λ s. s.versions) ss

abbrev pub all : List Side → List Item
all ss = merged (lists ss)

-- the place of the merged list: before the first, or behind what is passed
abbrev pub merged_place : Bool → List Side → ℕ
merged_place before ss = if before then 0 else passed ss + 1

-- the cursor stands at this version; with no cursor there is none
abbrev pub StandsAt : {C : Type 0} → (C → List Item) → (C → ℕ) → Option (Bor C) → Option Item → Type 0
StandsAt items place None shown = shown ≡ None
StandsAt items place (Some c) shown = standing (items c.now) (place c.now) ≡ shown

-- a version that is passed, and one that isn't: the first isn't after the second
abbrev pub is_upto : Option SortKey → Option SortKey → Bool
is_upto None b = true
is_upto (Some a) None = true
is_upto (Some a) (Some b) = not (is_before b a)

-- the first is before the second
abbrev pub is_apart : Option SortKey → Option SortKey → Bool
is_apart None b = true
is_apart (Some a) None = true
is_apart (Some a) (Some b) = is_before a b

-- `low` is the first side of those whose front is lowest
pub record IsLow (ss : List Side) (low : ℕ) : Type 0 where
  pub least : (k : ℕ) (d : Side) → k < length ss → is_lower (front (get_or ss k d)) (front_of (slice_get ss low)) ≡ false
  pub first : (p : SortKey) → front_of (slice_get ss low) ≡ Some p → (k : ℕ) (d : Side) → k < low → k < length ss → is_lower (Some p) (front (get_or ss k d)) ≡ true
  pub none : front_of (slice_get ss low) ≡ None → length ss ≤ low

-- `top` is the last side of those whose last passed version is highest
pub record IsTop (ss : List Side) (top : ℕ) : Type 0 where
  pub most : (k : ℕ) (d : Side) → k < length ss → is_higher (back (get_or ss k d)) (back_of (slice_get ss top)) ≡ false
  pub last : (p : SortKey) → back_of (slice_get ss top) ≡ Some p → (k : ℕ) (d : Side) → top < k → k < length ss → is_higher (Some p) (back (get_or ss k d)) ≡ true
  pub none : back_of (slice_get ss top) ≡ None → length ss ≤ top

-- what is passed comes before what isn't; of two at one place that of the side of smaller index comes first
pub record AreSidesCut (ss : List Side) : Type 0 where
  pub inside : (k : ℕ) (d : Side) → k < length ss → (get_or ss k d).passed ≤ length (get_or ss k d).versions
  pub upto : (i j : ℕ) (d e : Side) → i < length ss → j < length ss → i ≤ j → is_upto (back (get_or ss i d)) (front (get_or ss j e)) ≡ true
  pub apart : (i j : ℕ) (d e : Side) → i < length ss → j < length ss → j < i → is_apart (back (get_or ss i d)) (front (get_or ss j e)) ≡ true

-- the sides stand at their lowest version, which the one with index a has
pub record IsMerge (ss : List Side) (a : ℕ) : Type 0 where
  pub cut : AreSidesCut ss
  pub low : IsLow ss a
