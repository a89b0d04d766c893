-- Which of the versions without their family a read sees.
use Rattle.std.specs.Prelude.{ℕ, Bool, ◌==◌, nat_lt, nat_le, ◌&&◌, ◌||◌, if◌then◌else◌, List, [], ◌∷◌, filter, Option, Some, None, option_map}
use Rattle.std.specs.Str.{bytes_eq}
use Rattle.ts_key.specs.Items.{Item}

-- it has a larger timestamp, or the same and a larger sequence
abbrev pub is_item_newer : Item → Item → Bool
is_item_newer a b = nat_lt b.sort_key.ts a.sort_key.ts || (a.sort_key.ts == b.sort_key.ts && nat_lt b.sort_key.seq a.sort_key.seq)

-- the newer of two, the first where neither is
abbrev pub newer_item : Option Item → Option Item → Option Item
newer_item None b = b
newer_item (Some a) None = Some a
newer_item (Some a) (Some b) = if is_item_newer b a then Some b else Some a

-- the newest of a list
abbrev pub newest_item : List Item → Option Item
newest_item [] = None
newest_item (v ∷ vs) = newer_item (Some v) (newest_item vs)

-- it is of this key
abbrev pub is_item_of : List ℕ → Item → Bool
is_item_of key v = bytes_eq v.sort_key.key key

-- it isn't above this timestamp and this sequence
abbrev pub is_item_within : ℕ → ℕ → Item → Bool
is_item_within t s v = nat_le v.sort_key.ts t && nat_le v.sort_key.seq s

-- a read of the key at this timestamp and this sequence may see it
abbrev pub is_item_seen : List ℕ → ℕ → ℕ → Item → Bool
is_item_seen key t s v = is_item_of key v && is_item_within t s v

-- among the versions of the key with timestamps up to t and sequences up to s the newest
abbrev pub visible_item : List Item → List ℕ → ℕ → ℕ → Option Item
visible_item vs key t s = newest_item (filter (is_item_seen key t s) vs)

-- the newest version of the key
abbrev pub newest : List Item → List ℕ → Option Item
newest vs key = newest_item (filter (is_item_of key) vs)

-- the greatest timestamp of the key
abbrev pub newest_ts : List Item → List ℕ → Option ℕ
newest_ts vs key = option_map (λ v. v.sort_key.ts) (newest vs key)

-- the first that passes a test
abbrev pub first_of : {X : Type 0} → (X → Bool) → List X → Option X
first_of p [] = None
first_of p (v ∷ vs) = if p v then Some v else first_of p vs
