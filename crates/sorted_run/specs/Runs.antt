-- What a run of versions says.
use Rattle.std.specs.Prelude.{◌≡◌, ℕ, Bool, List, [], ◌∷◌, map, find, max, Option}
use Rattle.std.specs.Str.{bytes_eq}
use Rattle.std.specs.Ordering.{is_lt, nat_cmp}
use Rattle.std.specs.Cmp.Lexicographic.{slice_cmp}
use Rattle.ts_key.specs.declared.version.Version.{Version}
use Rattle.ts_key.specs.Items.{item_of, items_of}
use Rattle.ts_key.specs.Lists.{IsOrdered}
use Rattle.ts_key.specs.Visible.{is_item_seen}

-- its key is below this one
abbrev pub has_key_below : List ℕ → Version → Bool
has_key_below key v = is_lt (slice_cmp nat_cmp v.key key)

abbrev pub has_key : List ℕ → Version → Bool
has_key key v = bytes_eq v.key key

-- a read of the key at this timestamp and this sequence may see it
abbrev pub sees : List ℕ → ℕ → ℕ → Version → Bool
sees key t s v = is_item_seen key t s (item_of v)

-- the first version that the read sees
abbrev pub first_seen : List Version → List ℕ → ℕ → ℕ → Option Version
first_seen vs key t s = find (sees key t s) vs

-- the timestamps, in order
abbrev pub stamps_of : List Version → List ℕ
stamps_of vs = map (λ v. v.ts.0) vs

-- the greatest timestamp, 0 where there is no version
abbrev pub latest_of : List Version → ℕ
latest_of [] = 0
latest_of (v ∷ vs) = max v.ts.0 (latest_of vs)

-- the versions of a run are in the stored order; beside them stand their timestamps and the greatest one
pub record IsSortedRun (vs : List Version) (ts : List ℕ) (top : ℕ) : Type 0 where
  pub order : IsOrdered (items_of vs)
  pub stamps : ts ≡ stamps_of vs
  pub latest : top ≡ latest_of vs
