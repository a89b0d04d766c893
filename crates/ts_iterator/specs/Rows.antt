-- The rows of a scan over versions without their family.
use Rattle.std.specs.Prelude.{ℕ, Bool, false, not, ◌&&◌, ◌||◌, if◌then◌else◌, List, [], ◌∷◌, ◌++◌, filter, Option, Some, None}
use Rattle.std.specs.List.{flat_map}
use Rattle.std.specs.Str.{bytes_eq}
use Rattle.ts_key.specs.declared.numbers.Ts.{Ts}
use Rattle.ts_key.specs.declared.version.Kind.{Kind}
use Rattle.ts_key.specs.declared.version.Kind.TheVariants as kinds
use Rattle.ts_key.specs.Items.{Item}
use Rattle.ts_key.specs.Order.{SortKey}
use Rattle.ts_key.specs.Visible.{is_item_within, visible_item}
use Rattle.udt_model.specs.declared.reply.Row.{Row}
use Rattle.udt_model.specs.Orders.{is_below}
use Rattle.udt_model.specs.Reads.{stamp_of}
use Rattle.udt_model.specs.Scans.{with_key}

-- ---- the row of a version

abbrev pub row_at : Ts → Item → Row
row_at floor v = record { key = v.sort_key.key; value = v.value; stamp = stamp_of floor (record { 0 = v.sort_key.ts }) }

-- a put gives its row, a delete none
abbrev pub given_by : Kind → Row → List Row
given_by kinds.Del row = []
given_by kinds.Put row = row ∷ []

abbrev pub emit : Ts → Item → List Row
emit floor v = given_by v.kind (row_at floor v)

abbrev pub emit_of : Ts → Option Item → List Row
emit_of floor None = []
emit_of floor (Some v) = emit floor v

-- ---- the rows of a range

-- the keys of versions, ascending, each once
abbrev pub keys : List Item → List (List ℕ)
keys [] = []
keys (v ∷ vs) = with_key v.sort_key.key (keys vs)

-- the key isn't below the upper bound
abbrev pub is_past : Option (List ℕ) → List ℕ → Bool
is_past None key = false
is_past (Some high) key = not (is_below key high)

-- the least key that isn't below the lower bound
abbrev pub least_key : Option (List ℕ) → List ℕ
least_key None = []
least_key (Some low) = low

abbrev pub is_key_between : List ℕ → Option (List ℕ) → List ℕ → Bool
is_key_between low high key = not (is_below key low) && not (is_past high key)

-- the rows of a range at a timestamp and a sequence, ascending
abbrev pub range_rows : List Item → Ts → List ℕ → Option (List ℕ) → ℕ → ℕ → List Row
range_rows vs floor low high t s = flat_map (λ key. emit_of floor (visible_item vs key t s)) (filter (is_key_between low high) (keys vs))

-- ---- the same on a list in the stored order, version by version

abbrev pub is_decided : Option (List ℕ) → List ℕ → Bool
is_decided None key = false
is_decided (Some decided) key = bytes_eq decided key

-- where the versions of a key end that give nothing more: behind all of them where the key is decided, else at the first that
-- the read may see
abbrev pub end_of : Option (List ℕ) → List ℕ → ℕ → ℕ → SortKey
end_of decided key t s = if is_decided decided key then record { key = key; ts = 0; seq = 0 } else record { key = key; ts = t; seq = s }

-- upwards, where the versions of the key that is decided give nothing more; it ends at the upper bound
abbrev pub rows_up : Ts → Option (List ℕ) → ℕ → ℕ → Option (List ℕ) → List Item → List Row
rows_up floor high t s decided [] = []
rows_up floor high t s decided (v ∷ vs) = if is_past high v.sort_key.key then [] else (if is_decided decided v.sort_key.key || not (is_item_within t s v) then rows_up floor high t s decided vs else emit floor v ++ rows_up floor high t s (Some v.sort_key.key) vs)

abbrev pub are_of_one_key : Item → Item → Bool
are_of_one_key a b = bytes_eq a.sort_key.key b.sort_key.key

-- what the last one found gives, where v is the next one that the read sees
abbrev pub given_before : Ts → Option Item → Item → List Row
given_before floor None v = []
given_before floor (Some b) v = if are_of_one_key b v then [] else emit floor b

-- downwards, a version that gives nothing: it isn't below the upper bound, or the read doesn't see it
abbrev pub is_passed : Option (List ℕ) → ℕ → ℕ → Item → Bool
is_passed high t s v = is_past high v.sort_key.key || not (is_item_within t s v)

-- downwards, over the versions from the greatest on, where `best` is the last one found; below the lower bound it ends
abbrev pub rows_down : Ts → List ℕ → Option (List ℕ) → ℕ → ℕ → Option Item → List Item → List Row
rows_down floor low high t s best [] = emit_of floor best
rows_down floor low high t s best (v ∷ vs) = if is_below v.sort_key.key low then emit_of floor best else (if is_passed high t s v then rows_down floor low high t s best vs else given_before floor best v ++ rows_down floor low high t s (Some v) vs)
