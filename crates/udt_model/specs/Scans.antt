-- What a scan of a range at a timestamp answers.
use Rattle.std.specs.Prelude.{ℕ, Bool, true, ◌==◌, ◌&&◌, if◌then◌else◌, List, [], ◌∷◌, reverse, take, filter, filter_map, Option, Some, None}
use Rattle.std.specs.Str.{bytes_eq}
use Rattle.ts_key.specs.declared.numbers.Family.{Family}
use Rattle.ts_key.specs.declared.numbers.Ts.{Ts}
use Rattle.ts_key.specs.declared.numbers.Seq.{Seq}
use Rattle.ts_key.specs.declared.version.Version.{Version}
use Rattle.udt_model.specs.declared.reply.Row.{Row}
use Rattle.udt_model.specs.declared.read.Answer.{Answer}
use Rattle.udt_model.specs.declared.read.Answer.TheVariants.{Absent, Found}
use Rattle.udt_model.specs.Versions.{visible}
use Rattle.udt_model.specs.Orders.{is_below, is_at_most}
use Rattle.udt_model.specs.Reads.{answer_of}

-- ---- the keys of a family

-- a key put where it belongs among ascending keys, unless it is there
abbrev pub with_key : List ℕ → List (List ℕ) → List (List ℕ)
with_key key [] = key ∷ []
with_key key (o ∷ os) = if is_below key o then key ∷ o ∷ os else if bytes_eq key o then o ∷ os else o ∷ with_key key os

-- the keys that a family has versions of, ascending, each once
abbrev pub keys_of : List Version → Family → List (List ℕ)
keys_of [] family = []
keys_of (v ∷ vs) family = if v.family.0 == family.0 then with_key v.key (keys_of vs family) else keys_of vs family

-- ---- ranges

-- the keys from low on and below high; a bound that is missing bounds nothing
pub record Range : Type 0 where
  pub low : Option (List ℕ)
  pub high : Option (List ℕ)

abbrev pub is_from : Option (List ℕ) → List ℕ → Bool
is_from None key = true
is_from (Some low) key = is_at_most low key

abbrev pub is_under : Option (List ℕ) → List ℕ → Bool
is_under None key = true
is_under (Some high) key = is_below key high

abbrev pub is_in_range : Range → List ℕ → Bool
is_in_range range key = is_from range.low key && is_under range.high key

-- ---- the rows

abbrev pub row_of : List ℕ → Answer → Option Row
row_of key Absent = None
row_of key (Found value stamp) = Some (record { key = key; value = value; stamp = stamp })

-- the keys of the range that a read at t finds with sequences up to s, ascending, each with what it finds
abbrev pub rows_of : List Version → Ts → Family → Range → Ts → Seq → List Row
rows_of w floor family range t s = filter_map (λ key. row_of key (answer_of floor (visible w family key t s))) (filter (is_in_range range) (keys_of w family))

-- the first `limit` of them, from the low end or from the high one
abbrev pub limited : ℕ → Bool → List Row → List Row
limited limit forward rows = take limit (if forward then rows else reverse rows)
