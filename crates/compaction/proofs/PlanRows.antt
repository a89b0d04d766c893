-- Plans of a few tables, worked out.
use Rattle.std.proofs.Common.{◌≡◌, ℕ, List, [], ◌∷◌, map, refl, Some, None}
use Rattle.std.specs.Prelude.{Option, option_map}
use Rattle.ts_key.specs.declared.version.Form.TheVariants.{Persist}
use Rattle.ts_key.specs.declared.version.Kind.TheVariants.{Del}
use Rattle.ts_key.specs.Items.{Item}
use Rattle.super_version.specs.Live.{Live}
use Rattle.super_version.specs.declared.jobs.Plan.{Plan}
use Rattle.udt_model.specs.declared.reply.KeySpan.{KeySpan}
use Rattle.compaction.specs.Plans.{by_number, on_levels, picked_of, whole_of}

abbrev delete_of : ℕ → ℕ → Item
delete_of key seq = record { sort_key = record { key = key ∷ []; ts = 0; seq = seq }; kind = Del; value = [] }

-- a table of two keys
abbrev table : ℕ → ℕ → ℕ → Live
table number low high = record { number = number; table = record { image = []; contents = record { family = 0; form = Persist; collected_by = 0; items = delete_of low 1 ∷ delete_of high 2 ∷ [] } } }

record Told : Type 0 where
  inputs : List ℕ
  level : ℕ
  deeper : List KeySpan

abbrev told : Option Plan → Option Told
told plan = option_map (λ p. record { inputs = map (λ t. t.number) p.inputs; level = p.level; deeper = p.deeper }) plan

abbrev span : ℕ → ℕ → KeySpan
span low high = record { low = low ∷ []; high = high ∷ [] }

-- four tables of level 0 from 97 to 102, and on level 1 one that meets them and one that doesn't
abbrev levels : List (List Live)
levels = (table 10 97 98 ∷ table 9 98 100 ∷ table 8 101 102 ∷ table 7 97 99 ∷ []) ∷ (table 3 98 99 ∷ table 4 120 122 ∷ []) ∷ [] ∷ [] ∷ [] ∷ [] ∷ [] ∷ []

four_are_picked : told (picked_of (record { 0 = 0 }) (by_number (on_levels 0 levels))) ≡ Some (record { inputs = 3 ∷ 7 ∷ 8 ∷ 9 ∷ 10 ∷ []; level = 1; deeper = [] })
four_are_picked = refl

all_are_whole : told (whole_of (record { 0 = 0 }) (by_number (on_levels 0 levels))) ≡ Some (record { inputs = 3 ∷ 4 ∷ 7 ∷ 8 ∷ 9 ∷ 10 ∷ []; level = 6; deeper = [] })
all_are_whole = refl

-- below level 1 there is one more, which isn't taken
abbrev with_deeper : List (List Live)
with_deeper = (table 10 97 98 ∷ table 9 98 100 ∷ table 8 101 102 ∷ table 7 97 99 ∷ []) ∷ (table 3 98 99 ∷ []) ∷ (table 2 90 110 ∷ []) ∷ [] ∷ [] ∷ [] ∷ [] ∷ []

one_is_deeper : told (picked_of (record { 0 = 0 }) (by_number (on_levels 0 with_deeper))) ≡ Some (record { inputs = 3 ∷ 7 ∷ 8 ∷ 9 ∷ 10 ∷ []; level = 1; deeper = span 90 110 ∷ [] })
one_is_deeper = refl

-- one table is whole and due for nothing
one_is_whole : told (whole_of (record { 0 = 0 }) (by_number (on_levels 0 ((table 3 97 97 ∷ []) ∷ [] ∷ [])))) ≡ Some (record { inputs = 3 ∷ []; level = 6; deeper = [] })
one_is_whole = refl

one_is_not_picked : told (picked_of (record { 0 = 0 }) (by_number (on_levels 0 ((table 3 97 97 ∷ []) ∷ [] ∷ [])))) ≡ None
one_is_not_picked = refl
