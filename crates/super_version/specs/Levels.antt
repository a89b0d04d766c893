-- Tables level by level, and what a compaction makes of them.
use Rattle.std.specs.Prelude.{◌≡◌, ℕ, zero, suc, ◌+◌, ◌==◌, Bool, false, not, nat_lt, if◌then◌else◌, List, [], ◌∷◌, filter, map}
use Rattle.std.specs.List.{AllByRecursion, list_any}
use Rattle.std.specs.Ordering.{nat_cmp, is_lt}
use Rattle.std.specs.Cmp.Lexicographic.{slice_cmp}
use Rattle.block_table.specs.Contents.{properties_of}
use Rattle.block_table.specs.declared.properties.Properties.{Properties}
use Rattle.super_version.specs.Live.{Live}

abbrev pub table_properties : Live → Properties
table_properties t = properties_of t.table.contents

-- the item at this index is changed
abbrev pub item_changed_at : {X : Type 0} → ℕ → (X → X) → List X → List X
item_changed_at n change [] = []
item_changed_at zero change (x ∷ xs) = change x ∷ xs
item_changed_at (suc n) change (x ∷ xs) = x ∷ item_changed_at n change xs

-- it has none of these numbers
abbrev pub is_table_kept : List ℕ → Live → Bool
is_table_kept gone t = not (list_any (λ n. n == t.number) gone)

-- On level 0 the table with the greater greatest sequence stands before the other, on every other level the one with the smaller
-- least key.
abbrev pub stands_before : ℕ → Live → Live → Bool
stands_before level a b = if level == 0 then nat_lt (table_properties b).greatest_seq.0 (table_properties a).greatest_seq.0 else is_lt (slice_cmp nat_cmp (table_properties a).least (table_properties b).least)

-- how many at the front of a level stand before this one
abbrev pub count_before : ℕ → Live → List Live → ℕ
count_before level t [] = 0
count_before level t (o ∷ os) = if stands_before level o t then count_before level t os + 1 else 0

-- put behind those at the front of the level that stand before it
abbrev pub placed_on_level : ℕ → Live → List Live → List Live
placed_on_level level t [] = t ∷ []
placed_on_level level t (o ∷ os) = if stands_before level o t then o ∷ placed_on_level level t os else t ∷ o ∷ os

-- one after the other
abbrev pub placed_all : ℕ → List Live → List Live → List Live
placed_all level [] tables = tables
placed_all level (t ∷ ts) tables = placed_all level ts (placed_on_level level t tables)

-- the tables of these numbers leave, and others are put where they belong on a level
abbrev pub compacted_levels : List ℕ → ℕ → List Live → List (List Live) → List (List Live)
compacted_levels gone level added levels = item_changed_at level (placed_all level added) (map (filter (is_table_kept gone)) levels)

-- no table of a level stands before one that comes before it
abbrev pub StandInOrder : ℕ → List Live → Type 0
StandInOrder level [] = Unit {0}
StandInOrder level (t ∷ ts) = AllByRecursion (λ (o : Live). stands_before level o t ≡ false) ts × StandInOrder level ts
