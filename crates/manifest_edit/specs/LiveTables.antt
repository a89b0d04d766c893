-- The live tables of a family, by ascending number.
use Rattle.std.specs.Prelude.{ℕ, Bool, not, nat_lt, ◌==◌, if◌then◌else◌, List, [], ◌∷◌, filter, map}
use Rattle.std.specs.List.{list_any}
use Rattle.manifest_edit.specs.declared.edit.TableAt.{TableAt}

-- one of the tables has this number
abbrev pub has_table_number : List TableAt → ℕ → Bool
has_table_number ts n = list_any (λ (t : TableAt). t.number == n) ts

-- a table put at its place: in front of the first that has a greater number, and over the one that has its own
abbrev pub place_table : TableAt → List TableAt → List TableAt
place_table t [] = t ∷ []
place_table t (u ∷ us) = if nat_lt t.number u.number then t ∷ u ∷ us else (if t.number == u.number then t ∷ us else u ∷ place_table t us)

-- each of these put at its place
abbrev pub place_tables : List TableAt → List TableAt → List TableAt
place_tables [] ts = ts
place_tables (u ∷ us) ts = place_tables us (place_table u ts)

-- the tables without that of this number
abbrev pub without_table : List TableAt → ℕ → List TableAt
without_table ts n = filter (λ (t : TableAt). not (t.number == n)) ts

-- the tables of which none has one of these numbers
abbrev pub without_tables : List ℕ → List TableAt → List TableAt
without_tables ns ts = filter (λ (t : TableAt). not (list_any (λ n. t.number == n) ns)) ts

-- the table of an entry of a map from numbers to levels
abbrev pub entry_table : ℕ × ℕ → TableAt
entry_table e = record { level = e.1; number = e.0 }

abbrev pub entry_tables : List (ℕ × ℕ) → List TableAt
entry_tables es = map entry_table es
