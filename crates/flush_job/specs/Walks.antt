-- The versions of runs that cursors walk over.
use Rattle.std.specs.Prelude.{◌≡◌, ℕ, ◌-◌, Bool, true, List, [], ◌∷◌, drop, map, take, Option, Some, None}
use Rattle.std.specs.List.{AllByRecursion, flat_map}
use Rattle.ts_key.specs.declared.numbers.Family.{Family}
use Rattle.ts_key.specs.declared.version.Version.{Version}
use Rattle.ts_key.specs.Items.{items_of}
use Rattle.sorted_run.specs.Sorts.{sorted}
use Rattle.memtable.specs.Memtables.{Memtable, joined, versions_of_memtable}
use Rattle.merge_cursor.specs.Sides.{merged_place, sides}
use Rattle.merge_cursor.specs.declared.slice.SliceCursor.{SliceCursor}
use Rattle.udt_model.specs.declared.reply.KeySpan.{KeySpan}
use Rattle.udt_model.specs.Orders.{is_in}

-- the versions of all memtables
abbrev pub versions_of_all : List Memtable → List Version
versions_of_all ms = flat_map versions_of_memtable ms

-- what cursors walk over, in the stored order
abbrev pub runs_of : List SliceCursor → List (List Version)
runs_of cs = map (λ c. c.versions.now) cs

abbrev pub walked : List SliceCursor → List Version
walked cs = sorted (joined (runs_of cs))

-- where a cursor over all of them stands: 0 before the first, i + 1 at the one with index i, and one more after the last
abbrev pub walk_place : Bool → List SliceCursor → ℕ
walk_place before cs = merged_place before (sides (λ c. items_of c.versions.now) (λ c. c.place) cs)

-- what a walk has passed, and what it hasn't
abbrev pub passed_at : ℕ → List SliceCursor → List Version
passed_at place cs = take (place - 1) (walked cs)

abbrev pub left_at : ℕ → List SliceCursor → List Version
left_at place cs = drop (place - 1) (walked cs)

-- the span holds the keys of all versions
abbrev pub Covers : KeySpan → List Version → Type 0
Covers span vs = AllByRecursion (λ v. is_in span v.key ≡ true) vs

-- there is no version, or the first is of this family and the span holds all keys
abbrev pub IsSpanOf : List Version → Option (Family × KeySpan) → Type 0
IsSpanOf vs None = vs ≡ []
IsSpanOf [] (Some found) = ⊥
IsSpanOf (v ∷ vs) (Some found) = (found.0 ≡ v.family) × Covers found.1 (v ∷ vs)
