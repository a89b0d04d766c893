-- Cursors of two kinds, and what those of a family walk over.
use Rattle.std.specs.Prelude.{ℕ, ◌+◌, ◌≤◌, Bool, List, ◌++◌, length, map}
use Rattle.std.specs.List.{flat_map}
use Rattle.ts_key.specs.Items.{Item, items_of}
use Rattle.ts_key.specs.Lists.{IsOrdered, joined_lists}
use Rattle.ts_key.specs.Ordered.{ordered_from}
use Rattle.memtable.specs.Memtables as memtables
use Rattle.memtable.specs.Memtables.{Memtable}
use Rattle.merge_cursor.specs.Slices.{length_within}
use Rattle.merge_cursor.specs.Sides.{all, merged_place, sides}
use Rattle.super_version.specs.declared.family.FamilyState.{FamilyState}
use Rattle.super_version.specs.Contents.{items_of_level}
use Rattle.ts_iterator.specs.declared.source.Source.{Source}
use Rattle.ts_iterator.specs.declared.source.Source.TheVariants.{Run, Table}

abbrev pub items : Source → List Item
items (Run c) = items_of c.versions.now
items (Table c) = c.block.now

abbrev pub place : Source → ℕ
place (Run c) = c.place
place (Table c) = c.place

pub ordered : (s : Source) → IsOrdered (items s)
ordered (Run c) = c.ordered
ordered (Table c) = ordered_from c.block.now c.sorted

pub within : (s : Source) → place s ≤ length (items s) + 1
within (Run c) = length_within c.versions.now c.place c.within
within (Table c) = c.within

-- what several walk over, one after the other
abbrev pub items_of_all : List Source → List Item
items_of_all sources = joined_lists (map items sources)

-- the runs of a memtable, one after the other
abbrev pub items_of_runs : Memtable → List Item
items_of_runs m = items_of (memtables.joined m.runs)

-- the runs of the active memtable, those of the sealed ones, and the tables level by level
abbrev pub runs_and_tables : FamilyState → List Item
runs_and_tables f = items_of_runs f.active ++ (flat_map items_of_runs f.sealed ++ flat_map items_of_level f.levels)

-- ---- a walk over several

abbrev pub walked_sources : List Source → List Item
walked_sources sources = all (sides items place sources)

-- where it stands: 0 before the first, i + 1 at the one with index i, and one more after the last
abbrev pub source_walk_place : Bool → List Source → ℕ
source_walk_place before sources = merged_place before (sides items place sources)
