use Rattle.std.proofs.Common.{◌≡◌, ◌++◌, map, take}
use Rattle.std.specs.Arc.{arc_value}
use Rattle.std.specs.List.{flat_map}
use Rattle.super_version.specs.Contents.{items_of_level}
use Rattle.ts_iterator.specs.Sources.{items_of_all}
use Rattle.ts_iterator.proofs.sources.push_levels.Given as goal

abbrev pub invariant-loop-tables : goal.invariant-loop-tables
invariant-loop-tables l = items_of_all l.sources.items ≡ items_of_all l.initial.sources.items ++ flat_map items_of_level (map arc_value (take l.tables-index l.levels))
