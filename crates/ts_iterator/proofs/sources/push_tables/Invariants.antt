use Rattle.std.proofs.Common.{◌≡◌, ◌++◌, map, take}
use Rattle.std.specs.Arc.{arc_value}
use Rattle.super_version.specs.Contents.{items_of_level}
use Rattle.ts_iterator.specs.Sources.{items_of_all}
use Rattle.ts_iterator.proofs.sources.push_tables.Given as goal

abbrev pub invariant-loop-table : goal.invariant-loop-table
invariant-loop-table l = items_of_all l.sources.items ≡ items_of_all l.initial.sources.items ++ items_of_level (map arc_value (take l.table-index l.tables))
