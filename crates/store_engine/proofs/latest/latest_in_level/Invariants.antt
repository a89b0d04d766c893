use Rattle.std.proofs.Common.{◌≡◌, map, take}
use Rattle.std.specs.Arc.{arc_value}
use Rattle.std.specs.List.{flat_map}
use Rattle.super_version.specs.Contents.{items_of_table}
use Rattle.store_engine.specs.Admission.{latest_stamp}
use Rattle.store_engine.proofs.latest.latest_in_level.Given as goal

abbrev pub invariant-loop-table : goal.invariant-loop-table
invariant-loop-table l = l.latest ≡ latest_stamp (flat_map items_of_table (map arc_value (take l.table-index l.tables)))
