use Rattle.std.proofs.Common.{◌≡◌, map, take}
use Rattle.std.specs.Arc.{arc_value}
use Rattle.std.specs.List.{flat_map}
use Rattle.super_version.specs.Contents.{items_of_level}
use Rattle.store_engine.specs.Admission.{latest_stamp}
use Rattle.store_engine.proofs.latest.latest_in_levels.Given as goal

abbrev pub invariant-loop-tables : goal.invariant-loop-tables
invariant-loop-tables l = l.latest ≡ latest_stamp (flat_map items_of_level (map arc_value (take l.tables-index l.levels)))
