use Rattle.std.proofs.Common.{◌≡◌, map, take}
use Rattle.std.specs.Arc.{arc_value}
use Rattle.std.specs.List.{flat_map}
use Rattle.super_version.specs.Contents.{items_of_memtable}
use Rattle.store_engine.specs.Admission.{latest_stamp}
use Rattle.store_engine.proofs.latest.latest_in_mems.Given as goal

abbrev pub invariant-loop-mem : goal.invariant-loop-mem
invariant-loop-mem l = l.latest ≡ latest_stamp (flat_map items_of_memtable (map arc_value (take l.mem-index l.mems)))
