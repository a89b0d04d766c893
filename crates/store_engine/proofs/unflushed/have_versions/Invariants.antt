use Rattle.std.proofs.Common.{◌≡◌, length, map, take}
use Rattle.std.specs.Arc.{arc_value}
use Rattle.std.specs.List.{flat_map}
use Rattle.memtable.specs.Memtables.{versions_of_memtable}
use Rattle.store_engine.proofs.unflushed.have_versions.Given as goal

abbrev pub invariant-loop-mem : goal.invariant-loop-mem
invariant-loop-mem l = length (flat_map versions_of_memtable (map arc_value (take l.mem-index l.mems))) ≡ 0
