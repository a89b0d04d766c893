use Rattle.std.proofs.Common.{◌≡◌, ◌++◌, map, take}
use Rattle.std.specs.Arc.{arc_value}
use Rattle.std.specs.List.{flat_map}
use Rattle.ts_iterator.specs.Sources.{items_of_all, items_of_runs}
use Rattle.ts_iterator.proofs.sources.push_mems.Given as goal

abbrev pub invariant-loop-mem : goal.invariant-loop-mem
invariant-loop-mem l = items_of_all l.sources.items ≡ items_of_all l.initial.sources.items ++ flat_map items_of_runs (map arc_value (take l.mem-index l.mems))
