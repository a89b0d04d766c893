use Rattle.std.proofs.Common.{◌≡◌, ◌++◌, map, take}
use Rattle.std.specs.Arc.{arc_value}
use Rattle.flush_job.specs.Walks.{versions_of_all}
use Rattle.solo_store.specs.Flushable.{AreVersionsSpelled, sequence_of}
use Rattle.solo_store.proofs.flushable.add_memtables.Given as goal

abbrev pub invariant-loop-mem : goal.invariant-loop-mem
invariant-loop-mem l = record {
  spelled : AreVersionsSpelled l.family (versions_of_all (map arc_value (take l.mem-index l.mems)));
  numbers : l.numbers.items ≡ l.initial.numbers.items ++ map sequence_of (versions_of_all (map arc_value (take l.mem-index l.mems)));
}
