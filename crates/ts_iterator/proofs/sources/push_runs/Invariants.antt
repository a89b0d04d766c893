use Rattle.std.proofs.Common.{◌≡◌, ◌++◌, take}
use Rattle.ts_key.specs.Items.{items_of}
use Rattle.memtable.specs.Memtables.{joined}
use Rattle.ts_iterator.specs.Sources.{items_of_all}
use Rattle.ts_iterator.proofs.sources.push_runs.Given as goal

abbrev pub invariant-loop-index : goal.invariant-loop-index
invariant-loop-index l = items_of_all l.sources.items ≡ items_of_all l.initial.sources.items ++ items_of (joined (take l.index l.mem.runs))
