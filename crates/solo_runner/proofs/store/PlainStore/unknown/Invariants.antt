use Rattle.std.proofs.Common.{◌≡◌, drop}
use Rattle.solo_runner.specs.Named.{unknown_in_ops}
use Rattle.solo_runner.proofs.store.PlainStore.unknown.Given as goal

abbrev pub invariant-loop-op : goal.invariant-loop-op
invariant-loop-op l = unknown_in_ops l.self (drop l.op-index l.ops) ≡ unknown_in_ops l.self l.ops
