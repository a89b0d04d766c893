use Rattle.std.proofs.Common.{◌≡◌, map, take}
use Rattle.solo_store.specs.Names.{op_named}
use Rattle.solo_store.proofs.batch.batch_of.Given as goal

abbrev pub invariant-loop-op : goal.invariant-loop-op
invariant-loop-op l = l.made.items ≡ map (op_named l.names) (take l.op-index l.ops)
