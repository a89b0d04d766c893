use Rattle.std.proofs.Common.{◌≡◌, drop}
use Rattle.solo_store.specs.Names.{is_any_unnamed}
use Rattle.solo_store.proofs.names.any_unnamed.Given as goal

abbrev pub invariant-loop-op : goal.invariant-loop-op
invariant-loop-op l = is_any_unnamed l.names (drop l.op-index l.ops) ≡ is_any_unnamed l.names l.ops
