use Rattle.store_engine.proofs.Latests.{KnownBefore}
use Rattle.store_engine.proofs.admission.judge_families.Given as goal

abbrev pub invariant-loop-op : goal.invariant-loop-op
invariant-loop-op l = KnownBefore l.now.families l.ops l.op-index
