use Rattle.store_engine.proofs.Latests.{OpsFrom}
use Rattle.store_engine.proofs.admission.judge_ops.Given as goal

abbrev pub invariant-loop-index : goal.invariant-loop-index
invariant-loop-index l = OpsFrom l.now.families l.ops l.index
