use Rattle.std.specs.Prelude.{slice_get}
use Rattle.store_engine.proofs.Latests.{known_all, known_here, there_is}
use Rattle.store_engine.proofs.admission.judge_families.Goals as goal

pub loop-op-preserved : goal.loop-op-preserved
loop-op-preserved c =
    let families = c.args.now.now.families in
    let f = there_is c.family.result (slice_get families c.op-item.result.family.0) c.family.ensures c.if-is_none.ensures in
    known_here families c.args.ops.now c.loop-op.op-index c.op-item.result f.0 c.loop-op-test.true c.op-item.is c.loop-op.invariant f.1

pub returns-clause-known : goal.returns-clause-known
returns-clause-known c = (known_all c.args.now.now.families c.args.ops.now c.loop-op.op-index c.loop-op-test.false c.loop-op.invariant).1
