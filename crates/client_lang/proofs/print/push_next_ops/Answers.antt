use Rattle.client_lang.specs.Words.{next_op_text}
use Rattle.client_lang.proofs.Pushing.{done, failed, each_more_at, each_stops_at}
use Rattle.client_lang.proofs.print.push_next_ops.Goals as goal

pub returns-in_err-push_next_op : goal.returns-in_err-push_next_op
returns-in_err-push_next_op c =
    let err = c.from_residual.ensures.0 in
    let answered = failed c.push_next_op.ensures c.in_err-push_next_op.was err in
    each_stops_at next_op_text c.args.ops.now c.loop-op.op-index c.op-item.result c.loop-op-test.true c.op-item.is err c.loop-op.invariant answered

pub loop-op-preserved : goal.loop-op-preserved
loop-op-preserved c =
    let answered = done c.push_next_op.ensures c.in_ok-push_next_op.was in
    each_more_at next_op_text c.args.ops.now c.loop-op.op-index c.op-item.result c.loop-op-test.true c.op-item.is c.loop-op.invariant answered
