use Rattle.wal.proofs.Writing.{ops_step}
use Rattle.wal.proofs.record.put_ops.Goals as goal

pub loop-op-preserved : goal.loop-op-preserved
loop-op-preserved c =
    ops_step c.loop-op.out.items c.put_op.new.out.items c.args.out.now.items c.args.ops.now c.loop-op.op-index c.op-item.result c.loop-op-test.true c.op-item.is c.loop-op.invariant c.in_ok-put_op.ensures.written c.in_ok-put_op.ensures.short
