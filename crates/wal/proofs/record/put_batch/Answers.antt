use Rattle.std.proofs.lemmas.Result.{on_ok_weaker}
use Rattle.wal.proofs.Writing.{batch_written}
use Rattle.wal.proofs.record.put_batch.Goals as goal

pub returns-clause-written : goal.returns-clause-written
returns-clause-written c =
    on_ok_weaker c.put_ops.result
    (batch_written c.args.out.now.items c.put_bytes.new.out.items c.put_u64.new.out.items c.put_bytes-2.new.out.items c.put_ops.new.out.items c.ops-ops.result.now c.args.batch.now c.args.first.0 c.ops-ops.ensures.ops c.in_ok-put_bytes.ensures.written c.in_ok-put_u64.ensures.written c.in_ok-put_bytes-2.ensures.written)
    c.put_ops.ensures.written
