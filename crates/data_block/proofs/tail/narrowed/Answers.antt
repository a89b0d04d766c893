use Rattle.std.proofs.Common.{arith}
use Rattle.data_block.proofs.Ends.{narrowed_more}
use Rattle.data_block.proofs.tail.narrowed.Goals as goal

pub loop-n-preserved : goal.loop-n-preserved
loop-n-preserved c =
    let r = narrowed_more c.args.ns.now c.loop-n.out.items c.push.new.self.items c.loop-n.n-index 0 c.loop-n-test.true c.loop-n.invariant.short c.loop-n.invariant.same (omega arith) c.in_ok-push.ensures.items in
    record { short = r.0; same = r.1 }
