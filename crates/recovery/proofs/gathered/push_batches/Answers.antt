use Rattle.recovery.proofs.Gathering.{unflushed_batch}
use Rattle.recovery.proofs.gathered.push_batches.Goals as goal

pub loop-numbered-preserved : goal.loop-numbered-preserved
loop-numbered-preserved c =
    unflushed_batch c.args.families.now c.args.versions.now.items c.loop-numbered.versions.items c.push_batch.new.versions.items c.args.batches.now c.loop-numbered.numbered-index c.numbered-item.result c.loop-numbered-test.true c.numbered-item.is c.loop-numbered.invariant c.in_ok-push_batch.ensures
