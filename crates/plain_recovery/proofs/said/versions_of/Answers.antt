use Rattle.plain_recovery.proofs.SaidLemmas.{versions_more}
use Rattle.plain_recovery.proofs.said.versions_of.Goals as goal

pub loop-numbered-preserved : goal.loop-numbered-preserved
loop-numbered-preserved c =
    versions_more c.args.batches.now c.loop-numbered.numbered-index c.numbered-item.result c.loop-numbered.versions.items c.add_batch.new.versions.items c.loop-numbered-test.true c.numbered-item.is c.loop-numbered.invariant c.in_ok-add_batch.ensures
