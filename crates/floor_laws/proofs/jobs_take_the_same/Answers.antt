use Rattle.floor_laws.proofs.Taking.{flush_takes, compaction_takes}
use Rattle.floor_laws.proofs.jobs_take_the_same.Goals as goal

pub returns : goal.returns
returns c = record { flush = flush_takes; compaction = compaction_takes }
