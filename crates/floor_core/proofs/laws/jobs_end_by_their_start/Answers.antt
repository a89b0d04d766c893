use Rattle.floor_core.proofs.Starts.{compaction_makes, compactions_end, flush_makes, flushes_end}
use Rattle.floor_core.proofs.laws.jobs_end_by_their_start.Goals as goal

pub returns : goal.returns
returns c = record { flush = flushes_end; compaction = compactions_end; flushed = flush_makes; compacted = compaction_makes }
