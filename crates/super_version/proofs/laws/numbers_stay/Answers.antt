use Rattle.super_version.proofs.Numbered.{after_batch, after_change, after_compaction, after_floor, after_flush, after_seal}
use Rattle.super_version.proofs.laws.numbers_stay.Goals as goal

pub returns : goal.returns
returns c = record { floor = after_floor; seal = after_seal; flush = after_flush; compaction = after_compaction; family = after_change; write = after_batch }
