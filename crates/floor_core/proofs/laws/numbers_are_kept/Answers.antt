use Rattle.floor_core.proofs.Keeping.{halts_keep, snapshots_keep}
use Rattle.floor_core.proofs.laws.numbers_are_kept.Goals as goal

pub returns : goal.returns
returns c = record { snapshot = snapshots_keep; halt = halts_keep }
