use Rattle.floor_core.proofs.Refusing.{counts_events, refused_changes_nothing, refuses_exactly}
use Rattle.floor_core.proofs.laws.core_refuses_exactly.Goals as goal

pub returns : goal.returns
returns c = record { exactly = refuses_exactly; kept = refused_changes_nothing; counted = counts_events }
