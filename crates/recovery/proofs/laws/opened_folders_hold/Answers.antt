use Rattle.recovery.proofs.Accounts.{one_said, opened_reads, opened_states}
use Rattle.recovery.proofs.laws.opened_folders_hold.Goals as goal

pub returns-clause-reads : goal.returns-clause-reads
returns-clause-reads c = opened_reads

pub returns-clause-holds : goal.returns-clause-holds
returns-clause-holds c = opened_states

pub returns-clause-one : goal.returns-clause-one
returns-clause-one c = one_said
