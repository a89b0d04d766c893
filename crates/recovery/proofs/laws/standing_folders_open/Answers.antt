use Rattle.recovery.proofs.Unrefused.{none_refused}
use Rattle.recovery.proofs.laws.standing_folders_open.Goals as goal

pub returns : goal.returns
returns c = none_refused
