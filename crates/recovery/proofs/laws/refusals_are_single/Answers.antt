use Rattle.recovery.proofs.OneRefusal.{one_refusal}
use Rattle.recovery.proofs.laws.refusals_are_single.Goals as goal

pub returns : goal.returns
returns c = one_refusal
