use Rattle.compaction.proofs.Closing.{whole_plans, picked_plans}
use Rattle.compaction.proofs.laws.plans_are_closed.Goals as goal

pub returns-clause-whole : goal.returns-clause-whole
returns-clause-whole c = whole_plans

pub returns-clause-picked : goal.returns-clause-picked
returns-clause-picked c = picked_plans
