use Rattle.client_runner.proofs.EndLemmas.{end_more, gave_up, init_gave_up, init_said}
use Rattle.client_runner.proofs.top.init.Goals as goal

pub returns-in-Err-clause-ends : goal.returns-in-Err-clause-ends
returns-in-Err-clause-ends g c = gave_up _ _ _ (init_gave_up _ _ _ _ _)

pub returns-clause-ends : goal.returns-clause-ends
returns-clause-ends g c = end_more _ _ (init_said _ _ _ _ _ _ c.in-Err-init_folder.stop c.in-Err-init_folder.ensures.stopped c.in-Err-init_folder.ensures.unmade) _ _ _ _ c.say_stop.ensures
