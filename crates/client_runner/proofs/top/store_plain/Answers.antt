use Rattle.client_runner.proofs.TopLemmas.{is_answered, is_complete, is_init_complete, is_init_refused, is_open_refused, is_refused, is_run_complete, is_stopped}
use Rattle.client_runner.proofs.top.store_plain.Goals as goal

pub returns-clause-complete : goal.returns-clause-complete
returns-clause-complete g c = is_complete _ _ _ _ _ _ _ _ _ _ _ c.plain.ensures.ends

pub returns-clause-complete_init : goal.returns-clause-complete_init
returns-clause-complete_init g c = is_init_complete _ _ _ _ _ _ _ _ _ _ _ c.plain.ensures.ends

pub returns-clause-complete_run : goal.returns-clause-complete_run
returns-clause-complete_run g c = is_run_complete _ _ _ _ _ _ _ _ _ _ _ c.plain.ensures.ends

pub returns-clause-stopped : goal.returns-clause-stopped
returns-clause-stopped g c = is_stopped _ _ _ _ _ _ _ _ _ _ _ c.plain.ensures.ends

pub returns-clause-refused_folder : goal.returns-clause-refused_folder
returns-clause-refused_folder g c = is_open_refused _ _ _ _ _ _ _ _ _ _ _ c.plain.ensures.ends

pub returns-clause-refused_init : goal.returns-clause-refused_init
returns-clause-refused_init g c = is_init_refused _ _ _ _ _ _ _ _ _ _ _ c.plain.ensures.ends

pub returns-clause-refused : goal.returns-clause-refused
returns-clause-refused g c = is_refused _ _ _ _ _ _ _ _ _ _ _ c.plain.ensures.ends

pub returns-clause-answered : goal.returns-clause-answered
returns-clause-answered g c = is_answered _ _ _ _ _ _ _ _ _ _ _ c.plain.ensures.ends
