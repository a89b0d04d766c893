use Rattle.engine_laws.proofs.Keeping.{fixed_log, fixed_table, keeps_holds, same_holds}
use Rattle.engine_laws.proofs.holds_besides.Goals as goal

pub returns : goal.returns
returns c = record { acts = keeps_holds; live = same_holds; table = fixed_table; log = fixed_log }
