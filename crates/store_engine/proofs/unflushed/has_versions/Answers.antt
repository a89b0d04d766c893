use Rattle.store_engine.proofs.Loops.{runs_some}
use Rattle.store_engine.proofs.unflushed.has_versions.Goals as goal

pub returns : goal.returns
returns c = runs_some c.args.mem.now c.runs.result c.runs.ensures.runs c.runs.ensures.few
