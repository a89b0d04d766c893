use Rattle.engine_laws.proofs.Calls.{stands_sync}
use Rattle.engine_laws.proofs.Syncing.{sync_holds, sync_unasked}
use Rattle.engine_laws.proofs.syncs.Goals as goal

pub returns : goal.returns
returns g c = record { moments = stands_sync g.G.TableGrammar.spells; unasked = sync_unasked; asked = λ m c s waiting number h r. sync_holds m c s waiting h number r }
