use Rattle.engine_laws.proofs.Calls.{stands_write}
use Rattle.engine_laws.proofs.Syncing.{write_synced, write_waits}
use Rattle.std.proofs.Common.{refl}
use Rattle.engine_laws.proofs.writes.Goals as goal

pub returns : goal.returns
returns g c = record {
  moments = λ folder m c s waiting number ops sync h n x. stands_write g.G.TableGrammar.spells folder m c s waiting number ops sync h n.accepted n.fits x;
  waits = λ m c s waiting number ops h n. write_waits m c s waiting number ops _ h n.accepted n.fits refl;
  synced = λ m c s waiting number ops h n. write_synced m c s waiting number ops _ h n.accepted n.fits refl;
}
