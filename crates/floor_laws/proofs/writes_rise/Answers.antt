use Rattle.floor_laws.proofs.Reopening.{written_fixed}
use Rattle.floor_laws.proofs.Writing.{admitted_written}
use Rattle.floor_laws.proofs.writes_rise.Goals as goal

pub returns : goal.returns
returns c = record { admitted = admitted_written; fixed = written_fixed }
