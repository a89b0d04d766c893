use Rattle.store_engine.proofs.Besides.{holds_beside}
use Rattle.store_engine.proofs.laws.engines_hold_besides.Goals as goal

pub returns : goal.returns
returns g c = λ engine now m co number act reply h told is. holds_beside m co number act reply is g.D.Disk g.D.File.DiskFile engine now h told
