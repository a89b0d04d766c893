use Rattle.engine_laws.proofs.Opened.{new_stands, opened_holds}
use Rattle.engine_laws.proofs.openings.Goals as goal

pub returns : goal.returns
returns g c = record { opened = opened_holds g.G.TableGrammar.spells; made = new_stands }
