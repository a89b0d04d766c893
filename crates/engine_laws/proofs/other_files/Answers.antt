use Rattle.engine_laws.proofs.Moving.{other_stands}
use Rattle.engine_laws.proofs.other_files.Goals as goal

pub returns : goal.returns
returns g c = other_stands g.G.TableGrammar.spells
