use Rattle.engine_laws.proofs.Resting.{stands_rest}
use Rattle.engine_laws.proofs.between_calls.Goals as goal

pub returns : goal.returns
returns g c = stands_rest g.G.TableGrammar.spells
