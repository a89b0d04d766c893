use Rattle.manifest.proofs.Meanings.{manifest_once}
use Rattle.engine_laws.proofs.Fixed.{one_state, reads_once, states_alike}
use Rattle.engine_laws.proofs.fixed_by_bytes.Goals as goal

pub returns : goal.returns
returns g c = record { fold = manifest_once; account = reads_once g.G.TableGrammar.spells; alike = states_alike g.G.TableGrammar.spells; one = one_state g.G.TableGrammar.spells }
