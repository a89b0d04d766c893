use Rattle.client_lang.proofs.OneEvent.{no_get}
use Rattle.client_lang.proofs.grammar.commands.read_get.Goals as goal

pub returns-in-None : goal.returns-in-None
returns-in-None c = no_get _ _ _ _ (rw c.in-None.is at c.in_ok-target.ensures)
