use Rattle.client_lang.proofs.Tails.{tail_is}
use Rattle.client_lang.proofs.grammar.commands.tail_of.Goals as goal

pub returns-in-len1-up : goal.returns-in-len1-up
returns-in-len1-up c = tail_is (λ w. w.now) c.args.words.now _ c.tail_at.result c.in-len1-up.len_at_least c.tail_at.ensures
