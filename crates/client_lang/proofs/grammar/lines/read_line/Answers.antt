use Rattle.std.proofs.Common.{List, ℕ, ◌∙◌, ap, subst, map}
use Rattle.std.specs.Prelude.{IfOk}
use Rattle.client_lang.specs.Grammar.{Reads, IsEvent, words_of}
use Rattle.client_lang.proofs.OneEvent.{first_words}
use Rattle.client_lang.proofs.grammar.lines.read_line.Goals as goal

pub returns : goal.returns
returns c =
    first_words (words_of c.args.line.now) c.read_event.result
    (subst (λ (ws : List (List ℕ)). IfOk c.read_event.result (Reads (IsEvent ws))) (ap (map (λ w. w.now)) c.deref.ensures.value ∙ c.in_ok-words.ensures) c.read_event.ensures)
