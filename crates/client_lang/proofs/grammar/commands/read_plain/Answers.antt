use Rattle.std.proofs.Common.{List, ℕ, arith, rules, tests}
use Rattle.std.specs.Prelude.{IfOk}
use Rattle.client_lang.specs.Grammar.{Reads}
use Rattle.client_lang.specs.Readers.{IsPlainEvent}
use Rattle.client_lang.proofs.OneOperation.{by_four}
use Rattle.client_lang.proofs.OneEvent.{no_plain}
use Rattle.client_lang.proofs.grammar.commands.read_plain.Goals as goal
use Rattle.client_lang.proofs.grammar.commands.read_plain.Goals.{in_default-via-then-words-lt1, in_default-via-else-words-lt1+else-words-lt2+then-words-lt4, in_default-via-else-words-lt1+else-words-lt2+else-words-lt4+else-words-lt5}

pub returns-in-len4 : goal.returns-in-len4
returns-in-len4 c = by_four (λ w. w.now) (λ (ws : List (List ℕ)). IfOk c.read_get.result (Reads (IsPlainEvent ws))) _ c.args.words.now (omega arith) c.read_get.ensures

pub returns-in_default : goal.returns-in_default
returns-in_default c = λ event h.
    no_plain (λ w. w.now) c.args.words.now event
    (λ e. elim c.in_default.branch [ in_default-via-then-words-lt1 w ↦ search (rules, tests) | in_default-via-else-words-lt1+else-words-lt2+then-words-lt4 w ↦ search (rules, tests) | in_default-via-else-words-lt1+else-words-lt2+else-words-lt4+else-words-lt5 w ↦ search (rules, tests) ])
    (λ e. elim c.in_default.branch [ in_default-via-then-words-lt1 w ↦ search (rules, tests) | in_default-via-else-words-lt1+else-words-lt2+then-words-lt4 w ↦ search (rules, tests) | in_default-via-else-words-lt1+else-words-lt2+else-words-lt4+else-words-lt5 w ↦ search (rules, tests) ])
    h
