use Rattle.std.proofs.Common.{List, ℕ, arith, rules, tests}
use Rattle.std.specs.Prelude.{IfOk}
use Rattle.client_lang.specs.Grammar.{Reads, IsOp}
use Rattle.client_lang.proofs.OneOperation.{by_four, by_five, no_op}
use Rattle.client_lang.proofs.grammar.commands.read_op.Goals as goal
use Rattle.client_lang.proofs.grammar.commands.read_op.Goals.{in_default-via-then-words-lt4, in_default-via-else-words-lt4+else-words-lt5+else-words-lt6}

pub returns-in-len4 : goal.returns-in-len4
returns-in-len4 c = by_four (λ w. w.now) (λ (ws : List (List ℕ)). IfOk c.read_del.result (Reads (IsOp ws))) _ c.args.words.now (omega arith) c.read_del.ensures

pub returns-in-len5 : goal.returns-in-len5
returns-in-len5 c = by_five (λ w. w.now) (λ (ws : List (List ℕ)). IfOk c.read_put.result (Reads (IsOp ws))) _ c.args.words.now (omega arith) c.read_put.ensures

pub returns-in_default : goal.returns-in_default
returns-in_default c = λ o h.
    no_op (λ w. w.now) c.args.words.now o
    (λ e. elim c.in_default.branch [ in_default-via-then-words-lt4 w ↦ search (rules, tests) | in_default-via-else-words-lt4+else-words-lt5+else-words-lt6 w ↦ search (rules, tests) ])
    (λ e. elim c.in_default.branch [ in_default-via-then-words-lt4 w ↦ search (rules, tests) | in_default-via-else-words-lt4+else-words-lt5+else-words-lt6 w ↦ search (rules, tests) ])
    h
