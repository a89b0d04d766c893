use Rattle.std.proofs.Common.{sym, ap, max, ◌∙◌}
use Rattle.recovery.proofs.Openings.{last_of_next, last_of_none}
use Rattle.recovery.proofs.opening.last_sequence.Goals as goal

pub returns-in-None-clause-over : goal.returns-in-None-clause-over
returns-in-None-clause-over c = λ batches is. last_of_none c.args.last.0 batches (sym c.in-None.is ∙ is)

pub returns-in-Some-clause-over : goal.returns-in-Some-clause-over
returns-in-Some-clause-over c = λ batches is. c.max.ensures ∙ ap (max c.args.last.0) c.saturating_sub.ensures ∙ last_of_next c.args.last.0 batches c.in-Some.next (sym c.in-Some.is ∙ is)
