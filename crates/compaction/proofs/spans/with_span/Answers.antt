use Rattle.std.proofs.Common.{Some, sym, ap, ◌∙◌}
use Rattle.compaction.proofs.Hulls.{hull_more}
use Rattle.compaction.proofs.spans.with_span.Goals as goal

pub returns-in-Some : goal.returns-in-Some
returns-in-Some c = λ spans e. ap Some c.span_over.ensures ∙ hull_more spans c.in-Some.hull c.args.span (sym c.in-Some.is ∙ e)
