use Rattle.std.proofs.Common.{◌≡◌, sym, subst, ◌∙◌}
use Rattle.std.specs.Prelude.{IfOk}
use Rattle.udt_model.specs.declared.reply.KeySpan.{KeySpan}
use Rattle.floor_core.proofs.Plans.{span_none, span_some}
use Rattle.floor_core.proofs.compacting.span_of.Goals as goal

pub returns-in-None : goal.returns-in-None
returns-in-None c = subst (λ (z : KeySpan). IfOk c.empty_span.result (λ (span : KeySpan). span ≡ z)) (span_none c.args.versions.now (sym c.in-None.is ∙ c.in_ok-span_of_all.ensures)) c.empty_span.ensures

pub returns-in-Some : goal.returns-in-Some
returns-in-Some c = span_some c.args.versions.now c.in-Some.span (sym c.in-Some.is ∙ c.in_ok-span_of_all.ensures)
