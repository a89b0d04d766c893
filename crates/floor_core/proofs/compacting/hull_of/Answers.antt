use Rattle.std.proofs.Common.{◌≡◌, sym, subst, ◌∙◌}
use Rattle.std.specs.Prelude.{IfOk}
use Rattle.udt_model.specs.declared.reply.KeySpan.{KeySpan}
use Rattle.floor_core.proofs.Plans.{hull_found, hull_missing}
use Rattle.floor_core.proofs.compacting.hull_of.Goals as goal

pub returns-in-None : goal.returns-in-None
returns-in-None c = subst (λ (z : KeySpan). IfOk c.empty_span.result (λ (hull : KeySpan). hull ≡ z)) (hull_missing c.args.spans.now (sym c.in-None.is ∙ c.in_ok-hull_of_all.ensures)) c.empty_span.ensures

pub returns-in-Some : goal.returns-in-Some
returns-in-Some c = hull_found c.args.spans.now c.in-Some.hull (sym c.in-Some.is ∙ c.in_ok-hull_of_all.ensures)
