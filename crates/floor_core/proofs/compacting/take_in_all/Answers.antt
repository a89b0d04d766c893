use Rattle.std.proofs.Common.{◌≡◌, sym, ap, ◌∙◌}
use Rattle.std.specs.Prelude.{filter}
use Rattle.udt_model.specs.Jobs.{is_input, spans_of}
use Rattle.floor_core.specs.Steps.{hull_of_spans}
use Rattle.floor_core.proofs.Plans.{settled_more, settled_stops}
use Rattle.floor_core.proofs.compacting.take_in_all.Goals as goal

pub returns-then-branch : goal.returns-then-branch
returns-then-branch c =
    let hull : c.in_ok-hull.hull ≡ hull_of_spans (spans_of (filter (is_input c.args.inputs.now) c.args.tables.now)) = c.in_ok-hull.ensures ∙ ap hull_of_spans (c.deref.ensures.value ∙ c.in_ok-spans.ensures) in
    settled_stops c.args.tables.now c.args.inputs.now c.args.level c.in_ok-hull.hull c.loop-t.t-index c.t-item.result hull c.loop-t-test.true c.t-item.is (sym c.in_ok-is_left_out.ensures ∙ c.if-branch.true) c.loop-t.invariant

pub loop-t-preserved : goal.loop-t-preserved
loop-t-preserved c =
    let hull : c.in_ok-hull.hull ≡ hull_of_spans (spans_of (filter (is_input c.args.inputs.now) c.args.tables.now)) = c.in_ok-hull.ensures ∙ ap hull_of_spans (c.deref.ensures.value ∙ c.in_ok-spans.ensures) in
    settled_more c.args.tables.now c.args.inputs.now c.args.level c.in_ok-hull.hull c.loop-t.t-index c.t-item.result hull c.loop-t-test.true c.t-item.is (sym c.in_ok-is_left_out.ensures ∙ c.if-branch.false) c.loop-t.invariant
