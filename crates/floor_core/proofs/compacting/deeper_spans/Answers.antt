use Rattle.std.proofs.Common.{Bool, not, ◌&&◌}
use Rattle.std.specs.Prelude.{filter, nat_lt}
use Rattle.udt_model.specs.Jobs.{is_input, spans_of}
use Rattle.udt_model.specs.State.{LiveTable}
use Rattle.floor_core.specs.Steps.{span_of_table}
use Rattle.floor_core.proofs.Picked.{picked_more, picked_all}
use Rattle.floor_core.proofs.compacting.deeper_spans.Goals as goal

pub loop-t-preserved : goal.loop-t-preserved
loop-t-preserved c =
    let ts = c.args.tables.now in
    let p : LiveTable → Bool = λ (t : LiveTable). nat_lt c.args.level t.level && not (is_input c.args.inputs.now t) in
    picked_more span_of_table p ts c.loop-t.t-index c.t-item.result c.loop-t.spans.items c.push_span.new.spans.items (spans_of (filter p ts)) c.is_deeper.result c.loop-t-test.true c.t-item.is c.is_deeper.ensures c.loop-t.invariant c.in_ok-push_span.ensures

pub returns : goal.returns
returns c =
    let ts = c.args.tables.now in
    let p : LiveTable → Bool = λ (t : LiveTable). nat_lt c.args.level t.level && not (is_input c.args.inputs.now t) in
    picked_all span_of_table p ts c.loop-t.t-index c.loop-t.spans.items (spans_of (filter p ts)) c.loop-t-test.false c.loop-t.invariant
