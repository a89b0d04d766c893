use Rattle.std.proofs.Common.{Bool, not, ap}
use Rattle.std.specs.Prelude.{filter}
use Rattle.udt_model.specs.Jobs.{is_input}
use Rattle.udt_model.specs.State.{LiveTable}
use Rattle.floor_core.proofs.Picked.{filtered_more, filtered_all}
use Rattle.floor_core.proofs.compacting.other_tables.Goals as goal

pub loop-t-preserved : goal.loop-t-preserved
loop-t-preserved c =
    let ts = c.args.tables.now in
    let p : LiveTable → Bool = λ (t : LiveTable). not (is_input c.args.inputs.now t) in
    filtered_more p ts c.loop-t.t-index c.t-item.result c.loop-t.others.items c.push_table.new.tables.items (filter p ts) (not c.is_input.result) c.loop-t-test.true c.t-item.is (ap not c.is_input.ensures) c.loop-t.invariant c.in_ok-push_table.ensures

pub returns : goal.returns
returns c =
    let ts = c.args.tables.now in
    let p : LiveTable → Bool = λ (t : LiveTable). not (is_input c.args.inputs.now t) in
    filtered_all p ts c.loop-t.t-index c.loop-t.others.items (filter p ts) c.loop-t-test.false c.loop-t.invariant
