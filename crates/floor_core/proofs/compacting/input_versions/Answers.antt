use Rattle.std.proofs.Common.{List}
use Rattle.std.specs.Prelude.{filter, flat_map}
use Rattle.ts_key.specs.declared.version.Version.{Version}
use Rattle.udt_model.specs.Jobs.{is_input}
use Rattle.udt_model.specs.State.{LiveTable}
use Rattle.floor_core.proofs.Picked.{flat_more, flat_all}
use Rattle.floor_core.proofs.compacting.input_versions.Goals as goal

pub loop-t-preserved : goal.loop-t-preserved
loop-t-preserved c =
    let ts = c.args.tables.now in
    let inputs = c.args.inputs.now in
    let f : LiveTable → List Version = λ (t : LiveTable). t.versions in
    flat_more f (is_input inputs) ts c.loop-t.t-index c.t-item.result c.loop-t.held.items c.append_if.new.list.items (flat_map f (filter (is_input inputs) ts)) c.is_input.result c.loop-t-test.true c.t-item.is c.is_input.ensures c.loop-t.invariant c.in_ok-append_if.ensures

pub returns : goal.returns
returns c =
    let ts = c.args.tables.now in
    let inputs = c.args.inputs.now in
    let f : LiveTable → List Version = λ (t : LiveTable). t.versions in
    flat_all f (is_input inputs) ts c.loop-t.t-index c.loop-t.held.items (flat_map f (filter (is_input inputs) ts)) c.loop-t-test.false c.loop-t.invariant
