use Rattle.std.proofs.Common.{List, [], ap, ◌∙◌, arith}
use Rattle.udt_model.specs.State.{FamilyState, LiveTable}
use Rattle.udt_model.specs.Steps.{flushed}
use Rattle.floor_core.proofs.Places.{none_changed, set_changed}
use Rattle.floor_core.proofs.flushing.add_flushed.Goals as goal

pub returns-then-place-len-clause-ok : goal.returns-then-place-len-clause-ok
returns-then-place-len-clause-ok c =
    let ok = c.args.families.now.ok.0 in
    none_changed c.args.families.now.items c.args.family.0 (flushed c.args.table c.args.through c.args.floor) (omega (arith, ok))

pub returns-clause-ok : goal.returns-clause-ok
returns-clause-ok c =
    let ok = c.args.families.now.ok.0 in
    let change : FamilyState → FamilyState = flushed c.args.table c.args.through c.args.floor in
    let with : List LiveTable → FamilyState = λ z. record { head = record { name = []; form = c.f.inside.form; floor = c.args.floor }; through = c.args.through; tables = z } in
    set_changed c.args.families.now.items c.args.family.0 change c.index_mut-f.result.now _ (omega (arith, ok)) c.index_mut-f.ensures.value (ap with c.in_ok-join.ensures.ok ∙ ap change c.f.view_is)
