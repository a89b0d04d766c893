use Rattle.std.proofs.Common.{ap, arith}
use Rattle.floor_core.specs.Steps.{holding_tables}
use Rattle.floor_core.proofs.Places.{none_changed, set_changed}
use Rattle.floor_core.proofs.parts.set_tables.Goals as goal

pub returns-then-place-len-clause-set : goal.returns-then-place-len-clause-set
returns-then-place-len-clause-set c =
    let ok = c.args.families.now.ok.0 in
    set_changed c.args.families.now.items c.args.family.0 (holding_tables c.args.tables.items) c.index_mut-f.result.now _ (omega (arith, ok)) c.index_mut-f.ensures.value (ap (holding_tables c.args.tables.items) c.f.view_is)

pub returns-else-place-len-clause-set : goal.returns-else-place-len-clause-set
returns-else-place-len-clause-set c =
    let ok = c.args.families.now.ok.0 in
    none_changed c.args.families.now.items c.args.family.0 (holding_tables c.args.tables.items) (omega (arith, ok))
