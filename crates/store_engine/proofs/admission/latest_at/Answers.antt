use Rattle.std.proofs.Common.{sym, ap, ◌∙◌}
use Rattle.std.specs.Prelude.{option_map}
use Rattle.store_engine.proofs.Latests.{latest_off, latest_on}
use Rattle.store_engine.proofs.admission.latest_at.Goals as goal
use Rattle.store_engine.proofs.admission.latest_at.Goals.{then-is_on, else-is_on}

pub loop-op-preserved : goal.loop-op-preserved
loop-op-preserved c =
    let o = c.op-item.result in
    let i = c.loop-op.op-index in
    let latest = option_map (λ ts. ts.0) c.loop-op.latest in
    let next = option_map (λ ts. ts.0) c.if-is_on.latest in
    elim c.if-is_on.branch [
      | then-is_on w ↦ latest_on c.args.family c.args.key.now c.args.ops.now i o latest next c.loop-op-test.true c.op-item.is (sym c.is_on.ensures ∙ w.if-is_on.true) c.loop-op.invariant (ap (option_map (λ ts. ts.0)) w.latest-is ∙ w.later_of-latest.ensures)
      | else-is_on w ↦ ap (option_map (λ ts. ts.0)) w.latest-is ∙ latest_off c.args.family c.args.key.now c.args.ops.now i o latest c.loop-op-test.true c.op-item.is (sym c.is_on.ensures ∙ w.if-is_on.false) c.loop-op.invariant
    ]
