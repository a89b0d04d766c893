use Rattle.std.proofs.Common.{List, ap, sym, ◌∙◌}
use Rattle.std.specs.Prelude.{is_some}
use Rattle.ts_key.specs.declared.version.Version.{Version}
use Rattle.udt_model.specs.State.{place_at}
use Rattle.udt_model.specs.Refusals.{op_refusal}
use Rattle.floor_core.proofs.Admitting.{admitting_more}
use Rattle.floor_core.proofs.machine.Core.admit.Goals as goal

pub loop-i-preserved : goal.loop-i-preserved
loop-i-preserved c =
    let m = c.args.self.now.store in
    let o = c.index-ops-i.result in
    admitting_more m c.self.inside.last.0 c.args.ops.now c.loop-i.i o c.in_ok-version.field-0 c.loop-i.grown.items c.push.new.self.items c.loop-i-test.true c.index-ops-i.is
    (λ k. sym c.if-is_below.false ∙ c.is_below.ensures k ∙ ap (λ (w : List Version). is_some (op_refusal w k (place_at m o.family) o)) c.deref-in-loop-i.ensures.value)
    c.in_ok-version.ensures c.in_ok-push.ensures.items c.loop-i.invariant
