use Rattle.std.proofs.Common.{ap, arith}
use Rattle.udt_model.specs.State.{State}
use Rattle.solo_runner.proofs.Adding.{none_added, added_more, added_all}
use Rattle.solo_runner.proofs.store.PlainStore.add_each.Goals as goal

pub loop-i-init : goal.loop-i-init
loop-i-init c = record { last_is = ap (λ (s : State). s.last.0) c.self.view_is; added = none_added c.args.self.now c.args.ops.now }

pub loop-i-preserved : goal.loop-i-preserved
loop-i-preserved c = record {
  last_is = c.loop-i.invariant.last_is;
  added = added_more c.args.self.now c.args.ops.now c.loop-i.i c.loop-i.self c.add_op.new.self c.index-ops-i.result _ c.in_ok-refusal.field-0 c.loop-i.invariant.added c.loop-i-test.true c.index-ops-i.is
      c.in_ok-refusal.ensures.refusal (omega (arith, c.loop-i.invariant.last_is, c.from.ensures)) c.in_ok-refusal.ensures.ok c.in_default.is;
}

pub returns : goal.returns
returns c =
    let all = added_all c.args.self.now c.args.ops.now c.loop-i.i c.loop-i.self c.loop-i-test.false c.loop-i.invariant.added in
    record { refusal = all.1; ok = all.0; err = tt; built = tt }
