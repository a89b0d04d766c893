use Rattle.std.proofs.Common.{List, [], ◌∷◌, ap, refl}
use Rattle.ts_key.specs.declared.version.Version.{Version}
use Rattle.plain_recovery.proofs.SaidLemmas.{logged_more}
use Rattle.plain_recovery.proofs.said.add_batch.Goals as goal

pub loop-i-preserved : goal.loop-i-preserved
loop-i-preserved c = record {
  first_is = refl;
  added = logged_more c.args.numbered.now.first.0 c.ops-op-items.result.now c.loop-i.i c.op-item.result _ c.in_ok-version.field-0 c.args.versions.now.items c.loop-i.versions.items c.push.new.self.items c.loop-i-test.true c.op-item.is refl
      (ap (λ (v : Version). v ∷ []) c.in_ok-version.ensures) c.loop-i.invariant.added c.in_ok-push.ensures.items;
}
