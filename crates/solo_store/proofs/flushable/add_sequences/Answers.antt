use Rattle.std.proofs.Common.{refl, ap, ◌∙◌, ◌++◌, ◌∷◌, []}
use Rattle.solo_store.specs.Flushable.{MayBeFlushed}
use Rattle.solo_store.proofs.Sequences.{each_more, numbers_more}
use Rattle.solo_store.proofs.flushable.add_sequences.Goals as goal

pub loop-version-preserved : goal.loop-version-preserved
loop-version-preserved c =
    let vs = c.args.versions.now in
    let i = c.loop-version.version-index in
    let v = c.version-item.result in
    let inv = c.loop-version.invariant in
    record {
      spelled = each_more MayBeFlushed vs i v c.loop-version-test.true c.version-item.is inv.spelled (c.if-not-is_spelled.ensures refl);
      numbers = c.in_ok-push.ensures.items ∙ (ap (λ ns. ns ++ v.seq.0 ∷ []) inv.numbers ∙ numbers_more c.args.numbers.now.items vs i v c.loop-version-test.true c.version-item.is);
    }
