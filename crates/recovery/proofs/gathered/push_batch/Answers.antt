use Rattle.std.proofs.Common.{ap, sym, refl, ◌∙◌}
use Rattle.recovery.proofs.Gathering.{unflushed_kept, unflushed_left}
use Rattle.recovery.proofs.gathered.push_batch.Goals.{then-is_unflushed+in_ok-version+in_ok-push, else-is_unflushed}
use Rattle.recovery.proofs.gathered.push_batch.Goals as goal

pub loop-i-preserved : goal.loop-i-preserved
loop-i-preserved c =
    let old = c.args.versions.now.items in
    let mid = c.loop-i.versions.items in
    let new = c.if-is_unflushed.versions.items in
    let first = c.args.numbered.now.first.0 in
    let ops = c.ops-op-items.result.now in
    record {
      first_is = refl;
      added = elim c.if-is_unflushed.branch [
        | then-is_unflushed+in_ok-version+in_ok-push w ↦
            unflushed_kept c.args.families.now old mid new first ops c.loop-i.i c.op-item.result _ w.in_ok-version.field-0 c.loop-i-test.true c.op-item.is refl c.loop-i.invariant.added
            (sym c.is_unflushed.ensures ∙ w.if-is_unflushed.true) w.in_ok-version.ensures (ap (λ x. x.items) w.versions-is ∙ w.in_ok-push.ensures.items)
        | else-is_unflushed w ↦
            ap (λ x. x.items) w.versions-is ∙ unflushed_left c.args.families.now old mid first ops c.loop-i.i c.op-item.result _ c.loop-i-test.true c.op-item.is refl c.loop-i.invariant.added (sym c.is_unflushed.ensures ∙ w.if-is_unflushed.false)
      ];
    }
