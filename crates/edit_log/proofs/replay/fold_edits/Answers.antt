use Rattle.std.proofs.Common.{◌≡◌, ap, ◌∙◌}
use Rattle.gate_log.specs.Placed.{Placed}
use Rattle.edit_log.proofs.Steps.{fold_more, refused_here}
use Rattle.edit_log.proofs.replay.fold_edits.Goals as goal

pub returns-in-None : goal.returns-in-None
returns-in-None c =
    let frame = c.frame-item.result in
    let place : c.frame.inside.at ≡ frame.at = ap (λ (p : Placed). p.at) c.frame.view_is in
    let body : c.deref.result.now ≡ frame.bytes = c.deref.ensures.value ∙ ap (λ (p : Placed). p.bytes) c.frame.view_is in
    let nowhere = rw c.in-None.is at c.in_ok-next.ensures in
    refused_here c.args.start c.args.frames.now c.loop-frame.frame-index frame c.loop-frame.fold c.frame.inside.at c.deref.result.now c.loop-frame-test.true c.frame-item.is place body c.loop-frame.invariant nowhere

pub loop-frame-preserved : goal.loop-frame-preserved
loop-frame-preserved c =
    let frame = c.frame-item.result in
    let body : c.deref.result.now ≡ frame.bytes = c.deref.ensures.value ∙ ap (λ (p : Placed). p.bytes) c.frame.view_is in
    let leads = rw c.in-Some.is at c.in_ok-next.ensures in
    fold_more c.args.start c.args.frames.now c.loop-frame.frame-index frame c.loop-frame.fold c.in-Some.next c.deref.result.now c.loop-frame-test.true c.frame-item.is body c.loop-frame.invariant leads
