use Rattle.std.proofs.Common.{◌≡◌, map, take, ap, ◌∙◌, subst, Err}
use Rattle.gate_log.specs.Placed.{Placed}
use Rattle.gate_log.specs.Reads.{body_of}
use Rattle.wal.specs.Bodies.{AddsBody}
use Rattle.wal.specs.declared.fault.BodyFault.{BodyFault}
use Rattle.wal.specs.Replays.{IsStrange}
use Rattle.wal.proofs.Bodies.{holds_within}
use Rattle.wal.proofs.BadFrames.{bad_frame}
use Rattle.wal.proofs.frames.batches_of.Goals as goal

pub add_body-requires : goal.add_body-requires
add_body-requires c =
    holds_within c.args.sizes.now (map body_of (take c.loop-frame.frame-index c.args.frames.now)) c.loop-frame.batches.items c.loop-frame.invariant

pub returns-in-Err-Bad : goal.returns-in-Err-Bad
returns-in-Err-Bad c =
    let frames = c.args.frames.now in
    let i = c.loop-frame.frame-index in
    let bad = c.frame-item.result in
    let bodies = map body_of (take i frames) in
    let place : c.frame.inside.at ≡ bad.at = ap (λ (p : Placed). p.at) c.frame.view_is in
    let body : c.deref.result.now ≡ bad.bytes = c.deref.ensures.value ∙ ap (λ (p : Placed). p.bytes) c.frame.view_is in
    bad_frame c.args.sizes.now frames i bad c.frame.inside.at c.loop-frame.batches.items c.loop-frame-test.true c.frame-item.is place c.loop-frame.invariant
    (subst (IsStrange c.args.sizes.now bodies) body (subst (λ (f : BodyFault). AddsBody c.args.sizes.now bodies c.deref.result.now c.add_body.new.batches.items (Err f)) c.in-Err-Bad.field-0-is (c.in-Err-Bad.ensures bodies c.loop-frame.invariant)))
