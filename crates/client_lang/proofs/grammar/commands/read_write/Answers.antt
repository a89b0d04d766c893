use Rattle.std.proofs.Common.{arith}
use Rattle.std.proofs.lemmas.List.{take_rest}
use Rattle.client_lang.proofs.OneOperation.{length-now}
use Rattle.client_lang.proofs.ReadWrites.{left_all, left_step, left_end, left_sync, left_none, none_past}
use Rattle.client_lang.proofs.grammar.commands.read_write.Goals as goal

pub loop-alloc-init : goal.loop-alloc-init
loop-alloc-init c = record { within = omega arith; left = rw c.new-ops.ensures.items (left_all _) }

pub loop-alloc-preserved : goal.loop-alloc-preserved
loop-alloc-preserved c =
    let next = left_step (λ w. w.now) c.args.words.now _ c.loop-alloc.ops.items c.loop-alloc.at c.in-Some.field-0 (take_rest c.args.words.now c.loop-alloc.at) c.loop-alloc.invariant.left
    (rw c.in-Some.is at c.in_ok-op.ensures) c.in-More.is in
    record {
      within = omega (arith, next.1, length-now (λ w. w.now) c.args.words.now);
      left = rw c.in_ok-push.ensures.items next.0;
    }

pub returns-in_default : goal.returns-in_default
returns-in_default c =
    left_none (λ w. w.now) c.args.words.now _ c.loop-alloc.ops.items c.loop-alloc.at (take_rest c.args.words.now c.loop-alloc.at) c.loop-alloc.invariant.left (rw c.in_default.is at c.in_ok-op.ensures)

pub returns-in-End : goal.returns-in-End
returns-in-End c =
    rw (c.write.ensures, c.in_ok-push.ensures.items)
    (left_end (λ w. w.now) c.args.words.now _ c.loop-alloc.ops.items c.loop-alloc.at c.in-Some.field-0 (take_rest c.args.words.now c.loop-alloc.at) c.loop-alloc.invariant.left
    (rw c.in-Some.is at c.in_ok-op.ensures) c.in-End.is (omega (arith, c.loop-alloc.ops.ok.0)))

pub returns-in-Sync : goal.returns-in-Sync
returns-in-Sync c =
    rw (c.write-in-Sync.ensures, c.in_ok-push.ensures.items)
    (left_sync (λ w. w.now) c.args.words.now _ c.loop-alloc.ops.items c.loop-alloc.at c.in-Some.field-0 (take_rest c.args.words.now c.loop-alloc.at) c.loop-alloc.invariant.left
    (rw c.in-Some.is at c.in_ok-op.ensures) c.in-Sync.is (omega (arith, c.loop-alloc.ops.ok.0)))

pub returns : goal.returns
returns c = none_past _ c.loop-alloc.ops.items _ (omega (arith, c.loop-alloc.ops.ok.0)) c.loop-alloc.invariant.left
