use Rattle.std.proofs.Common.{◌≡◌, ◌+◌, ◌-◌, ◌≤◌, length, Some, sym, ap, ◌∙◌, arith}
use Rattle.std.specs.Prelude.{slice_get}
use Rattle.wal.specs.Sequences.{sequence_after, next_sequence}
use Rattle.wal.proofs.SequenceSteps.{next_at_last, some_len}
use Rattle.plain_recovery.proofs.SaidLemmas.{last_below_next, is_next}
use Rattle.plain_recovery.proofs.said.last_sequence.Goals as goal

pub returns-in-Some-clause-last : goal.returns-in-Some-clause-last
returns-in-Some-clause-last c =
    let batches = c.args.batches.now in
    let b = c.in-Some.numbered.now in
    let value : slice_get batches (length batches - 1) ≡ Some b = sym c.in-Some.ensures.value in
    let next : next_sequence batches ≡ Some (sequence_after b) = next_at_last batches (length batches - 1) b (some_len batches b value) value in
    let ops : b.first.0 + length c.ops.result.now - 1 ≡ sequence_after b - 1 = omega (arith, ap length c.ops.ensures.ops) in
    ops ∙ last_below_next c.args.last.0 batches (sequence_after b) next

pub returns-in-Some-clause-next : goal.returns-in-Some-clause-next
returns-in-Some-clause-next c =
    let batches = c.args.batches.now in
    let b = c.in-Some.numbered.now in
    let value : slice_get batches (length batches - 1) ≡ Some b = sym c.in-Some.ensures.value in
    let next : next_sequence batches ≡ Some (sequence_after b) = next_at_last batches (length batches - 1) b (some_len batches b value) value in
    let some : 1 ≤ length b.batch = omega (arith, c.ops.ensures.valid.some) in
    is_next batches (sequence_after b) _ next (omega (arith, ap length c.ops.ensures.ops))
