use Rattle.std.proofs.Common.{◌≡◌, ◌-◌, length, Some, sym, ap, ◌∙◌}
use Rattle.std.specs.Prelude.{slice_get}
use Rattle.wal.proofs.SequenceSteps.{next_at_last, some_len}
use Rattle.wal.proofs.sequence.next_sequence.Goals as goal

pub returns : goal.returns
returns c =
    let batches = c.args.batches.now in
    let value : slice_get batches (length batches - 1) ≡ Some c.in_ok-last.last.now = sym c.in_ok-last.ensures.value in
    ap Some c.sequence_after.ensures ∙ sym (next_at_last batches (length batches - 1) c.in_ok-last.last.now (some_len batches c.in_ok-last.last.now value) value)
