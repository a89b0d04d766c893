use Rattle.std.proofs.Common.{◌≡◌, ◌+◌, ◌-◌, length, Some, sym, ap, ◌∙◌, arith}
use Rattle.std.specs.Prelude.{slice_get}
use Rattle.recovery.proofs.Gathering.{next_at_last, some_len}
use Rattle.recovery.proofs.gathered.next_behind.Goals as goal

pub returns-in-Some-clause-next : goal.returns-in-Some-clause-next
returns-in-Some-clause-next c =
    let batches = c.args.batches.now in
    let b = c.in-Some.last.now in
    let value : slice_get batches (length batches - 1) ≡ Some b = sym c.in-Some.ensures.value in
    ap (λ ops. Some (b.first.0 + length ops)) c.ops.ensures.ops ∙ sym (next_at_last c.args.next batches (length batches - 1) b (omega (arith, some_len batches b value)) value)
