use Rattle.std.proofs.Common.{◌≡◌, ℕ, List, length, take, drop, min, ◌-◌, ◌+◌, ap, ◌∙◌, arith}
use Rattle.std.proofs.lemmas.List.{length-drop}
use Rattle.udt_disk.proofs.Histories.{take_min}
use Rattle.udt_disk.proofs.mem_file.write_over.Goals as goal

pub returns-clause-noted : goal.returns-clause-noted
returns-clause-noted c =
    let bytes = c.args.bytes.now.items in
    let over : c.args.at + c.min-over.result - c.args.at ≡ min (length c.args.piece.now) (length (drop c.args.at bytes)) = omega (arith, length-drop c.args.at bytes) in (
      c.in_ok-written_over.written_over,
      c.in_ok-written_over.ensures.items
          ∙ ap (λ (l : List ℕ). take (c.args.at + c.min-over.result - c.args.at) (drop c.args.at l)) c.deref.ensures.value
          ∙ ap (λ (n : ℕ). take n (drop c.args.at bytes)) over
          ∙ take_min (length c.args.piece.now) (drop c.args.at bytes),
      c.in_ok-push.ensures.items,
    )
