use Rattle.std.proofs.Common.{◌∙◌, ℕ, List, [], ◌∷◌, ◌++◌, ap, sym}
use Rattle.gate_rows.specs.GateRows.{committed, committed_heavy}
use Rattle.gate_rows.proofs.Committed.{committed_later}
use Rattle.gate_rows.proofs.tests.gate.add_committed.Goals as goal

pub give_commit-requires-clause-shown : goal.give_commit-requires-clause-shown
give_commit-requires-clause-shown g c =
    let later = committed_later _ _ _ (ap (λ k. k.has_commit) c.take_commit-committed.ensures.seat.is) c.take_front-held.ensures.later in
    let same = ap (λ k. k.seen) c.give_front.ensures.seat.is ∙ ap (λ k. k.seen) c.height-height.ensures.seat.is in
    c.make_room-has_memory.ensures.commit ∙ (c.take_commit-committed.ensures.shown ∙ sym (ap committed same ∙ later))

pub give_commit-requires-2-clause-shown : goal.give_commit-requires-2-clause-shown
give_commit-requires-2-clause-shown g c = let number : ℕ = c.args.number in
    let later = committed_later _ _ _ (ap (λ k. k.has_commit) c.take_commit-committed.ensures.seat.is) c.take_front-held.ensures.later in
    let same = ap (λ k. committed k.seen) c.height-height.ensures.seat.is in
    let end = ap (λ k. committed k.seen) c.give_front_with-receipt.ensures.seat.is ∙ committed_heavy c.height-height.new.seat.inner.me.0.seen number c.requires.heavy in
    c.push_reserved-2.ensures.items ∙ (ap (λ (l : List ℕ). l ++ number ∷ []) (c.make_room-has_memory.ensures.commit ∙ (c.take_commit-committed.ensures.shown ∙ sym (same ∙ later))) ∙ sym end)
