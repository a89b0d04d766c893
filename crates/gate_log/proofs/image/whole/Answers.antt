use Rattle.std.proofs.Common.{◌≡◌, ◌<◌, ◌++◌, ℕ, List, rules, take, drop, length, get_or, sym, ◌∙◌, ap, subst, arith, take-append-drop}
use Rattle.std.specs.Int.{w32, to_le_bytes}
use Rattle.std.proofs.lemmas.Nat.{le_bytes_4}
use Rattle.std.proofs.lemmas.List.{length-take}
use Rattle.gate_log.proofs.Reading.{small_take}
use Rattle.gate_log.proofs.image.whole.Goals as goal

pub returns-clause-found : goal.returns-clause-found
returns-clause-found c =
    let rest = c.args.rest.now in
    let bs = c.in_ok-size.size.now in
    let n = c.from_le_bytes-n.result in
    let front : bs ≡ take 4 rest = search rules in
    let four : length bs ≡ 4 = omega (arith, ap length front, length-take 4 rest) in
    let small : (i : ℕ) → get_or bs i 0 < 256 = subst (λ (l : List ℕ). (i : ℕ) → get_or l i 0 < 256) (sym front) (small_take 4 rest (λ i. omega (arith, c.type_inv.rest i))) in
    let spelled : to_le_bytes w32 n ≡ bs = le_bytes_4 bs n four small c.from_le_bytes-n.ensures in
    record {
      some = omega arith;
      short = omega arith;
      size = sym (take-append-drop 4 rest) ∙ ap (λ (l : List ℕ). l ++ drop 4 rest) (sym front ∙ sym spelled);
      there = omega arith;
    }
