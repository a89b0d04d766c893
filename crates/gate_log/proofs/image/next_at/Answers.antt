use Rattle.std.proofs.Common.{◌≡◌, ◌≤◌, ◌<◌, ℕ, ◌+◌, List, ◌++◌, length, drop, get_or, inr, sym, ap, ◌∙◌, subst, rules, arith}
use Rattle.std.specs.Prelude.{IsTrue}
use Rattle.std.proofs.lemmas.Grind.{get_or_default_zero}
use Rattle.std.proofs.lemmas.List.{take_rest}
use Rattle.gate_log.specs.Reads.{IsWhole}
use Rattle.gate_log.specs.Fronts.{IsReadTo}
use Rattle.gate_log.proofs.Fronts.{gate_at, longer, no_whole}
use Rattle.gate_log.proofs.image.next_at.Goals as goal

pub returns-in-None-clause-next : goal.returns-in-None-clause-next
returns-in-None-clause-next g c told =
    let f = g.F.DiskFile in
    let all = f.seen c.args.file.now in
    let at = c.args.at in
    let m = c.length_in-n.result in
    let first = c.read_to.new.front.bytes.items in
    let bytes = c.read_to-2.new.front.bytes.items in
    let same = c.read_to.ensures.same in
    let early : IsReadTo (at + 5) first all = c.in_ok-read_to.ensures.read told in
    let read : IsReadTo (at + m + 6) bytes all = subst (λ (l : List ℕ). IsReadTo (at + m + 6) bytes l) same.seen (c.in_ok-read_to-2.ensures.read (subst IsTrue (sym same.told) told)) in
    let in_first : at < length first = omega arith in
    let in_bytes : at < length bytes = omega (arith, c.read_to-2.ensures.grows) in
    let gate : get_or first at 0 ≡ 165 = sym (get_or_default_zero first at c.index.result.now in_first) ∙ sym c.index.ensures ∙ c.if-index.false in
    let found : (n : ℕ) (behind : List ℕ) → 4 ≤ length (drop (at + 1) first) → IsWhole n (drop (at + 1) first ++ behind) → m ≡ n = subst (λ (l : List ℕ). (n : ℕ) (behind : List ℕ) → 4 ≤ length l → IsWhole n (l ++ behind) → m ≡ n) (take_rest c.deref.result.now (at + 1) ∙ ap (λ (l : List ℕ). drop (at + 1) l) c.deref.ensures.value) c.length_in-n.ensures.found in
    let none : (n : ℕ) → IsWhole n (drop (at + 1) bytes) → ⊥ = subst (λ (l : List ℕ). (n : ℕ) → IsWhole n l → ⊥) (take_rest c.deref-2.result.now (at + 1) ∙ ap (λ (l : List ℕ). drop (at + 1) l) c.deref-2.ensures.value) c.in-None.ensures.none in
    inr (omega (arith, in_first, longer first all early.front), gate_at first all at early.front in_first ∙ gate, no_whole at m first bytes all early read in_first in_bytes found none)
