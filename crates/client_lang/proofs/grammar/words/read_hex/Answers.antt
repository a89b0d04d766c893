use Rattle.std.proofs.Common.{◌≡◌, ◌∷◌, List, ℕ, ap, ◌∙◌, sym, arith}
use Rattle.std.specs.Cmp.Lexicographic.{same_text, other_text}
use Rattle.hex.specs.Hex.{encode_lower}
use Rattle.hex.proofs.HexLemmas.{decode_of-ok}
use Rattle.client_lang.proofs.ReadWords.{stripped, digits_are, digits_twice, digits_decode, decoded_once}
use Rattle.client_lang.proofs.grammar.words.read_hex.Goals as goal

pub returns-then-digits-most-clause-none : goal.returns-then-digits-most-clause-none
returns-then-digits-most-clause-none c = λ bytes h.
    let e = stripped c.args.word.now c.in-Some.digits.now c.in-Some.ensures.cases.0 c.in-Some.ensures.cases.1 in
    let twice = digits_twice c.args.word.now c.in-Some.digits.now bytes e h in
    omega arith

pub returns-in_default-2-clause-none : goal.returns-in_default-2-clause-none
returns-in_default-2-clause-none c = λ bytes h.
    let e = stripped c.args.word.now c.in-Some.digits.now c.in-Some.ensures.cases.0 c.in-Some.ensures.cases.1 in
    let none = rw c.in_default-2.is at c.in_ok-bytes.ensures.none in
    absurd (none bytes (digits_decode c.args.word.now c.in-Some.digits.now bytes e h))

pub returns-then-eq-clause-bytes : goal.returns-then-eq-clause-bytes
returns-then-eq-clause-bytes c =
    let e = stripped c.args.word.now c.in-Some.digits.now c.in-Some.ensures.cases.0 c.in-Some.ensures.cases.1 in
    let decoded = rw c.in-Some-2.is at c.in_ok-bytes.ensures.bytes in
    let same = same_text c.as_bytes.result.now c.in-Some.digits.now (sym c.if-eq.true ∙ c.eq.ensures) in
    let spelled : c.in-Some.digits.now ≡ encode_lower c.in-Some-2.bytes.items = sym same ∙ c.as_bytes.ensures.value ∙ c.in_ok-spelled.ensures ∙ ap encode_lower c.as_slice.ensures.value in
    (e ∙ ap (λ (digits : List ℕ). 48 ∷ 120 ∷ digits) spelled, (decode_of-ok c.in-Some.digits.now c.in-Some-2.bytes.items decoded).3)

pub returns-else-eq-clause-none : goal.returns-else-eq-clause-none
returns-else-eq-clause-none c = λ other h.
    let e = stripped c.args.word.now c.in-Some.digits.now c.in-Some.ensures.cases.0 c.in-Some.ensures.cases.1 in
    let decoded = rw c.in-Some-2.is at c.in_ok-bytes.ensures.bytes in
    let same = decoded_once c.args.word.now c.in-Some.digits.now c.in-Some-2.bytes.items other e decoded h in
    let are = digits_are c.args.word.now c.in-Some.digits.now other e h in
    let spelled : c.as_bytes.result.now ≡ c.in-Some.digits.now =
    c.as_bytes.ensures.value ∙ c.in_ok-spelled.ensures ∙ ap encode_lower (c.as_slice.ensures.value ∙ same) ∙ sym are in
    absurd (other_text c.as_bytes.result.now c.in-Some.digits.now (sym c.if-eq.false ∙ c.eq.ensures) spelled)
