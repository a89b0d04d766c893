use Rattle.std.proofs.Common.{◌≡◌, ◌∙◌, sym, subst, ap}
use Rattle.std.specs.Str.{IsAscii}
use Rattle.std.specs.Fmt.{decimal}
use Rattle.std.proofs.lemmas.Str.{IsUtf8-from_ascii}
use Rattle.std.proofs.lemmas.Fmt.{IsAscii-decimal, parse-decimal}
use Rattle.std.proofs.lemmas.Slice.Eq.{slice_eq-Decides}
use Rattle.std.proofs.lemmas.Bool.Decides.{Decides-eqb, not_from_Decides}
use Rattle.client_lang.proofs.grammar.words.read_number.Goals as goal

pub returns-in_default : goal.returns-in_default
returns-in_default c = λ n h. c.in_default.ensures.cases.0 (IsUtf8-from_ascii c.args.word.now (subst IsAscii (sym h.0) (IsAscii-decimal n h.1)))

pub returns-in_default-parse : goal.returns-in_default-parse
returns-in_default-parse c = λ n h.
    let r = parse-decimal 64 n _ c.parse.result h.1 h.1 (c.in-Ok.ensures.cases.0 ∙ h.0) c.parse.ensures.value.0 in
    let is = c.in_default-parse.is in
    cc

pub returns-else-eq : goal.returns-else-eq
returns-else-eq c = λ n h.
    let r = parse-decimal 64 n _ c.parse.result h.1 h.1 (c.in-Ok.ensures.cases.0 ∙ h.0) c.parse.ensures.value.0 in
    let is = c.in-Ok-parse.is in
    let same : c.in-Ok-parse.number ≡ n = cc in
    let spelled = c.format-spelled.ensures.text in
    let bytes = c.as_bytes.ensures.value in
    let all : c.as_bytes.result.now ≡ c.args.word.now = bytes ∙ spelled ∙ ap decimal same ∙ sym h.0 in
    not_from_Decides c.eq.result (slice_eq-Decides Decides-eqb _ _ _ c.eq.ensures) c.if-eq.false all
