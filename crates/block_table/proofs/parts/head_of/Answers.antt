use Rattle.std.proofs.Common.{ℕ, List, get_or, sym, ap, ◌∙◌, arith}
use Rattle.block_table.proofs.Heads.{ended, number_once, form_once}
use Rattle.block_table.proofs.parts.head_of.Goals as goal

pub returns-then-bytes-lt13-clause-head : goal.returns-then-bytes-lt13-clause-head
returns-then-bytes-lt13-clause-head c = λ p fits e. let h = ended c.args.bytes.now p e in omega (arith, h.enough)

pub returns-in_default-clause-head : goal.returns-in_default-clause-head
returns-in_default-clause-head c = λ p fits e.
    let h = ended c.args.bytes.now p e in
    c.in_default.ensures p.form (sym h.form ∙ ap (λ (xs : List ℕ). get_or xs 0 0) (sym c.split_at.ensures.back))

pub returns-clause-head : goal.returns-clause-head
returns-clause-head c = λ p fits e.
    let h = ended c.args.bytes.now p e in record {
      family = number_once 4 c.u32_of-family.result p.family.0 (omega arith) (omega (arith, fits.family)) (sym c.u32_of-family.ensures ∙ c.split_at.ensures.front ∙ h.family);
      form = form_once c.in-Some.form p.form (c.in-Some.ensures ∙ ap (λ (xs : List ℕ). get_or xs 0 0) c.split_at.ensures.back ∙ h.form);
      collected_by = number_once 8 c.u64_of-collected_by.result p.collected_by.0 (omega arith) (omega (arith, fits.collected_by)) (sym c.u64_of-collected_by.ensures ∙ c.split_at-2.ensures.back ∙ h.collected_by);
    }
