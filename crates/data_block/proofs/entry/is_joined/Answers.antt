use Rattle.std.proofs.Common.{◌≡◌, ◌≤◌, length, ap, ◌∙◌, arith}
use Rattle.std.specs.Prelude.{nat_eq}
use Rattle.std.proofs.lemmas.Bool.{eqb-true, eq-eqb}
use Rattle.std.specs.List.{common_prefix_len}
use Rattle.data_block.proofs.Nexts.{middle}
use Rattle.data_block.proofs.entry.is_joined.Goals as goal

pub returns : goal.returns
returns c =
    let f = c.args.f.now in
    let le : f.shared ≤ length c.args.last.now = omega arith in
    let e = middle c.args.n c.args.last.now f.key.now f.shared c.common_prefix.result c.if-n-eq0.false le (c.common_prefix.ensures ∙ ap (λ x. common_prefix_len nat_eq x f.key.now) c.split_at.ensures.back) in (
      λ t. record { within = le; exact = let z : c.common_prefix.result ≡ 0 = eqb-true _ _ t in omega (arith, e, z) },
      λ j. let x = j.exact in eq-eqb c.common_prefix.result 0 (omega (arith, e, x)),
    )
