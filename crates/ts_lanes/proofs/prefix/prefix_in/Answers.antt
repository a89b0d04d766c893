use Rattle.std.proofs.Common.{sym, ◌∙◌, arith}
use Rattle.std.specs.Prelude.{nat_eq}
use lib.Lanes.{chunk}
use Rattle.std.proofs.lemmas.Simd.{length-chunk}
use Rattle.std.proofs.lemmas.List.Sums.{common_prefix_len-le}
use Rattle.ts_lanes.proofs.Prefixes.{none_apart, first_apart}
use Rattle.ts_lanes.proofs.prefix.prefix_in.Goals as goal

pub returns-then-apart-eq0-clause-value : goal.returns-then-apart-eq0-clause-value
returns-then-apart-eq0-clause-value c =
    let a = length-chunk c.args.at 32 c.args.a.now c.requires.in_a in
    let b = length-chunk c.args.at 32 c.args.b.now c.requires.in_b in
    sym a ∙ none_apart (chunk c.args.at 32 c.args.a.now) (chunk c.args.at 32 c.args.b.now) (a ∙ sym b) (omega arith) c.if-apart-eq0.true

pub returns-else-apart-eq0-clause-value : goal.returns-else-apart-eq0-clause-value
returns-else-apart-eq0-clause-value c =
    let a = length-chunk c.args.at 32 c.args.a.now c.requires.in_a in
    let b = length-chunk c.args.at 32 c.args.b.now c.requires.in_b in
    first_apart (chunk c.args.at 32 c.args.a.now) (chunk c.args.at 32 c.args.b.now) (a ∙ sym b) (omega arith) (omega arith)

pub returns-else-apart-eq0-clause-within : goal.returns-else-apart-eq0-clause-within
returns-else-apart-eq0-clause-within c =
    let a = length-chunk c.args.at 32 c.args.a.now c.requires.in_a in
    let b = length-chunk c.args.at 32 c.args.b.now c.requires.in_b in
    let e = first_apart (chunk c.args.at 32 c.args.a.now) (chunk c.args.at 32 c.args.b.now) (a ∙ sym b) (omega arith) (omega arith) in
    let le = common_prefix_len-le nat_eq (chunk c.args.at 32 c.args.a.now) (chunk c.args.at 32 c.args.b.now) in
    omega (arith, e, le.0, a)
