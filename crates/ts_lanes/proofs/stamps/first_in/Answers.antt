use Rattle.std.proofs.Common.{not, sym, ap, ◌∙◌, arith, w64}
use Rattle.std.specs.Prelude.{nat_le}
use lib.Count.{count_trailing_zeros}
use lib.Lanes.{chunk}
use Rattle.std.proofs.lemmas.Simd.{length-chunk, bitmask_splat, leading_from_mask_l, trailing_mask_l}
use Rattle.std.proofs.lemmas.List.Sums.{prefix_len-le-length}
use Rattle.ts_lanes.proofs.stamps.first_in.Goals as goal

pub returns-then-low-eq0-clause-value : goal.returns-then-low-eq0-clause-value
returns-then-low-eq0-clause-value c =
    let v = chunk c.args.at 8 c.args.ts.now in
    let long = length-chunk c.args.at 8 c.args.ts.now c.requires in
    let hits = bitmask_splat w64 nat_le v 8 c.args.t long (omega arith) in
    sym (leading_from_mask_l (λ x. nat_le x c.args.t) v (sym hits ∙ c.if-low-eq0.true) ∙ long)

pub returns-else-low-eq0-clause-value : goal.returns-else-low-eq0-clause-value
returns-else-low-eq0-clause-value c =
    let v = chunk c.args.at 8 c.args.ts.now in
    let long = length-chunk c.args.at 8 c.args.ts.now c.requires in
    let hits = bitmask_splat w64 nat_le v 8 c.args.t long (omega arith) in
    ap (count_trailing_zeros 64) hits ∙ trailing_mask_l (λ x. nat_le x c.args.t) 64 v (omega arith) (omega (arith, hits))

pub returns-else-low-eq0-clause-within : goal.returns-else-low-eq0-clause-within
returns-else-low-eq0-clause-within c =
    let v = chunk c.args.at 8 c.args.ts.now in
    let long = length-chunk c.args.at 8 c.args.ts.now c.requires in
    let hits = bitmask_splat w64 nat_le v 8 c.args.t long (omega arith) in
    let e = ap (count_trailing_zeros 64) hits ∙ trailing_mask_l (λ x. nat_le x c.args.t) 64 v (omega arith) (omega (arith, hits)) in
    omega (arith, e, prefix_len-le-length (λ x. not (nat_le x c.args.t)) v)
