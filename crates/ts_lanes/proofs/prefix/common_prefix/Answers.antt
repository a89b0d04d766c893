use Rattle.std.proofs.Common.{◌<◌, drop, length-drop, arith}
use Rattle.std.specs.Prelude.{nat_eq}
use Rattle.std.specs.List.{common_prefix_len}
use Rattle.std.specs.Simd.Lanes.{chunk}
use Rattle.ts_lanes.proofs.Prefixes.{front_less}
use Rattle.ts_lanes.proofs.prefix.common_prefix.Goals as goal

pub returns-then-at-both : goal.returns-then-at-both
returns-then-at-both c =
    let at = c.same_blocks-at.result in
    let a = drop at c.args.a.now in
    let b = drop at c.args.b.now in
    let less : common_prefix_len nat_eq (chunk at 32 c.args.a.now) (chunk at 32 c.args.b.now) < 32 = c.same_blocks-at.ensures.ends (omega arith) in
    let e = front_less 32 a b (omega (arith, length-drop at c.args.a.now)) (omega (arith, length-drop at c.args.b.now)) less in
    omega (arith, e, c.prefix_in.ensures.value, c.same_blocks-at.ensures.same)
