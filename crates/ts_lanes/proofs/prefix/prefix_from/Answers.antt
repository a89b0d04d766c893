use Rattle.std.proofs.Common.{drop, length-drop, arith}
use Rattle.std.specs.Prelude.{nat_eq}
use Rattle.std.proofs.lemmas.List.Sums.{common_prefix_len-le}
use Rattle.ts_lanes.proofs.prefix.prefix_from.Goals as goal

pub returns : goal.returns
returns c =
    let le = common_prefix_len-le nat_eq (drop c.loop-at.at c.args.a.now) (drop c.loop-at.at c.args.b.now) in
    omega (arith, le.0, le.1, length-drop c.loop-at.at c.args.a.now, length-drop c.loop-at.at c.args.b.now, c.loop-at.invariant.same)
