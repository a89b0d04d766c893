use Rattle.std.proofs.Common.{drop, ◌∙◌, length-drop, arith}
use Rattle.ts_lanes.proofs.Prefixes.{front_more, steps_on}
use Rattle.ts_lanes.proofs.prefix.same_blocks.Goals as goal

pub loop-at-preserved : goal.loop-at-preserved
loop-at-preserved c =
    let a = drop c.loop-at.at c.args.a.now in
    let b = drop c.loop-at.at c.args.b.now in
    let e = front_more 32 a b (omega (arith, length-drop c.loop-at.at c.args.a.now)) (omega (arith, length-drop c.loop-at.at c.args.b.now)) (omega (arith, c.prefix_in.ensures.value)) in
    record { within = omega arith; same = steps_on c.loop-at.at 32 c.args.a.now c.args.b.now e ∙ c.loop-at.invariant.same }
