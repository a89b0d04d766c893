use Rattle.std.proofs.Common.{ℕ, arith}
use Rattle.std.specs.Prelude.{nat_le}
use Rattle.ts_lanes.proofs.Prefixes.{some_at, none_at}
use Rattle.ts_lanes.proofs.stamps.first_from.Goals as goal

pub returns-then-ts-at : goal.returns-then-ts-at
returns-then-ts-at c = some_at (λ (x : ℕ). nat_le x c.args.t) c.args.ts.now c.loop-at.at (omega arith) c.loop-at.invariant.above (grind arith)

pub returns : goal.returns
returns c = none_at (λ (x : ℕ). nat_le x c.args.t) c.args.ts.now (λ k lt. c.loop-at.invariant.above k (omega arith))
