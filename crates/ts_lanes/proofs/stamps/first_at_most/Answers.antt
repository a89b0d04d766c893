use Rattle.std.proofs.Common.{◌+◌, ◌<◌, ℕ, not, inl, inr, arith}
use Rattle.std.specs.Prelude.{nat_le}
use Rattle.std.specs.List.{prefix_len}
use Rattle.std.specs.Simd.Lanes.{chunk}
use Rattle.std.proofs.lemmas.Bool.{cases_lt}
use Rattle.std.proofs.lemmas.Simd.{run_in_chunk_fails, run_in_chunk_stops}
use Rattle.ts_lanes.proofs.Prefixes.{some_at}
use Rattle.ts_lanes.proofs.stamps.first_at_most.Goals as goal

pub returns-then-at-ts : goal.returns-then-at-ts
returns-then-at-ts c =
    let p = λ (x : ℕ). nat_le x c.args.t in
    let at = c.blocks_above-at.result in
    let less : prefix_len (λ x. not (nat_le x c.args.t)) (chunk at 8 c.args.ts.now) < 8 = c.blocks_above-at.ensures.ends (omega arith) in
    let here : c.first_in.result < 8 = omega (arith, less, c.first_in.ensures.value) in
    some_at p c.args.ts.now (at + c.first_in.result) (omega arith)
    (λ k h. elim (cases_lt k at) [
      | inl lt ↦ c.blocks_above-at.ensures.above k lt
      | inr le ↦ run_in_chunk_fails p c.args.ts.now at 8 c.first_in.result 0 (omega arith) c.first_in.ensures.value k le h
    ])
    (run_in_chunk_stops p c.args.ts.now at 8 c.first_in.result 0 (omega arith) c.first_in.ensures.value here)
