use Rattle.std.proofs.Common.{ℕ, inl, inr, arith}
use Rattle.std.specs.Prelude.{nat_le}
use Rattle.std.proofs.lemmas.Bool.{cases_lt}
use Rattle.std.proofs.lemmas.Simd.{run_in_chunk_fails}
use Rattle.ts_lanes.proofs.stamps.blocks_above.Goals as goal

pub loop-at-preserved : goal.loop-at-preserved
loop-at-preserved c =
    let p = λ (x : ℕ). nat_le x c.args.t in
    record {
      within = omega arith;
      above = λ k h. elim (cases_lt k c.loop-at.at) [
        | inl lt ↦ c.loop-at.invariant.above k lt
        | inr le ↦ run_in_chunk_fails p c.args.ts.now c.loop-at.at 8 c.first_in.result 0 (omega arith) c.first_in.ensures.value k le (omega arith)
      ];
    }
