use Rattle.std.proofs.Common.{◌≡◌, ◌*◌, ◌-◌, ◌^◌, ap, ◌∙◌, arith}
use Rattle.compaction.specs.declared.sizes.TheConstants.{LEVEL1_BYTES}
use Rattle.compaction.proofs.Counting.{limit_next}
use Rattle.compaction.proofs.due.bytes_limit.Goals as goal

pub loop-below-preserved : goal.loop-below-preserved
loop-below-preserved c = record {
  from = omega arith;
  to = omega arith;
  limit = limit_next c.loop-below.below c.loop-below.limit c.loop-below.invariant.from (omega arith) c.loop-below.invariant.limit;
}

pub returns : goal.returns
returns c = let e : c.loop-below.below ≡ c.args.level = omega arith in c.loop-below.invariant.limit ∙ ap (λ n. LEVEL1_BYTES * 10 ^ (n - 1)) e
