use Rattle.std.proofs.Common.{arith}
use Rattle.std.proofs.lemmas.Result.{err_from_is_err_and}
use Rattle.client_runner.proofs.FlowLemmas.{appends_more, front_kept}
use Rattle.client_runner.proofs.flow.write_whole.Goals as goal

pub loop-at-preserved : goal.loop-at-preserved
loop-at-preserved g c = record {
  taken = appends_more _ _ _ c.loop-at.at c.in_ok-count.count c.args.text.now c.loop-at.invariant.taken c.in_ok-count.ensures.bytes;
  within = grind arith;
  later = grind arith;
}

pub returns-in_err-count-clause-front : goal.returns-in_err-count-clause-front
returns-in_err-count-clause-front g c =
    let p = err_from_is_err_and c.from_residual.result c.from_residual.ensures.1 in
    rw p.1 (front_kept _ _ _ c.loop-at.at c.args.text.now c.loop-at.invariant.taken c.in_err-count.ensures.bytes)
