use Rattle.std.proofs.Common.{arith}
use Rattle.std.proofs.lemmas.List.{take_all}
use Rattle.std.proofs.lemmas.Result.{err_from_is_err_and}
use Rattle.client_lang.specs.Print.{print_lines}
use Rattle.client_runner.proofs.OutputLemmas.{OnErr-map, lines_more, lines_stop, lines_end_stop}
use Rattle.client_runner.proofs.output.write_lines.Goals as goal

pub returns-in_err-write_line-clause-front : goal.returns-in_err-write_line-clause-front
returns-in_err-write_line-clause-front g c =
    let p = err_from_is_err_and c.from_residual.result c.from_residual.ensures.1 in
    rw p.1 (lines_stop _ _ _ c.args.buffer.now c.loop-line.buffer c.args.lines.now c.loop-line.line-index c.line-item.result c.loop-line-test.true c.line-item.is c.loop-line.invariant.passed c.in_err-write_line.ensures.front)

pub loop-line-preserved : goal.loop-line-preserved
loop-line-preserved g c = record {
  passed = lines_more _ _ _ c.args.buffer.now c.loop-line.buffer c.write_line.new.buffer c.args.lines.now c.loop-line.line-index c.line-item.result c.loop-line-test.true c.line-item.is c.loop-line.invariant.passed c.in_ok-write_line.ensures.ok;
  later = omega (arith, c.loop-line.invariant.later, c.in_ok-write_line.ensures.later);
}

pub returns-clause-front : goal.returns-clause-front
returns-clause-front g c =
    let all = take_all c.loop-line.line-index c.args.lines.now (omega arith) in
    let passed = rw all at c.loop-line.invariant.passed in
    OnErr-map c.write_whole.result _ _ (λ f. lines_end_stop _ _ _ c.args.buffer.now c.loop-line.buffer (print_lines c.args.lines.now) passed f) (rw c.deref.ensures.value at c.write_whole.ensures.front)
