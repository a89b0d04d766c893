use Rattle.std.proofs.Common.{◌≤◌, length, ap, arith}
use Rattle.client_lang.specs.Print.{print_line}
use Rattle.client_runner.proofs.OutputLemmas.{longest_more, all_lines, alone_in}
use Rattle.client_runner.proofs.output.longest_line.Goals as goal

pub loop-line-preserved : goal.loop-line-preserved
loop-line-preserved c =
    let line = c.line-item.result in
    let size = ap length (alone_in _ _ (print_line line) c.clear.ensures.items c.in_ok-print_line.ensures.text.pushed) in
    longest_more c.args.lines.now c.loop-line.line-index line c.loop-line.longest c.max-longest.result c.loop-line-test.true c.line-item.is c.loop-line.invariant (omega arith) (omega (arith, size))

pub returns : goal.returns
returns c = all_lines (λ line. length (print_line line) ≤ c.loop-line.longest) c.args.lines.now c.loop-line.line-index (omega arith) c.loop-line.invariant
