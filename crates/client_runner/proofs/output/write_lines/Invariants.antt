use Rattle.std.proofs.Common.{◌≤◌, take}
use Rattle.client_runner.specs.Output.{Passes}
use Rattle.client_lang.specs.Print.{print_lines}
use Rattle.client_runner.proofs.output.write_lines.Given as goal

abbrev pub invariant-loop-line : goal.invariant-loop-line
invariant-loop-line g l = record {
  passed : Passes (g.K.Sink.taken l.fn.out) (g.K.Sink.taken l.out) l.fn.buffer l.buffer (print_lines (take l.line-index l.lines));
  later : g.K.Sink.faults l.fn.out ≤ g.K.Sink.faults l.out;
}
