use Rattle.std.proofs.Common.{◌∙◌, ap}
use Rattle.client_runner.specs.Left.{status_of_lines}
use Rattle.client_runner.proofs.EndLemmas.{end_more, run_said, run_told}
use Rattle.client_runner.proofs.top.run_file.Goals as goal

pub returns-in-Ok-clause-ends : goal.returns-in-Ok-clause-ends
returns-in-Ok-clause-ends g c = record {
  meant = c.status_of_lines-status.result;
  text = _;
  work = run_told _ _ _ _ _ _ _ _ c.in-Ok.ready c.status_of_lines-status.result c.in-Ok.ensures.ready (c.status_of_lines-status.ensures ∙ ap status_of_lines c.deref.ensures.value);
  printed = c.say_ready.ensures;
}

pub returns-in-Err-clause-ends : goal.returns-in-Err-clause-ends
returns-in-Err-clause-ends g c = end_more _ _ (run_said _ _ _ _ _ _ c.args.file.now c.in-Err.stop c.in-Err.ensures.stopped) _ _ _ _ (rw c.bytes.ensures.bytes at c.say_stop.ensures)
