use Rattle.std.proofs.Common.{inr}
use Rattle.client_runner.proofs.FileLemmas.{said_stop}
use Rattle.client_runner.proofs.top.try_file.Goals as goal

pub returns-in-Err-clause-ends : goal.returns-in-Err-clause-ends
returns-in-Err-clause-ends g c = record {
  meant = c.say_stop.ensures.meant;
  text = c.say_stop.ensures.text;
  work = inr (said_stop _ _ _ c.args.path.now c.in-Err.stop c.say_stop.ensures.meant c.say_stop.ensures.text c.in-Err.ensures.stopped (rw c.bytes.ensures.bytes at c.say_stop.ensures.work));
  printed = c.say_stop.ensures.printed;
}
