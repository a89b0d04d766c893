use Rattle.std.proofs.Common.{refl, inl, inr}
use Rattle.client_runner.specs.Stops.{message, status_of}
use Rattle.client_runner.specs.declared.status.Stop.TheVariants.{NoMemory}
use Rattle.client_runner.proofs.OutputLemmas.{Appends-nil}
use Rattle.client_runner.proofs.top.say_stop.Goals as goal

pub returns : goal.returns
returns g c = record {
  meant = status_of NoMemory;
  text = message c.args.path.now NoMemory;
  work = inr (rw c.in_default.is at c.fixed_line.ensures.none, refl, refl);
  printed = inl (refl, Appends-nil (g.K.Sink.taken c.args.out.now));
}
