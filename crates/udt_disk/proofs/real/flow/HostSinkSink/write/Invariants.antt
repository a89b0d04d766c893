use Rattle.std.proofs.Common.{◌≡◌}
use Rattle.udt_disk.proofs.real.flow.HostSinkSink.write.Given as goal

abbrev pub invariant-loop : goal.invariant-loop
invariant-loop g l = l.self.faults ≡ l.fn.self.faults
