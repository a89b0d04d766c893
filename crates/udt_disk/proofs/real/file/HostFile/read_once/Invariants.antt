use Rattle.std.proofs.Common.{◌≡◌, ◌≤◌, length}
use Rattle.udt_disk.proofs.real.file.HostFile.read_once.Given as goal

abbrev pub invariant-loop : goal.invariant-loop
invariant-loop l = (l.done ≤ length l.into) × (l.self.faults ≡ l.fn.self.faults) × (l.self.name ≡ l.fn.self.name)
