use Rattle.std.proofs.Common.{length}
use Rattle.udt_disk.proofs.outcome.+spoil.Given as goal

abbrev pub decreases-spoil : goal.decreases-spoil
decreases-spoil l = length l.calls.now
