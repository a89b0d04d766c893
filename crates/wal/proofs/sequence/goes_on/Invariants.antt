use Rattle.std.proofs.Common.{drop}
use Rattle.wal.proofs.SequenceSteps.{IsAsFor}
use Rattle.wal.proofs.sequence.goes_on.Given as goal

abbrev pub invariant-loop-numbered : goal.invariant-loop-numbered
invariant-loop-numbered l = IsAsFor l.fn.next l.wanted l.batches (drop l.numbered-index l.batches)
