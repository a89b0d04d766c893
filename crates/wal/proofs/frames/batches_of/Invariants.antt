use Rattle.std.proofs.Common.{map, take}
use Rattle.gate_log.specs.Reads.{body_of}
use Rattle.wal.specs.Bodies.{HoldsBatches}
use Rattle.wal.proofs.frames.batches_of.Given as goal

abbrev pub invariant-loop-frame : goal.invariant-loop-frame
invariant-loop-frame l = HoldsBatches l.sizes (map body_of (take l.frame-index l.frames)) l.batches.items
