use Rattle.std.proofs.Common.{map, take}
use Rattle.gate_log.specs.Reads.{body_of}
use Rattle.manifest_fold.specs.Bodies.{LeadAll}
use Rattle.edit_log.proofs.replay.fold_edits.Given as goal

abbrev pub invariant-loop-frame : goal.invariant-loop-frame
invariant-loop-frame l = LeadAll l.initial.fold (map body_of (take l.frame-index l.frames)) l.fold
