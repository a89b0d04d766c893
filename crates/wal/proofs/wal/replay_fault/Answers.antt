use Rattle.std.proofs.Common.{◌∙◌, ap, sym}
use Rattle.gate_log.specs.Faults.{is_frames_disk_fault}
use Rattle.wal.proofs.BadFrames.{fault_handed}
use Rattle.wal.proofs.wal.replay_fault.Goals as goal

pub returns-in-BadFrame-clause-refused : goal.returns-in-BadFrame-clause-refused
returns-in-BadFrame-clause-refused c =
    fault_handed c.args.sizes.now c.args.number c.in-BadFrame.at c.in-BadFrame.before c.deref.result.now c.args.fault c.torn_fault.result c.in-BadFrame.is c.deref.ensures.value c.torn_fault.ensures.refused

pub returns-in-BadFrame-clause-cause : goal.returns-in-BadFrame-clause-cause
returns-in-BadFrame-clause-cause c = c.torn_fault.ensures.cause ∙ sym (ap is_frames_disk_fault c.in-BadFrame.is)
