use Rattle.std.proofs.Common.{subst, sym, ap, ◌∙◌}
use Rattle.wal.specs.Replays.{IsReplayFault, is_replay_disk_fault}
use Rattle.wal.proofs.BadFrames.{fault_torn, fault_strange, not_the_disks}
use Rattle.wal.proofs.wal.torn_fault.Goals as goal

pub returns-in_default-clause-refused : goal.returns-in_default-clause-refused
returns-in_default-clause-refused c = fault_torn c.args.sizes.now c.args.number c.args.at c.args.before.now c.in_default.field-0.items c.in_default.ensures

pub returns-clause-refused : goal.returns-clause-refused
returns-clause-refused c bytes torn none =
    subst (IsReplayFault c.args.sizes.now c.args.number bytes) (sym c.log_fault.ensures) (fault_strange c.args.sizes.now c.args.number c.args.at c.args.before.now c.in-Err.earlier c.in-Err.ensures bytes torn none)

pub returns-clause-cause : goal.returns-clause-cause
returns-clause-cause c = ap is_replay_disk_fault c.log_fault.ensures ∙ not_the_disks c.args.number c.in-Err.earlier
