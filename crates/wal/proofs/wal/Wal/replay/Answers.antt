use Rattle.std.proofs.Common.{◌≤◌, Bool, map, length, ap, subst, sym, ◌∙◌, arith, List}
use Rattle.udt_disk.specs.Causes.{IsCause}
use Rattle.gate_log.specs.Placed.{Placed}
use Rattle.gate_log.specs.Reads.{body_of}
use Rattle.wal.specs.Bodies.{HoldsBatches}
use Rattle.wal.specs.Replays.{IsReplayFault, is_replay_disk_fault}
use Rattle.wal.proofs.Bodies.{holds_within}
use Rattle.wal.proofs.Logs.{reading_only}
use Rattle.wal.proofs.BadFrames.{reading_refused, not_the_disks}
use Rattle.wal.proofs.wal.Wal.replay.Goals as goal

pub returns-in-Err-clause-cause : goal.returns-in-Err-clause-cause
returns-in-Err-clause-cause g c =
    subst (λ (b : Bool). IsCause b (g.F.DiskFile.faults c.args.file) (g.F.DiskFile.faults c.in-Err.file)) (sym c.replay_fault.ensures.cause) c.in-Err.ensures.cause

pub returns-in-Ok-batches_of-clause-only : goal.returns-in-Ok-batches_of-clause-only
returns-in-Ok-batches_of-clause-only g c told =
    let few : length c.args.sizes ≤ 16 = omega (arith, ap length c.sizes.view_is, c.sizes.invariant.within) in
    reading_only c.args.sizes c.in-Ok.read.1.items (g.F.DiskFile.seen c.args.file) c.in-Ok-batches_of.batches.items few (c.in-Ok.ensures.read told)
    (subst (λ (ps : List Placed). HoldsBatches c.args.sizes (map body_of ps) c.in-Ok-batches_of.batches.items) c.deref.ensures.value c.in-Ok-batches_of.ensures)

pub returns-in-Err-batches_of-clause-refused : goal.returns-in-Err-batches_of-clause-refused
returns-in-Err-batches_of-clause-refused g c told =
    subst (IsReplayFault c.args.sizes c.args.number (g.F.DiskFile.seen c.args.file)) (sym c.log_fault.ensures) (reading_refused c.args.sizes c.args.number c.deref.result.now c.in-Ok.read.1.items (g.F.DiskFile.seen c.args.file) c.in-Err-batches_of.fault c.deref.ensures.value (c.in-Ok.ensures.read told) c.in-Err-batches_of.ensures)

pub returns-in-Err-batches_of-clause-cause : goal.returns-in-Err-batches_of-clause-cause
returns-in-Err-batches_of-clause-cause g c =
    let same = ap g.F.DiskFile.faults c.into_file.ensures ∙ c.in-Ok.ensures.kept in
    subst (λ (b : Bool). IsCause b (g.F.DiskFile.faults c.args.file) (g.F.DiskFile.faults c.into_file.result)) (sym (ap is_replay_disk_fault c.log_fault.ensures ∙ not_the_disks c.args.number c.in-Err-batches_of.fault)) same

pub returns-in-Ok-batches_of-clause-within : goal.returns-in-Ok-batches_of-clause-within
returns-in-Ok-batches_of-clause-within g c = holds_within c.args.sizes _ c.in-Ok-batches_of.batches.items c.in-Ok-batches_of.ensures
