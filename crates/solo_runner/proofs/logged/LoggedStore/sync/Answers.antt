use Rattle.std.proofs.Common.{◌≡◌, arith, None}
use Rattle.std.proofs.Common.{◌+◌, ◌<◌}
use Rattle.wal.specs.Wals.{wal_pending}
use Rattle.wal.specs.declared.wal.TheConstants.{PENDING_LIMIT}
use Rattle.solo_runner.specs.LoggedStores.{store_state, wal_of}
use Rattle.solo_runner.proofs.StepLemmas.{none_left, step_synced, step_sync_failed}
use Rattle.solo_runner.proofs.logged.LoggedStore.sync.Goals as goal

pub returns-in-Ok : goal.returns-in-Ok
returns-in-Ok g c =
    let m = store_state c.args.self.now in
    let told = c.in-Ok.ensures in
    let works : c.args.self.now.halted ≡ None = none_left c.args.self.now.halted c.in_default.not-Some in
    let ready = c.requires.in_step.ready works in
    let room : wal_pending c.sync.new.self < PENDING_LIMIT = omega (arith, told.pending) in
    step_synced g.F.DiskFile (wal_of c.args.self.now) c.sync.new.self m c.args.number works c.requires.in_step (told.goes_on (m.last.0 + 1) ready.next) room told.cause.kept told.same told.sizes told.holds told.moments

pub returns-in-Err : goal.returns-in-Err
returns-in-Err g c =
    let m = store_state c.args.self.now in
    let told = c.in-Err.ensures in
    let works : c.args.self.now.halted ≡ None = none_left c.args.self.now.halted c.in_default.not-Some in
    step_sync_failed g.F.DiskFile (wal_of c.args.self.now) c.sync.new.self m c.args.number works c.requires.in_step told.cause.failed told.cause.later told.same told.sizes told.moments
