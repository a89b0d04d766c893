use Rattle.std.proofs.Common.{◌≡◌, ◌+◌, ◌++◌, ◌∷◌, [], length, ap, ◌∙◌, sym, arith}
use Rattle.wal.specs.Wals.{waiting_with, wal_file, wal_waiting}
use Rattle.wal.proofs.Showing.{ready_from}
use Rattle.solo_runner.proofs.LoggingLemmas.{holds_synced, is_asked, run_from, same_from}
use Rattle.solo_runner.proofs.logged.log_batch.Goals.{else-not-sync-via-then-not-sync+else-pending-lt-PENDING_LIMIT, else-not-sync-via-else-not-sync}
use Rattle.solo_runner.proofs.logged.log_batch.Goals as goal

pub sync-requires-after_bounds : goal.sync-requires-after_bounds
sync-requires-after_bounds g c κs within = ready_from g.F.DiskFile c.append.new.self (c.args.first.0 + length c.args.batch.now) c.in-Ok.ensures.goes_on

pub returns-in-Ok-sync : goal.returns-in-Ok-sync
returns-in-Ok-sync g c =
    let f = g.F.DiskFile in
    let old = c.args.wal.now in
    let mid = c.append.new.self in
    let new = c.sync.new.self in
    let n = c.args.first.0 + length c.args.batch.now in
    let waits = c.in-Ok.ensures in
    let told = c.in-Ok-sync.ensures in
    let faults : f.faults (wal_file new) ≡ f.faults (wal_file old) = told.cause.kept ∙ ap f.faults waits.file in
    record {
      goes_on = (record { next = told.goes_on n waits.goes_on; room = omega (arith, told.pending) }, faults);
      holds = λ bs ws holds. holds_synced f new bs ws _ c.args.sync (told.holds bs (ws ++ record { first = c.args.first; batch = c.args.batch.now } ∷ []) (waits.holds bs ws holds));
      moments = λ bs ws holds. run_from f old mid (wal_file new) bs (ws ++ record { first = c.args.first; batch = c.args.batch.now } ∷ []) waits.file waits.sizes (told.moments bs (ws ++ record { first = c.args.first; batch = c.args.batch.now } ∷ []) (waits.holds bs ws holds));
      later = omega (arith, faults);
      same = same_from f (wal_file old) (wal_file mid) (wal_file new) waits.file told.same;
      sizes = told.sizes ∙ waits.sizes;
      put_off = λ unsynced few. absurd (elim c.else-not-sync.branch [
        | else-not-sync-via-then-not-sync+else-pending-lt-PENDING_LIMIT w ↦
            let size : length (wal_waiting mid) ≡ length (waiting_with old (record { first = c.args.first; batch = c.args.batch.now })) = ap length waits.bytes in
            omega (arith, few, size, w.pending.ensures, w.if-pending-lt-PENDING_LIMIT.false)
        | else-not-sync-via-else-not-sync w ↦ is_asked c.args.sync unsynced w.if-not-sync.false
      ]);
    }

pub returns-in-Err-sync : goal.returns-in-Err-sync
returns-in-Err-sync g c =
    let f = g.F.DiskFile in
    let old = c.args.wal.now in
    let mid = c.append.new.self in
    let new = c.sync.new.self in
    let waits = c.in-Ok.ensures in
    let told = c.in-Err-sync.ensures in
    let faults : f.faults (wal_file mid) ≡ f.faults (wal_file old) = ap f.faults waits.file in
    record {
      goes_on = rw (sym faults) told.cause.failed;
      holds = λ bs ws holds. tt;
      moments = λ bs ws holds. run_from f old mid (wal_file new) bs (ws ++ record { first = c.args.first; batch = c.args.batch.now } ∷ []) waits.file waits.sizes (told.moments bs (ws ++ record { first = c.args.first; batch = c.args.batch.now } ∷ []) (waits.holds bs ws holds));
      later = omega (arith, faults, told.cause.later);
      same = same_from f (wal_file old) (wal_file mid) (wal_file new) waits.file told.same;
      sizes = told.sizes ∙ waits.sizes;
      put_off = λ unsynced few. absurd (elim c.else-not-sync.branch [
        | else-not-sync-via-then-not-sync+else-pending-lt-PENDING_LIMIT w ↦
            let size : length (wal_waiting mid) ≡ length (waiting_with old (record { first = c.args.first; batch = c.args.batch.now })) = ap length waits.bytes in
            omega (arith, few, size, w.pending.ensures, w.if-pending-lt-PENDING_LIMIT.false)
        | else-not-sync-via-else-not-sync w ↦ is_asked c.args.sync unsynced w.if-not-sync.false
      ]);
    }
