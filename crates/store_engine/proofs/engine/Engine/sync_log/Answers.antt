use Rattle.std.proofs.Common.{refl}
use Rattle.store_engine.proofs.Together.{ready_synced, together_log}
use Rattle.store_engine.proofs.engine.Engine.sync_log.Goals as goal

pub returns-in-Ok : goal.returns-in-Ok
returns-in-Ok g c =
    let f = g.D.File.DiskFile in
    let e = c.in-Ok.ensures in
    record {
      disk = refl;
      manifest = refl;
      next = refl;
      older = refl;
      holds = e.holds;
      goes_on = e.goes_on;
      moments = e.moments;
      pending = e.pending;
      none = λ none. (refl, (e.none none).1);
      cause = record { later = e.cause.later; failed = tt; kept = e.cause.kept };
      same = e.same;
      sizes = e.sizes;
      running = record { together = together_log f c.args.self.now.manifest c.args.self.now.wal c.sync.new.self c.args.self.now.next c.requires.together e.same.name e.sizes (ready_synced f c.args.self.now.wal c.sync.new.self e.same.told c.requires.together.log e.synced); runs = c.requires.runs };
      failed = c.requires.runs;
      fault = tt;
    }

pub returns-in-Err : goal.returns-in-Err
returns-in-Err g c =
    let e = c.in-Err.ensures in
    record {
      disk = refl;
      manifest = refl;
      next = refl;
      older = refl;
      holds = λ bs ws h. tt;
      goes_on = λ first h. tt;
      moments = e.moments;
      pending = tt;
      none = λ none. let k = (e.none none).0 in absurd (cc);
      cause = record { later = e.cause.later; failed = e.cause.failed; kept = tt };
      same = e.same;
      sizes = e.sizes;
      running = tt;
      failed = refl;
      fault = refl;
    }
