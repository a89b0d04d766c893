use Rattle.std.proofs.Common.{refl}
use Rattle.manifest.proofs.Edits.{rests_show}
use Rattle.store_engine.proofs.Together.{together_edited}
use Rattle.store_engine.proofs.engine.Engine.append_edit.Goals as goal

pub append-requires-clause-ready : goal.append-requires-clause-ready
append-requires-clause-ready g c = λ κs outlived. c.requires.running.together.edits

pub returns-in-Ok : goal.returns-in-Ok
returns-in-Ok g c =
    let e = c.in-Ok.ensures in
    record {
      disk = refl;
      wal = refl;
      next = refl;
      older = refl;
      rests = λ h. e.appended (rests_show g.D.File.DiskFile c.args.self.now.manifest h);
      fold = e.fold;
      moments = e.moments;
      unchanged = tt;
      cause = record { later = e.cause.later; failed = tt; kept = e.cause.kept };
      same = e.same;
      running = record { together = together_edited g.D.File.DiskFile c.args.self.now.manifest c.append.new.self c.args.self.now.wal c.args.self.now.next c.args.edit.now c.requires.running.together c.requires.accepted c.requires.logs c.requires.next e.fold e.still_ready; runs = c.requires.running.runs };
      failed = c.requires.running.runs;
      fault = tt;
    }

pub returns-in-Err : goal.returns-in-Err
returns-in-Err g c =
    let e = c.in-Err.ensures in
    record {
      disk = refl;
      wal = refl;
      next = refl;
      older = refl;
      rests = λ h. tt;
      fold = tt;
      moments = e.moments;
      unchanged = e.unchanged;
      cause = record { later = e.cause.later; failed = e.cause.failed; kept = tt };
      same = e.same;
      running = tt;
      failed = refl;
      fault = refl;
    }
