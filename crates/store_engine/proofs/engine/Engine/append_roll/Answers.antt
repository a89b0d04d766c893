use Rattle.std.proofs.Common.{refl}
use Rattle.manifest.proofs.Edits.{rests_show}
use Rattle.store_engine.proofs.Rolling.{together_ready}
use Rattle.store_engine.proofs.engine.Engine.append_roll.Goals as goal

pub returns-in-Ok : goal.returns-in-Ok
returns-in-Ok g c =
    let e = c.in-Ok.ensures in
    record {
      disk = refl;
      wal = refl;
      next = refl;
      older = refl;
      rests = λ h. e.appended (rests_show g.D.File.DiskFile c.args.self.now.manifest h);
      fold = e.fold;
      moments = e.moments;
      unchanged = tt;
      cause = record { later = e.cause.later; failed = tt; kept = e.cause.kept };
      same = e.same;
      running = record { together = together_ready g.D.File.DiskFile c.args.self.now.manifest c.append.new.self c.args.self.now.wal c.args.self.now.next c.args.edit.now c.requires.ready c.requires.accepted e.fold e.still_ready; runs = c.requires.runs };
      failed = c.requires.runs;
      fault = tt;
    }
