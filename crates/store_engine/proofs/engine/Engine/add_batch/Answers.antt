use Rattle.std.proofs.Common.{◌≡◌, ◌<◌, length, refl, sym, ap, ◌∙◌, subst}
use Rattle.std.specs.Prelude.{All}
use Rattle.std.proofs.lemmas.List.{length-map}
use Rattle.ts_key.specs.declared.batch.WriteOp.{WriteOp}
use Rattle.manifest.specs.Manifest.{manifest_folded}
use Rattle.wal.specs.Wals.{wal_sizes}
use Rattle.store_engine.proofs.Together.{go_on_still, ready_more, ready_still, together_log}
use Rattle.store_engine.proofs.engine.Engine.add_batch.Goals as goal

pub append-requires-clause-families : goal.append-requires-clause-families
append-requires-clause-families g c = λ κs outlived.
    let self = c.args.self.now in
    let together = c.requires.running.together in
    let k : length (wal_sizes self.wal) ≡ length (manifest_folded self.manifest).families = ap length together.sizes ∙ simp length-map in
    subst (λ n. All (λ (op : WriteOp). op.family.0 < n) c.args.batch.now) (sym k) c.requires.families

pub returns-in-Ok : goal.returns-in-Ok
returns-in-Ok g c =
    let f = g.D.File.DiskFile in
    let e = c.in-Ok.ensures in
    record {
      disk = refl;
      manifest = refl;
      next = refl;
      older = refl;
      file = e.file;
      sizes = e.sizes;
      holds = e.holds;
      goes_on = e.goes_on;
      bytes = e.bytes;
      err_holds = λ bs ws h. tt;
      err_goes_on = λ first goes. tt;
      err_pending = tt;
      running = record { together = together_log f c.args.self.now.manifest c.args.self.now.wal c.append.new.self c.args.self.now.next c.requires.running.together (ap f.name e.file) e.sizes (ready_more f c.args.self.now.wal c.append.new.self _ (ap f.is_told e.file) c.requires.running.together.log e.waits); runs = c.requires.running.runs };
      fault = tt;
    }

pub returns-in-Err : goal.returns-in-Err
returns-in-Err g c =
    let f = g.D.File.DiskFile in
    let e = c.in-Err.ensures in
    record {
      disk = refl;
      manifest = refl;
      next = refl;
      older = refl;
      file = e.file;
      sizes = e.sizes;
      holds = λ bs ws h. tt;
      goes_on = tt;
      bytes = tt;
      err_holds = e.err_holds;
      err_goes_on = λ first goes. go_on_still f c.args.self.now.wal c.append.new.self first (ap f.is_told e.file) e.err_waits goes;
      err_pending = e.err_pending;
      running = record { together = together_log f c.args.self.now.manifest c.args.self.now.wal c.append.new.self c.args.self.now.next c.requires.running.together (ap f.name e.file) e.sizes (ready_still f c.args.self.now.wal c.append.new.self (ap f.is_told e.file) e.err_waits c.requires.running.together.log); runs = c.requires.running.runs };
      fault = refl;
    }
