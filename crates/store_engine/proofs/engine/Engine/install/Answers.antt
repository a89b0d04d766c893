use Rattle.std.proofs.Common.{◌≤◌, sym, subst, inl, inr, refl}
use Rattle.std.specs.Prelude.{Contains}
use Rattle.udt_disk.specs.Touches.{Touches}
use Rattle.store_engine.specs.Asides.{IsRemoval}
use Rattle.manifest.specs.Manifest.{IsEditReserved, manifest_folded}
use Rattle.manifest_fold.specs.Folds.{IsAccepted}
use Rattle.store_engine.proofs.engine.Engine.install.Goals as goal

pub returns-in-Err : goal.returns-in-Err
returns-in-Err g c = inl c.in-Err.ensures

pub returns-in-Err-append_edit : goal.returns-in-Err-append_edit
returns-in-Err-append_edit g c = inr (c.sync_log.new.self, c.in-Ok.ensures, c.in-Err-append_edit.ensures)

pub returns : goal.returns
returns g c =
    let d = g.D.Disk in
    let before = c.append_edit.new.self.disk in
    let now = c.remove_files.new.disk in (
      c.sync_log.new.self,
      c.append_edit.new.self,
      c.in-Ok.ensures,
      c.in-Ok-append_edit.ensures,
      record {
        aside = record { wal = refl; manifest = refl; next = refl; older = refl; failed = refl; touches = subst (λ names. Touches d (Contains names) before now) c.deref.ensures.value c.remove_files.ensures.touches };
        gone = subst (λ names. IsRemoval d names before now) c.deref.ensures.value c.remove_files.ensures.gone;
      },
    )

pub append_edit-requires-clause-accepted : goal.append_edit-requires-clause-accepted
append_edit-requires-clause-accepted g c κs within = subst (λ k. IsAccepted (manifest_folded k) c.args.install.now.edit) (sym c.in-Ok.ensures.manifest) c.requires.accepted

pub append_edit-requires-clause-reserved : goal.append_edit-requires-clause-reserved
append_edit-requires-clause-reserved g c κs within = subst (λ k. IsEditReserved g.D.File.DiskFile k c.args.install.now.edit) (sym c.in-Ok.ensures.manifest) c.requires.reserved

pub append_edit-requires-clause-running : goal.append_edit-requires-clause-running
append_edit-requires-clause-running g c κs within = c.in-Ok.ensures.running

pub append_edit-requires-clause-logs : goal.append_edit-requires-clause-logs
append_edit-requires-clause-logs g c κs within = c.requires.logs

pub append_edit-requires-clause-next : goal.append_edit-requires-clause-next
append_edit-requires-clause-next g c κs within = subst (λ n. c.args.install.now.edit.next_file ≤ n) (sym c.in-Ok.ensures.next) c.requires.next
