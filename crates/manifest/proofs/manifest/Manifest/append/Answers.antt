use Rattle.manifest_fold.specs.Folds.{fold_with}
use Rattle.manifest.specs.Manifest.{manifest_folded}
use Rattle.manifest.specs.declared.manifest.Manifest.{Manifest}
use Rattle.manifest.proofs.Edits.{ready_edits, rests_after, ready_after, fold_moments}
use Rattle.manifest.proofs.manifest.Manifest.append.Goals as goal

pub append-requires-clause-ready : goal.append-requires-clause-ready
append-requires-clause-ready g c lifetimes live = ready_edits g.F.DiskFile c.args.self.now c.requires.ready

pub returns-clause-appended : goal.returns-clause-appended
returns-clause-appended g c = rests_after g.F.DiskFile c.args.self.now _ c.append.result c.append.ensures.appended

pub returns-clause-still_ready : goal.returns-clause-still_ready
returns-clause-still_ready g c =
    let old = c.args.self.now in
    ready_after g.F.DiskFile old _ c.append.result (rests_after g.F.DiskFile old _ c.append.result c.append.ensures.appended) c.append.ensures.same.told c.requires.ready

pub returns-clause-moments : goal.returns-clause-moments
returns-clause-moments g c =
    let old = c.args.self.now in
    let new : Manifest g.row.F.Denot g.F.DiskFile = record { edits = c.append.new.self } in
    fold_moments g.F.DiskFile old new (fold_with (manifest_folded old) c.args.edit.now) c.append.ensures.moments
