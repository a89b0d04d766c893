use Rattle.std.proofs.Common.{[], ◌∷◌, Bool, sym, ◌∙◌, subst}
use Rattle.std.specs.Prelude.{IsTrue}
use Rattle.udt_disk.specs.Causes.{IsCause}
use Rattle.udt_disk.specs.Crash.{Image}
use Rattle.udt_disk.specs.Moments.{alone, holding}
use Rattle.udt_disk.specs.declared.name.FileName.{FileName}
use Rattle.udt_disk.specs.declared.name.FileName.TheVariants.{Current}
use Rattle.udt_disk.proofs.Moments.{Giving, only_then, return_step}
use Rattle.udt_disk.proofs.TouchLemmas.{touches_one}
use Rattle.manifest_fold.specs.declared.fold.Folded.{Folded}
use Rattle.manifest.specs.Folders.{chosen}
use Rattle.manifest.specs.Manifest.{manifest_folded}
use Rattle.recovery.specs.Opening.{IsShown, IsUsable, RefusesFiles}
use Rattle.recovery.specs.Replayed.{IsNewestLog}
use Rattle.recovery.specs.Versions.{FitsFold}
use Rattle.recovery.proofs.Elsewhere.{files_here, shown_here}
use Rattle.recovery.proofs.Openings.{chosen_is_live, files_opening, logs_free, logs_same, newest_touched, tables_free, tables_same, usable_from}
use Rattle.recovery.proofs.opening.open_store.Goals as goal

pub open_files-requires-clause-usable : goal.open_files-requires-clause-usable
open_files-requires-clause-usable g c = λ κs outlived.
    let e = rw c.in-Ok-Some.field-0-is at c.in-Ok-Some.ensures in
    subst IsUsable (sym c.fold.ensures) (usable_from (manifest_folded c.in-Ok-Some.manifest) e.folds)

pub returns-in-Err-clause-refused : goal.returns-in-Err-clause-refused
returns-in-Err-clause-refused g c told = c.manifest_fault.ensures.refused (g.D.Disk.stands c.args.disk) (c.in-Err.ensures.means told)

pub returns-in-Err-clause-cause : goal.returns-in-Err-clause-cause
returns-in-Err-clause-cause g c =
    subst (λ (b : Bool). IsCause b (g.D.Disk.faults c.args.disk) (g.D.Disk.faults c.read.new.disk)) (sym c.manifest_fault.ensures.cause) c.in-Err.ensures.cause

pub returns-in-Ok-clause-opened : goal.returns-in-Ok-clause-opened
returns-in-Ok-clause-opened g c told =
    let d = g.D.Disk in
    let f = g.D.File.DiskFile in
    let old = c.args.disk in
    let mid = c.read.new.disk in
    let m = c.in-Ok-Some.manifest.edits.log.file in
    let e = rw c.in-Ok-Some.field-0-is at c.in-Ok-Some.ensures in
    let fold = manifest_folded c.in-Ok-Some.manifest in
    let told_mid = subst IsTrue (sym e.touches.told) told in
    let shown = subst (λ (z : Folded). IsShown (d.stands mid) z c.in-Ok.version) c.fold.ensures (c.in-Ok.ensures.shown told_mid) in
    let newest = subst (λ (z : Folded). IsNewestLog d f mid z c.in-Ok.wal) c.fold.ensures (c.in-Ok.ensures.newest told_mid) in
    record {
      means = e.means told;
      shown = shown_here (d.stands mid) (d.stands old) fold (tables_same d f old mid e.touches) (logs_same d f old mid e.touches) c.in-Ok.version shown;
      manifest_name = e.name told;
      manifest_shows = e.shows told;
      manifest_rests = λ clean. e.rests told (λ image left. clean (chosen (d.stands old)) image (chosen_is_live (d.stands old Current) fold) left);
      wal = newest_touched d f old mid e.touches fold c.in-Ok.wal newest;
    }

pub returns-in-Ok-clause-reads : goal.returns-in-Ok-clause-reads
returns-in-Ok-clause-reads g c =
    let d = g.D.Disk in
    let f = g.D.File.DiskFile in
    let old = c.args.disk in
    let mid = c.read.new.disk in
    let m = c.in-Ok-Some.manifest.edits.log.file in
    let e = rw c.in-Ok-Some.field-0-is at c.in-Ok-Some.ensures in
    let fold = manifest_folded c.in-Ok-Some.manifest in
    let w = c.in-Ok.wal.log.file in
    only_then d f (λ n. ⊥) (alone old) (holding mid (m ∷ [])) (holding c.open_files.new.disk (w ∷ m ∷ [])) e.reads (c.in-Ok.ensures.reads (m ∷ []) (tables_free d f mid m e.either) (logs_free d f mid m e.either))

pub returns-in-Err-open_files-clause-refused : goal.returns-in-Err-open_files-clause-refused
returns-in-Err-open_files-clause-refused g c told =
    let d = g.D.Disk in
    let f = g.D.File.DiskFile in
    let old = c.args.disk in
    let mid = c.read.new.disk in
    let m = c.in-Ok-Some.manifest.edits.log.file in
    let e = rw c.in-Ok-Some.field-0-is at c.in-Ok-Some.ensures in
    let fold = manifest_folded c.in-Ok-Some.manifest in
    let told_mid = subst IsTrue (sym e.touches.told) told in
    let fault = c.in-Err-open_files.fault in
    let refused = subst (λ (z : Folded). RefusesFiles z (d.stands mid) fault) c.fold.ensures (c.in-Err-open_files.ensures.refused told_mid) in
    files_opening fold (d.stands old) (e.means told) fault (files_here (d.stands mid) (d.stands old) fold (tables_same d f old mid e.touches) (logs_same d f old mid e.touches) fault refused)

pub returns-in-Err-open_files-clause-gives_back : goal.returns-in-Err-open_files-clause-gives_back
returns-in-Err-open_files-clause-gives_back g c =
    let d = g.D.Disk in
    let f = g.D.File.DiskFile in
    let disk_now = λ (x : _) (n : FileName) (image : Image) (left : d.left_since x (d.moment x) n image). (g.met.D.Disk g.world.𝓛 g.world.𝓜 g.world.𝓡 ((λ s x. x), (λ x. x), (λ x. x), λ x. x)).only_now x n image left in
    let file_now = λ (x : _) (image : Image) (left : f.left_since x (f.moment x) image). (g.met.D.File.DiskFile g.world.𝓛 g.world.𝓜 g.world.𝓡 ((λ s x. x), (λ x. x), (λ x. x), λ x. x)).only_now x image left in
    let old = c.args.disk in
    let mid = c.read.new.disk in
    let m = c.in-Ok-Some.manifest.edits.log.file in
    let e = rw c.in-Ok-Some.field-0-is at c.in-Ok-Some.ensures in
    let fold = manifest_folded c.in-Ok-Some.manifest in
    let two = c.open_files.new.disk in
    let new = c.retire.new.self in
    let r = c.retire.ensures in
    let back = c.into_file.result in
    let second = (c.in-Err-open_files.ensures.reads (m ∷ []) (tables_free d f mid m e.either) (logs_free d f mid m e.either)) in
    let reads = only_then d f (λ n. ⊥) (alone old) (holding mid (m ∷ [])) (holding two (m ∷ [])) e.reads second in
    let giving : Giving d f two new back = record { touches = touches_one d _ (f.name back) two new (λ n apart. apart) r.others r.time r.told r.model; stands = r.stands; crash = r.crash } in
    only_then d f (λ n. ⊥) (alone old) (holding two (m ∷ [])) (alone new) reads
    (return_step d f disk_now file_now [] two new m (subst (Giving d f two new) c.into_file.ensures giving) (e.file_told ∙ sym reads.told) (λ x held. absurd held))

pub returns-in-Ok-clause-told : goal.returns-in-Ok-clause-told
returns-in-Ok-clause-told g c = (returns-in-Ok-clause-reads g c).told

pub returns-in-Ok-clause-model : goal.returns-in-Ok-clause-model
returns-in-Ok-clause-model g c = (returns-in-Ok-clause-reads g c).model

pub returns-in-Err-open_files-clause-told : goal.returns-in-Err-open_files-clause-told
returns-in-Err-open_files-clause-told g c = (returns-in-Err-open_files-clause-gives_back g c).told

pub returns-in-Err-open_files-clause-model : goal.returns-in-Err-open_files-clause-model
returns-in-Err-open_files-clause-model g c = (returns-in-Err-open_files-clause-gives_back g c).model

pub returns-in-Ok-clause-folds : goal.returns-in-Ok-clause-folds
returns-in-Ok-clause-folds g c = (rw c.in-Ok-Some.field-0-is at c.in-Ok-Some.ensures).folds

pub returns-in-Ok-clause-fits : goal.returns-in-Ok-clause-fits
returns-in-Ok-clause-fits g c = subst (λ (z : Folded). FitsFold z c.in-Ok.version) c.fold.ensures c.in-Ok.ensures.fits

pub returns-in-Ok-clause-ready : goal.returns-in-Ok-clause-ready
returns-in-Ok-clause-ready g c = (rw c.in-Ok-Some.field-0-is at c.in-Ok-Some.ensures).ready
