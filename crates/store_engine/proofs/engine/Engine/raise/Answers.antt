use Rattle.std.proofs.Common.{◌≡◌, [], Ok, Err, Some, refl, sym, ap, ◌∙◌, subst}
use Rattle.std.specs.Prelude.{slice_get}
use Rattle.std.proofs.lemmas.Bool.{false≢true}
use Rattle.std.specs.Arc.{arc_value}
use Rattle.ts_key.specs.declared.numbers.Seq.{Seq}
use Rattle.udt_model.specs.Acts.Act.{raise}
use Rattle.wal.specs.Wals.{wal_pending}
use Rattle.manifest_edit.specs.declared.edit.Edit.{Edit}
use Rattle.manifest_fold.specs.declared.fold.Folded.{Folded}
use Rattle.manifest_fold.specs.Folds.{IsAccepted, fold_with, is_live}
use Rattle.manifest.specs.Manifest.{IsEditReserved, manifest_folded}
use Rattle.engine_laws.specs.Installs.{raise_edit}
use Rattle.engine_laws.specs.Joints.{IsNowLast}
use Rattle.store_engine.specs.Admission.{as_refusal}
use Rattle.recovery.specs.Versions.{FitsFold}
use Rattle.store_engine.proofs.Answering.{as_before, disk_cause, disk_disk, disk_tells, memory_fault, none_cause, none_disk, none_tells, one_stays, raise_fails, raise_refused, raised_told, rest_ran, same_folder}
use Rattle.store_engine.proofs.Current.{family_there, fold_there, raise_accepted, raised_fits, state_is}
use Rattle.store_engine.proofs.JobNumbers.{jobs_kept, jobs_stay, raised_live}
use Rattle.store_engine.proofs.Raised.{reserved_held}
use Rattle.store_engine.proofs.Raising.{edited_folder, first_cause, first_folder, first_ran, kept_before, kept_faults, kept_folder, second_cause, second_current, second_now, second_ran}
use Rattle.store_engine.proofs.engine.Engine.raise.Goals as goal

pub returns-in-Err-clause-tells : goal.returns-in-Err-clause-tells
returns-in-Err-clause-tells g c m co h =
    let d = g.D.Disk in
    let f = g.D.File.DiskFile in
    let last : IsNowLast d f = record {
      disk = λ x n image left. (g.met.D.Disk g.world.𝓛 g.world.𝓜 g.world.𝓡 ((λ s x. x), (λ x. x), (λ x. x), λ x. x)).only_now x n image left;
      file = λ x image left. (g.met.D.File.DiskFile g.world.𝓛 g.world.𝓜 g.world.𝓡 ((λ s x. x), (λ x. x), (λ x. x), λ x. x)).only_now x image left;
    } in
    let self = c.args.self.now in
    let now = c.args.now.now in
    let family = c.args.family in
    let floor = c.args.floor in
    let fault = c.in-Err.fault in
    let e = c.in-Err.ensures in
    raise_refused m family floor fault e.memory (e.refused m h.runs h.shows)

pub returns-in-Err-clause-moments : goal.returns-in-Err-clause-moments
returns-in-Err-clause-moments g c m co number h =
    let d = g.D.Disk in
    let f = g.D.File.DiskFile in
    let last : IsNowLast d f = record {
      disk = λ x n image left. (g.met.D.Disk g.world.𝓛 g.world.𝓜 g.world.𝓡 ((λ s x. x), (λ x. x), (λ x. x), λ x. x)).only_now x n image left;
      file = λ x image left. (g.met.D.File.DiskFile g.world.𝓛 g.world.𝓜 g.world.𝓡 ((λ s x. x), (λ x. x), (λ x. x), λ x. x)).only_now x image left;
    } in
    let self = c.args.self.now in
    let now = c.args.now.now in
    let family = c.args.family in
    let floor = c.args.floor in
    let fault = c.in-Err.fault in
    let e = c.in-Err.ensures in
    rest_ran d f last self self now m co number (raise family floor) h refl

pub returns-in-Err-clause-refused : goal.returns-in-Err-clause-refused
returns-in-Err-clause-refused g c not =
    let d = g.D.Disk in
    let f = g.D.File.DiskFile in
    let last : IsNowLast d f = record {
      disk = λ x n image left. (g.met.D.Disk g.world.𝓛 g.world.𝓜 g.world.𝓡 ((λ s x. x), (λ x. x), (λ x. x), λ x. x)).only_now x n image left;
      file = λ x image left. (g.met.D.File.DiskFile g.world.𝓛 g.world.𝓜 g.world.𝓡 ((λ s x. x), (λ x. x), (λ x. x), λ x. x)).only_now x image left;
    } in
    let self = c.args.self.now in
    let now = c.args.now.now in
    let family = c.args.family in
    let floor = c.args.floor in
    let fault = c.in-Err.fault in
    let e = c.in-Err.ensures in
    as_before d f last self

pub returns-in-Err-clause-called : goal.returns-in-Err-clause-called
returns-in-Err-clause-called g c =
    let d = g.D.Disk in
    let f = g.D.File.DiskFile in
    let last : IsNowLast d f = record {
      disk = λ x n image left. (g.met.D.Disk g.world.𝓛 g.world.𝓜 g.world.𝓡 ((λ s x. x), (λ x. x), (λ x. x), λ x. x)).only_now x n image left;
      file = λ x image left. (g.met.D.File.DiskFile g.world.𝓛 g.world.𝓜 g.world.𝓡 ((λ s x. x), (λ x. x), (λ x. x), λ x. x)).only_now x image left;
    } in
    let self = c.args.self.now in
    let now = c.args.now.now in
    let family = c.args.family in
    let floor = c.args.floor in
    let fault = c.in-Err.fault in
    let e = c.in-Err.ensures in
    record {
      same = same_folder d f last self;
      one = λ one. one;
      next = refl;
      older = refl;
      jobs = λ n job. job;
      untouched = λ not. refl;
      running = λ not. c.requires.running;
      failed = c.requires.running.runs ∙ sym (memory_fault fault e.memory);
      counted = none_cause fault _ _ (memory_fault fault e.memory) refl;
    }

pub returns-in-Err-reserve_edit-clause-tells : goal.returns-in-Err-reserve_edit-clause-tells
returns-in-Err-reserve_edit-clause-tells g c m co h =
    let d = g.D.Disk in
    let f = g.D.File.DiskFile in
    let last : IsNowLast d f = record {
      disk = λ x n image left. (g.met.D.Disk g.world.𝓛 g.world.𝓜 g.world.𝓡 ((λ s x. x), (λ x. x), (λ x. x), λ x. x)).only_now x n image left;
      file = λ x image left. (g.met.D.File.DiskFile g.world.𝓛 g.world.𝓜 g.world.𝓡 ((λ s x. x), (λ x. x), (λ x. x), λ x. x)).only_now x image left;
    } in
    let self = c.args.self.now in
    let now = c.args.now.now in
    let family = c.args.family in
    let floor = c.args.floor in
    let mid = c.reserve_edit.new.self in
    let edit = c.raise_edit-edit.result in
    let fault = c.in-Err-reserve_edit.fault in
    let e = c.in-Err-reserve_edit.ensures in
    none_tells m (raise family floor) fault e.fault

pub returns-in-Err-reserve_edit-clause-moments : goal.returns-in-Err-reserve_edit-clause-moments
returns-in-Err-reserve_edit-clause-moments g c m co number h =
    let d = g.D.Disk in
    let f = g.D.File.DiskFile in
    let last : IsNowLast d f = record {
      disk = λ x n image left. (g.met.D.Disk g.world.𝓛 g.world.𝓜 g.world.𝓡 ((λ s x. x), (λ x. x), (λ x. x), λ x. x)).only_now x n image left;
      file = λ x image left. (g.met.D.File.DiskFile g.world.𝓛 g.world.𝓜 g.world.𝓡 ((λ s x. x), (λ x. x), (λ x. x), λ x. x)).only_now x image left;
    } in
    let self = c.args.self.now in
    let now = c.args.now.now in
    let family = c.args.family in
    let floor = c.args.floor in
    let mid = c.reserve_edit.new.self in
    let edit = c.raise_edit-edit.result in
    let fault = c.in-Err-reserve_edit.fault in
    let e = c.in-Err-reserve_edit.ensures in
    rest_ran d f last self mid now m co number (raise family floor) h (reserved_held d f last self mid edit (Err fault) e)

pub returns-in-Err-reserve_edit-clause-refused : goal.returns-in-Err-reserve_edit-clause-refused
returns-in-Err-reserve_edit-clause-refused g c not =
    let d = g.D.Disk in
    let f = g.D.File.DiskFile in
    let last : IsNowLast d f = record {
      disk = λ x n image left. (g.met.D.Disk g.world.𝓛 g.world.𝓜 g.world.𝓡 ((λ s x. x), (λ x. x), (λ x. x), λ x. x)).only_now x n image left;
      file = λ x image left. (g.met.D.File.DiskFile g.world.𝓛 g.world.𝓜 g.world.𝓡 ((λ s x. x), (λ x. x), (λ x. x), λ x. x)).only_now x image left;
    } in
    let self = c.args.self.now in
    let now = c.args.now.now in
    let family = c.args.family in
    let floor = c.args.floor in
    let mid = c.reserve_edit.new.self in
    let edit = c.raise_edit-edit.result in
    let fault = c.in-Err-reserve_edit.fault in
    let e = c.in-Err-reserve_edit.ensures in
    kept_before d f last self mid edit (Err fault) e

pub returns-in-Err-reserve_edit-clause-called : goal.returns-in-Err-reserve_edit-clause-called
returns-in-Err-reserve_edit-clause-called g c =
    let d = g.D.Disk in
    let f = g.D.File.DiskFile in
    let last : IsNowLast d f = record {
      disk = λ x n image left. (g.met.D.Disk g.world.𝓛 g.world.𝓜 g.world.𝓡 ((λ s x. x), (λ x. x), (λ x. x), λ x. x)).only_now x n image left;
      file = λ x image left. (g.met.D.File.DiskFile g.world.𝓛 g.world.𝓜 g.world.𝓡 ((λ s x. x), (λ x. x), (λ x. x), λ x. x)).only_now x image left;
    } in
    let self = c.args.self.now in
    let now = c.args.now.now in
    let family = c.args.family in
    let floor = c.args.floor in
    let mid = c.reserve_edit.new.self in
    let edit = c.raise_edit-edit.result in
    let fault = c.in-Err-reserve_edit.fault in
    let e = c.in-Err-reserve_edit.ensures in
    record {
      same = kept_folder d f last self mid edit (Err fault) e;
      one = one_stays d f self mid (kept_folder d f last self mid edit (Err fault) e);
      next = e.next;
      older = e.older;
      jobs = jobs_kept f self mid e.next e.fold;
      untouched = λ not. reserved_held d f last self mid edit (Err fault) e;
      running = λ not. e.running;
      failed = e.running.runs ∙ sym (none_disk fault e.fault);
      counted = none_cause fault _ _ (none_disk fault e.fault) (kept_faults d f last self mid edit (Err fault) e);
    }

pub returns-in-Err-sync_log-clause-tells : goal.returns-in-Err-sync_log-clause-tells
returns-in-Err-sync_log-clause-tells g c m co h =
    let d = g.D.Disk in
    let f = g.D.File.DiskFile in
    let last : IsNowLast d f = record {
      disk = λ x n image left. (g.met.D.Disk g.world.𝓛 g.world.𝓜 g.world.𝓡 ((λ s x. x), (λ x. x), (λ x. x), λ x. x)).only_now x n image left;
      file = λ x image left. (g.met.D.File.DiskFile g.world.𝓛 g.world.𝓜 g.world.𝓡 ((λ s x. x), (λ x. x), (λ x. x), λ x. x)).only_now x image left;
    } in
    let self = c.args.self.now in
    let now = c.args.now.now in
    let family = c.args.family in
    let floor = c.args.floor in
    let mid = c.reserve_edit.new.self in
    let two = c.sync_log.new.self in
    let edit = c.raise_edit-edit.result in
    let kept = c.in-Ok-reserve_edit.ensures in
    let fault = c.in-Err-sync_log.fault in
    let e = c.in-Err-sync_log.ensures in
    disk_tells m (raise family floor) fault e.fault (raise_fails m family floor (c.in-Ok.ensures.admitted m h.runs h.shows))

pub returns-in-Err-sync_log-clause-moments : goal.returns-in-Err-sync_log-clause-moments
returns-in-Err-sync_log-clause-moments g c m co number h =
    let d = g.D.Disk in
    let f = g.D.File.DiskFile in
    let last : IsNowLast d f = record {
      disk = λ x n image left. (g.met.D.Disk g.world.𝓛 g.world.𝓜 g.world.𝓡 ((λ s x. x), (λ x. x), (λ x. x), λ x. x)).only_now x n image left;
      file = λ x image left. (g.met.D.File.DiskFile g.world.𝓛 g.world.𝓜 g.world.𝓡 ((λ s x. x), (λ x. x), (λ x. x), λ x. x)).only_now x image left;
    } in
    let self = c.args.self.now in
    let now = c.args.now.now in
    let family = c.args.family in
    let floor = c.args.floor in
    let mid = c.reserve_edit.new.self in
    let two = c.sync_log.new.self in
    let edit = c.raise_edit-edit.result in
    let kept = c.in-Ok-reserve_edit.ensures in
    let fault = c.in-Err-sync_log.fault in
    let e = c.in-Err-sync_log.ensures in
    first_ran d f last self mid edit (Ok tt) kept two (Err fault) e now m co number family floor h

pub returns-in-Err-sync_log-clause-refused : goal.returns-in-Err-sync_log-clause-refused
returns-in-Err-sync_log-clause-refused g c not =
    let d = g.D.Disk in
    let f = g.D.File.DiskFile in
    let last : IsNowLast d f = record {
      disk = λ x n image left. (g.met.D.Disk g.world.𝓛 g.world.𝓜 g.world.𝓡 ((λ s x. x), (λ x. x), (λ x. x), λ x. x)).only_now x n image left;
      file = λ x image left. (g.met.D.File.DiskFile g.world.𝓛 g.world.𝓜 g.world.𝓡 ((λ s x. x), (λ x. x), (λ x. x), λ x. x)).only_now x image left;
    } in
    let self = c.args.self.now in
    let now = c.args.now.now in
    let family = c.args.family in
    let floor = c.args.floor in
    let mid = c.reserve_edit.new.self in
    let two = c.sync_log.new.self in
    let edit = c.raise_edit-edit.result in
    let kept = c.in-Ok-reserve_edit.ensures in
    let fault = c.in-Err-sync_log.fault in
    let e = c.in-Err-sync_log.ensures in
    absurd (false≢true (sym not ∙ disk_disk fault e.fault))

pub returns-in-Err-sync_log-clause-called : goal.returns-in-Err-sync_log-clause-called
returns-in-Err-sync_log-clause-called g c =
    let d = g.D.Disk in
    let f = g.D.File.DiskFile in
    let last : IsNowLast d f = record {
      disk = λ x n image left. (g.met.D.Disk g.world.𝓛 g.world.𝓜 g.world.𝓡 ((λ s x. x), (λ x. x), (λ x. x), λ x. x)).only_now x n image left;
      file = λ x image left. (g.met.D.File.DiskFile g.world.𝓛 g.world.𝓜 g.world.𝓡 ((λ s x. x), (λ x. x), (λ x. x), λ x. x)).only_now x image left;
    } in
    let self = c.args.self.now in
    let now = c.args.now.now in
    let family = c.args.family in
    let floor = c.args.floor in
    let mid = c.reserve_edit.new.self in
    let two = c.sync_log.new.self in
    let edit = c.raise_edit-edit.result in
    let kept = c.in-Ok-reserve_edit.ensures in
    let fault = c.in-Err-sync_log.fault in
    let e = c.in-Err-sync_log.ensures in
    record {
      same = first_folder d f last self mid edit (Ok tt) kept two (Err fault) e;
      one = one_stays d f self two (first_folder d f last self mid edit (Ok tt) kept two (Err fault) e);
      next = e.next ∙ kept.next;
      older = e.older ∙ kept.older;
      jobs = jobs_kept f self two (e.next ∙ kept.next) (ap manifest_folded e.manifest ∙ kept.fold);
      untouched = λ not. absurd (false≢true (sym not ∙ disk_disk fault e.fault));
      running = λ not. absurd (false≢true (sym not ∙ disk_disk fault e.fault));
      failed = e.failed;
      counted = disk_cause fault _ _ e.fault (first_cause d f last self mid edit (Ok tt) kept two (Err fault) e).failed;
    }

pub returns-in-Err-append_edit-clause-tells : goal.returns-in-Err-append_edit-clause-tells
returns-in-Err-append_edit-clause-tells g c m co h =
    let d = g.D.Disk in
    let f = g.D.File.DiskFile in
    let last : IsNowLast d f = record {
      disk = λ x n image left. (g.met.D.Disk g.world.𝓛 g.world.𝓜 g.world.𝓡 ((λ s x. x), (λ x. x), (λ x. x), λ x. x)).only_now x n image left;
      file = λ x image left. (g.met.D.File.DiskFile g.world.𝓛 g.world.𝓜 g.world.𝓡 ((λ s x. x), (λ x. x), (λ x. x), λ x. x)).only_now x image left;
    } in
    let self = c.args.self.now in
    let now = c.args.now.now in
    let family = c.args.family in
    let floor = c.args.floor in
    let state = c.in-Some.state.now in
    let here : slice_get now.families family.0 ≡ Some state = sym c.in-Some.ensures in
    let fold = manifest_folded self.manifest in
    let fits = c.requires.current.fits in
    let fam = family_there fold now fits family floor state here in
    let edit = c.raise_edit-edit.result in
    let is : edit ≡ raise_edit now.last self.next family fam floor = c.raise_edit-edit.ensures ∙ ap (λ (q : Seq). (let e : Edit = record { add_logs = []; drop_logs = []; next_file = self.next; last = now.last; family = Some (record { family = family; floor = floor; through = q; add = []; remove = [] }) } in e)) (state_is fold now fits family floor state here).through in
    let mid = c.reserve_edit.new.self in
    let two = c.sync_log.new.self in
    let kept = c.in-Ok-reserve_edit.ensures in
    let synced = c.in-Ok-sync_log.ensures in
    let new = c.append_edit.new.self in
    let fault = c.in-Err-append_edit.fault in
    let e = c.in-Err-append_edit.ensures in
    disk_tells m (raise family floor) fault e.fault (raise_fails m family floor (c.in-Ok.ensures.admitted m h.runs h.shows))

pub returns-in-Err-append_edit-clause-moments : goal.returns-in-Err-append_edit-clause-moments
returns-in-Err-append_edit-clause-moments g c m co number h =
    let d = g.D.Disk in
    let f = g.D.File.DiskFile in
    let last : IsNowLast d f = record {
      disk = λ x n image left. (g.met.D.Disk g.world.𝓛 g.world.𝓜 g.world.𝓡 ((λ s x. x), (λ x. x), (λ x. x), λ x. x)).only_now x n image left;
      file = λ x image left. (g.met.D.File.DiskFile g.world.𝓛 g.world.𝓜 g.world.𝓡 ((λ s x. x), (λ x. x), (λ x. x), λ x. x)).only_now x image left;
    } in
    let self = c.args.self.now in
    let now = c.args.now.now in
    let family = c.args.family in
    let floor = c.args.floor in
    let state = c.in-Some.state.now in
    let here : slice_get now.families family.0 ≡ Some state = sym c.in-Some.ensures in
    let fold = manifest_folded self.manifest in
    let fits = c.requires.current.fits in
    let fam = family_there fold now fits family floor state here in
    let edit = c.raise_edit-edit.result in
    let is : edit ≡ raise_edit now.last self.next family fam floor = c.raise_edit-edit.ensures ∙ ap (λ (q : Seq). (let e : Edit = record { add_logs = []; drop_logs = []; next_file = self.next; last = now.last; family = Some (record { family = family; floor = floor; through = q; add = []; remove = [] }) } in e)) (state_is fold now fits family floor state here).through in
    let mid = c.reserve_edit.new.self in
    let two = c.sync_log.new.self in
    let kept = c.in-Ok-reserve_edit.ensures in
    let synced = c.in-Ok-sync_log.ensures in
    let new = c.append_edit.new.self in
    let fault = c.in-Err-append_edit.fault in
    let e = c.in-Err-append_edit.ensures in
    second_ran d f last self mid edit (Ok tt) kept two new synced (Err fault) e now family floor fam (fold_there fold now fits family floor state here).1 is c.requires.running.together m co number h (raised_told m family floor (c.in-Ok.ensures.admitted m h.runs h.shows))

pub returns-in-Err-append_edit-clause-refused : goal.returns-in-Err-append_edit-clause-refused
returns-in-Err-append_edit-clause-refused g c not =
    let d = g.D.Disk in
    let f = g.D.File.DiskFile in
    let last : IsNowLast d f = record {
      disk = λ x n image left. (g.met.D.Disk g.world.𝓛 g.world.𝓜 g.world.𝓡 ((λ s x. x), (λ x. x), (λ x. x), λ x. x)).only_now x n image left;
      file = λ x image left. (g.met.D.File.DiskFile g.world.𝓛 g.world.𝓜 g.world.𝓡 ((λ s x. x), (λ x. x), (λ x. x), λ x. x)).only_now x image left;
    } in
    let self = c.args.self.now in
    let now = c.args.now.now in
    let family = c.args.family in
    let floor = c.args.floor in
    let state = c.in-Some.state.now in
    let here : slice_get now.families family.0 ≡ Some state = sym c.in-Some.ensures in
    let fold = manifest_folded self.manifest in
    let fits = c.requires.current.fits in
    let fam = family_there fold now fits family floor state here in
    let edit = c.raise_edit-edit.result in
    let is : edit ≡ raise_edit now.last self.next family fam floor = c.raise_edit-edit.ensures ∙ ap (λ (q : Seq). (let e : Edit = record { add_logs = []; drop_logs = []; next_file = self.next; last = now.last; family = Some (record { family = family; floor = floor; through = q; add = []; remove = [] }) } in e)) (state_is fold now fits family floor state here).through in
    let mid = c.reserve_edit.new.self in
    let two = c.sync_log.new.self in
    let kept = c.in-Ok-reserve_edit.ensures in
    let synced = c.in-Ok-sync_log.ensures in
    let new = c.append_edit.new.self in
    let fault = c.in-Err-append_edit.fault in
    let e = c.in-Err-append_edit.ensures in
    absurd (false≢true (sym not ∙ disk_disk fault e.fault))

pub returns-in-Err-append_edit-clause-called : goal.returns-in-Err-append_edit-clause-called
returns-in-Err-append_edit-clause-called g c =
    let d = g.D.Disk in
    let f = g.D.File.DiskFile in
    let last : IsNowLast d f = record {
      disk = λ x n image left. (g.met.D.Disk g.world.𝓛 g.world.𝓜 g.world.𝓡 ((λ s x. x), (λ x. x), (λ x. x), λ x. x)).only_now x n image left;
      file = λ x image left. (g.met.D.File.DiskFile g.world.𝓛 g.world.𝓜 g.world.𝓡 ((λ s x. x), (λ x. x), (λ x. x), λ x. x)).only_now x image left;
    } in
    let self = c.args.self.now in
    let now = c.args.now.now in
    let family = c.args.family in
    let floor = c.args.floor in
    let state = c.in-Some.state.now in
    let here : slice_get now.families family.0 ≡ Some state = sym c.in-Some.ensures in
    let fold = manifest_folded self.manifest in
    let fits = c.requires.current.fits in
    let fam = family_there fold now fits family floor state here in
    let edit = c.raise_edit-edit.result in
    let is : edit ≡ raise_edit now.last self.next family fam floor = c.raise_edit-edit.ensures ∙ ap (λ (q : Seq). (let e : Edit = record { add_logs = []; drop_logs = []; next_file = self.next; last = now.last; family = Some (record { family = family; floor = floor; through = q; add = []; remove = [] }) } in e)) (state_is fold now fits family floor state here).through in
    let mid = c.reserve_edit.new.self in
    let two = c.sync_log.new.self in
    let kept = c.in-Ok-reserve_edit.ensures in
    let synced = c.in-Ok-sync_log.ensures in
    let new = c.append_edit.new.self in
    let fault = c.in-Err-append_edit.fault in
    let e = c.in-Err-append_edit.ensures in
    record {
      same = edited_folder d f last self mid edit (Ok tt) kept two new (Err fault) synced e;
      one = one_stays d f self new (edited_folder d f last self mid edit (Ok tt) kept two new (Err fault) synced e);
      next = e.next ∙ synced.next ∙ kept.next;
      older = e.older ∙ synced.older ∙ kept.older;
      jobs = jobs_kept f self new (e.next ∙ synced.next ∙ kept.next) (e.unchanged ∙ ap manifest_folded synced.manifest ∙ kept.fold);
      untouched = λ not. absurd (false≢true (sym not ∙ disk_disk fault e.fault));
      running = λ not. absurd (false≢true (sym not ∙ disk_disk fault e.fault));
      failed = e.failed;
      counted = disk_cause fault _ _ e.fault (second_cause d f last self mid edit (Ok tt) kept two new synced (Err fault) e).failed;
    }

pub returns-in-Ok-append_edit-clause-tells : goal.returns-in-Ok-append_edit-clause-tells
returns-in-Ok-append_edit-clause-tells g c m co h =
    let d = g.D.Disk in
    let f = g.D.File.DiskFile in
    let last : IsNowLast d f = record {
      disk = λ x n image left. (g.met.D.Disk g.world.𝓛 g.world.𝓜 g.world.𝓡 ((λ s x. x), (λ x. x), (λ x. x), λ x. x)).only_now x n image left;
      file = λ x image left. (g.met.D.File.DiskFile g.world.𝓛 g.world.𝓜 g.world.𝓡 ((λ s x. x), (λ x. x), (λ x. x), λ x. x)).only_now x image left;
    } in
    let self = c.args.self.now in
    let now = c.args.now.now in
    let family = c.args.family in
    let floor = c.args.floor in
    let state = c.in-Some.state.now in
    let here : slice_get now.families family.0 ≡ Some state = sym c.in-Some.ensures in
    let fold = manifest_folded self.manifest in
    let fits = c.requires.current.fits in
    let fam = family_there fold now fits family floor state here in
    let edit = c.raise_edit-edit.result in
    let is : edit ≡ raise_edit now.last self.next family fam floor = c.raise_edit-edit.ensures ∙ ap (λ (q : Seq). (let e : Edit = record { add_logs = []; drop_logs = []; next_file = self.next; last = now.last; family = Some (record { family = family; floor = floor; through = q; add = []; remove = [] }) } in e)) (state_is fold now fits family floor state here).through in
    let mid = c.reserve_edit.new.self in
    let two = c.sync_log.new.self in
    let kept = c.in-Ok-reserve_edit.ensures in
    let synced = c.in-Ok-sync_log.ensures in
    let new = c.append_edit.new.self in
    let e = c.in-Ok-append_edit.ensures in
    let next = arc_value c.in-Ok.next in
    raised_told m family floor (c.in-Ok.ensures.admitted m h.runs h.shows)

pub returns-in-Ok-append_edit-clause-holds : goal.returns-in-Ok-append_edit-clause-holds
returns-in-Ok-append_edit-clause-holds g c m co number h =
    let d = g.D.Disk in
    let f = g.D.File.DiskFile in
    let last : IsNowLast d f = record {
      disk = λ x n image left. (g.met.D.Disk g.world.𝓛 g.world.𝓜 g.world.𝓡 ((λ s x. x), (λ x. x), (λ x. x), λ x. x)).only_now x n image left;
      file = λ x image left. (g.met.D.File.DiskFile g.world.𝓛 g.world.𝓜 g.world.𝓡 ((λ s x. x), (λ x. x), (λ x. x), λ x. x)).only_now x image left;
    } in
    let self = c.args.self.now in
    let now = c.args.now.now in
    let family = c.args.family in
    let floor = c.args.floor in
    let state = c.in-Some.state.now in
    let here : slice_get now.families family.0 ≡ Some state = sym c.in-Some.ensures in
    let fold = manifest_folded self.manifest in
    let fits = c.requires.current.fits in
    let fam = family_there fold now fits family floor state here in
    let edit = c.raise_edit-edit.result in
    let is : edit ≡ raise_edit now.last self.next family fam floor = c.raise_edit-edit.ensures ∙ ap (λ (q : Seq). (let e : Edit = record { add_logs = []; drop_logs = []; next_file = self.next; last = now.last; family = Some (record { family = family; floor = floor; through = q; add = []; remove = [] }) } in e)) (state_is fold now fits family floor state here).through in
    let mid = c.reserve_edit.new.self in
    let two = c.sync_log.new.self in
    let kept = c.in-Ok-reserve_edit.ensures in
    let synced = c.in-Ok-sync_log.ensures in
    let new = c.append_edit.new.self in
    let e = c.in-Ok-append_edit.ensures in
    let next = arc_value c.in-Ok.next in
    second_now d f last self mid edit (Ok tt) kept two new synced (Ok tt) e now family floor fam (fold_there fold now fits family floor state here).1 is c.requires.running.together m co number h (raised_told m family floor (c.in-Ok.ensures.admitted m h.runs h.shows)) next (c.in-Ok.ensures.next m number h.shows)

pub returns-in-Ok-append_edit-clause-moments : goal.returns-in-Ok-append_edit-clause-moments
returns-in-Ok-append_edit-clause-moments g c m co number h =
    let d = g.D.Disk in
    let f = g.D.File.DiskFile in
    let last : IsNowLast d f = record {
      disk = λ x n image left. (g.met.D.Disk g.world.𝓛 g.world.𝓜 g.world.𝓡 ((λ s x. x), (λ x. x), (λ x. x), λ x. x)).only_now x n image left;
      file = λ x image left. (g.met.D.File.DiskFile g.world.𝓛 g.world.𝓜 g.world.𝓡 ((λ s x. x), (λ x. x), (λ x. x), λ x. x)).only_now x image left;
    } in
    let self = c.args.self.now in
    let now = c.args.now.now in
    let family = c.args.family in
    let floor = c.args.floor in
    let state = c.in-Some.state.now in
    let here : slice_get now.families family.0 ≡ Some state = sym c.in-Some.ensures in
    let fold = manifest_folded self.manifest in
    let fits = c.requires.current.fits in
    let fam = family_there fold now fits family floor state here in
    let edit = c.raise_edit-edit.result in
    let is : edit ≡ raise_edit now.last self.next family fam floor = c.raise_edit-edit.ensures ∙ ap (λ (q : Seq). (let e : Edit = record { add_logs = []; drop_logs = []; next_file = self.next; last = now.last; family = Some (record { family = family; floor = floor; through = q; add = []; remove = [] }) } in e)) (state_is fold now fits family floor state here).through in
    let mid = c.reserve_edit.new.self in
    let two = c.sync_log.new.self in
    let kept = c.in-Ok-reserve_edit.ensures in
    let synced = c.in-Ok-sync_log.ensures in
    let new = c.append_edit.new.self in
    let e = c.in-Ok-append_edit.ensures in
    let next = arc_value c.in-Ok.next in
    second_ran d f last self mid edit (Ok tt) kept two new synced (Ok tt) e now family floor fam (fold_there fold now fits family floor state here).1 is c.requires.running.together m co number h (raised_told m family floor (c.in-Ok.ensures.admitted m h.runs h.shows))

pub returns-in-Ok-append_edit-clause-current : goal.returns-in-Ok-append_edit-clause-current
returns-in-Ok-append_edit-clause-current g c =
    let d = g.D.Disk in
    let f = g.D.File.DiskFile in
    let last : IsNowLast d f = record {
      disk = λ x n image left. (g.met.D.Disk g.world.𝓛 g.world.𝓜 g.world.𝓡 ((λ s x. x), (λ x. x), (λ x. x), λ x. x)).only_now x n image left;
      file = λ x image left. (g.met.D.File.DiskFile g.world.𝓛 g.world.𝓜 g.world.𝓡 ((λ s x. x), (λ x. x), (λ x. x), λ x. x)).only_now x image left;
    } in
    let self = c.args.self.now in
    let now = c.args.now.now in
    let family = c.args.family in
    let floor = c.args.floor in
    let state = c.in-Some.state.now in
    let here : slice_get now.families family.0 ≡ Some state = sym c.in-Some.ensures in
    let fold = manifest_folded self.manifest in
    let fits = c.requires.current.fits in
    let fam = family_there fold now fits family floor state here in
    let edit = c.raise_edit-edit.result in
    let is : edit ≡ raise_edit now.last self.next family fam floor = c.raise_edit-edit.ensures ∙ ap (λ (q : Seq). (let e : Edit = record { add_logs = []; drop_logs = []; next_file = self.next; last = now.last; family = Some (record { family = family; floor = floor; through = q; add = []; remove = [] }) } in e)) (state_is fold now fits family floor state here).through in
    let mid = c.reserve_edit.new.self in
    let two = c.sync_log.new.self in
    let kept = c.in-Ok-reserve_edit.ensures in
    let synced = c.in-Ok-sync_log.ensures in
    let new = c.append_edit.new.self in
    let e = c.in-Ok-append_edit.ensures in
    let next = arc_value c.in-Ok.next in
    let new_fits = raised_fits fold now fits family floor state here self.next c.requires.running.together.well (c.in-Ok.ensures.higher state here) c.requires.running.together.more c.requires.running.together.most next c.in-Ok.ensures.shown in
    second_current d f last self mid edit (Ok tt) kept two new synced (Ok tt) e now family floor fam (fold_there fold now fits family floor state here).1 is c.requires.running.together next (subst (λ (x : Edit). FitsFold (fold_with fold x) next) (sym is) new_fits) c.in-Ok.ensures.shown.last c.requires.current

pub returns-in-Ok-append_edit-clause-called : goal.returns-in-Ok-append_edit-clause-called
returns-in-Ok-append_edit-clause-called g c =
    let d = g.D.Disk in
    let f = g.D.File.DiskFile in
    let last : IsNowLast d f = record {
      disk = λ x n image left. (g.met.D.Disk g.world.𝓛 g.world.𝓜 g.world.𝓡 ((λ s x. x), (λ x. x), (λ x. x), λ x. x)).only_now x n image left;
      file = λ x image left. (g.met.D.File.DiskFile g.world.𝓛 g.world.𝓜 g.world.𝓡 ((λ s x. x), (λ x. x), (λ x. x), λ x. x)).only_now x image left;
    } in
    let self = c.args.self.now in
    let now = c.args.now.now in
    let family = c.args.family in
    let floor = c.args.floor in
    let state = c.in-Some.state.now in
    let here : slice_get now.families family.0 ≡ Some state = sym c.in-Some.ensures in
    let fold = manifest_folded self.manifest in
    let fits = c.requires.current.fits in
    let fam = family_there fold now fits family floor state here in
    let edit = c.raise_edit-edit.result in
    let is : edit ≡ raise_edit now.last self.next family fam floor = c.raise_edit-edit.ensures ∙ ap (λ (q : Seq). (let e : Edit = record { add_logs = []; drop_logs = []; next_file = self.next; last = now.last; family = Some (record { family = family; floor = floor; through = q; add = []; remove = [] }) } in e)) (state_is fold now fits family floor state here).through in
    let mid = c.reserve_edit.new.self in
    let two = c.sync_log.new.self in
    let kept = c.in-Ok-reserve_edit.ensures in
    let synced = c.in-Ok-sync_log.ensures in
    let new = c.append_edit.new.self in
    let e = c.in-Ok-append_edit.ensures in
    let next = arc_value c.in-Ok.next in
    record {
      same = edited_folder d f last self mid edit (Ok tt) kept two new (Ok tt) synced e;
      one = one_stays d f self new (edited_folder d f last self mid edit (Ok tt) kept two new (Ok tt) synced e);
      next = e.next ∙ synced.next ∙ kept.next;
      older = e.older ∙ synced.older ∙ kept.older;
      jobs = jobs_stay f self new (e.next ∙ synced.next ∙ kept.next) (λ n.
          ap (λ (z : Folded). is_live z.families n) (e.fold ∙ ap (λ (z : Folded). fold_with z edit) (ap manifest_folded synced.manifest ∙ kept.fold) ∙ ap (fold_with fold) is)
          ∙ raised_live fold now.last self.next family fam floor (fold_there fold now fits family floor state here).1 n);
      untouched = tt;
      running = λ not. e.running;
      failed = e.failed;
      counted = (second_cause d f last self mid edit (Ok tt) kept two new synced (Ok tt) e).kept;
    }

pub append_edit-requires-clause-accepted : goal.append_edit-requires-clause-accepted
append_edit-requires-clause-accepted g c =
    let d = g.D.Disk in
    let f = g.D.File.DiskFile in
    let last : IsNowLast d f = record {
      disk = λ x n image left. (g.met.D.Disk g.world.𝓛 g.world.𝓜 g.world.𝓡 ((λ s x. x), (λ x. x), (λ x. x), λ x. x)).only_now x n image left;
      file = λ x image left. (g.met.D.File.DiskFile g.world.𝓛 g.world.𝓜 g.world.𝓡 ((λ s x. x), (λ x. x), (λ x. x), λ x. x)).only_now x image left;
    } in
    let self = c.args.self.now in
    let now = c.args.now.now in
    let family = c.args.family in
    let floor = c.args.floor in
    let state = c.in-Some.state.now in
    let here : slice_get now.families family.0 ≡ Some state = sym c.in-Some.ensures in
    let fold = manifest_folded self.manifest in
    let fits = c.requires.current.fits in
    let fam = family_there fold now fits family floor state here in
    let edit = c.raise_edit-edit.result in
    let is : edit ≡ raise_edit now.last self.next family fam floor = c.raise_edit-edit.ensures ∙ ap (λ (q : Seq). (let e : Edit = record { add_logs = []; drop_logs = []; next_file = self.next; last = now.last; family = Some (record { family = family; floor = floor; through = q; add = []; remove = [] }) } in e)) (state_is fold now fits family floor state here).through in
    let mid = c.reserve_edit.new.self in
    let two = c.sync_log.new.self in
    let kept = c.in-Ok-reserve_edit.ensures in
    let synced = c.in-Ok-sync_log.ensures in
    let same : manifest_folded two.manifest ≡ fold = ap (λ k. manifest_folded k) synced.manifest ∙ kept.fold in
    let accepted = raise_accepted fold now fits family floor state here self.next c.requires.running.together.well (c.in-Ok.ensures.higher state here) c.requires.running.together.more c.requires.running.together.most in
    λ κs outlived. subst (λ (z : Folded). IsAccepted z edit) (sym same) (subst (IsAccepted fold) (sym is) accepted)

pub append_edit-requires-clause-reserved : goal.append_edit-requires-clause-reserved
append_edit-requires-clause-reserved g c =
    let d = g.D.Disk in
    let f = g.D.File.DiskFile in
    let last : IsNowLast d f = record {
      disk = λ x n image left. (g.met.D.Disk g.world.𝓛 g.world.𝓜 g.world.𝓡 ((λ s x. x), (λ x. x), (λ x. x), λ x. x)).only_now x n image left;
      file = λ x image left. (g.met.D.File.DiskFile g.world.𝓛 g.world.𝓜 g.world.𝓡 ((λ s x. x), (λ x. x), (λ x. x), λ x. x)).only_now x image left;
    } in
    let self = c.args.self.now in
    let now = c.args.now.now in
    let family = c.args.family in
    let floor = c.args.floor in
    let state = c.in-Some.state.now in
    let here : slice_get now.families family.0 ≡ Some state = sym c.in-Some.ensures in
    let fold = manifest_folded self.manifest in
    let fits = c.requires.current.fits in
    let fam = family_there fold now fits family floor state here in
    let edit = c.raise_edit-edit.result in
    let is : edit ≡ raise_edit now.last self.next family fam floor = c.raise_edit-edit.ensures ∙ ap (λ (q : Seq). (let e : Edit = record { add_logs = []; drop_logs = []; next_file = self.next; last = now.last; family = Some (record { family = family; floor = floor; through = q; add = []; remove = [] }) } in e)) (state_is fold now fits family floor state here).through in
    let mid = c.reserve_edit.new.self in
    let two = c.sync_log.new.self in
    let kept = c.in-Ok-reserve_edit.ensures in
    let synced = c.in-Ok-sync_log.ensures in
    λ κs outlived. subst (λ k. IsEditReserved f k edit) (sym synced.manifest) kept.reserved

pub append_edit-requires-clause-running : goal.append_edit-requires-clause-running
append_edit-requires-clause-running g c =
    let d = g.D.Disk in
    let f = g.D.File.DiskFile in
    let last : IsNowLast d f = record {
      disk = λ x n image left. (g.met.D.Disk g.world.𝓛 g.world.𝓜 g.world.𝓡 ((λ s x. x), (λ x. x), (λ x. x), λ x. x)).only_now x n image left;
      file = λ x image left. (g.met.D.File.DiskFile g.world.𝓛 g.world.𝓜 g.world.𝓡 ((λ s x. x), (λ x. x), (λ x. x), λ x. x)).only_now x image left;
    } in
    let self = c.args.self.now in
    let now = c.args.now.now in
    let family = c.args.family in
    let floor = c.args.floor in
    let state = c.in-Some.state.now in
    let here : slice_get now.families family.0 ≡ Some state = sym c.in-Some.ensures in
    let fold = manifest_folded self.manifest in
    let fits = c.requires.current.fits in
    let fam = family_there fold now fits family floor state here in
    let edit = c.raise_edit-edit.result in
    let is : edit ≡ raise_edit now.last self.next family fam floor = c.raise_edit-edit.ensures ∙ ap (λ (q : Seq). (let e : Edit = record { add_logs = []; drop_logs = []; next_file = self.next; last = now.last; family = Some (record { family = family; floor = floor; through = q; add = []; remove = [] }) } in e)) (state_is fold now fits family floor state here).through in
    let mid = c.reserve_edit.new.self in
    let two = c.sync_log.new.self in
    let kept = c.in-Ok-reserve_edit.ensures in
    let synced = c.in-Ok-sync_log.ensures in
    λ κs outlived. synced.running

pub append_edit-requires-clause-logs : goal.append_edit-requires-clause-logs
append_edit-requires-clause-logs g c =
    let d = g.D.Disk in
    let f = g.D.File.DiskFile in
    let last : IsNowLast d f = record {
      disk = λ x n image left. (g.met.D.Disk g.world.𝓛 g.world.𝓜 g.world.𝓡 ((λ s x. x), (λ x. x), (λ x. x), λ x. x)).only_now x n image left;
      file = λ x image left. (g.met.D.File.DiskFile g.world.𝓛 g.world.𝓜 g.world.𝓡 ((λ s x. x), (λ x. x), (λ x. x), λ x. x)).only_now x image left;
    } in
    let self = c.args.self.now in
    let now = c.args.now.now in
    let family = c.args.family in
    let floor = c.args.floor in
    let state = c.in-Some.state.now in
    let here : slice_get now.families family.0 ≡ Some state = sym c.in-Some.ensures in
    let fold = manifest_folded self.manifest in
    let fits = c.requires.current.fits in
    let fam = family_there fold now fits family floor state here in
    let edit = c.raise_edit-edit.result in
    let is : edit ≡ raise_edit now.last self.next family fam floor = c.raise_edit-edit.ensures ∙ ap (λ (q : Seq). (let e : Edit = record { add_logs = []; drop_logs = []; next_file = self.next; last = now.last; family = Some (record { family = family; floor = floor; through = q; add = []; remove = [] }) } in e)) (state_is fold now fits family floor state here).through in
    let mid = c.reserve_edit.new.self in
    let two = c.sync_log.new.self in
    let kept = c.in-Ok-reserve_edit.ensures in
    let synced = c.in-Ok-sync_log.ensures in
    λ κs outlived. ap (λ (x : Edit). x.add_logs) is

pub returns-in-Err-reserve_edit-clause-answers : goal.returns-in-Err-reserve_edit-clause-answers
returns-in-Err-reserve_edit-clause-answers g c =
    let d = g.D.Disk in
    let f = g.D.File.DiskFile in
    let last : IsNowLast d f = record {
      disk = λ x n image left. (g.met.D.Disk g.world.𝓛 g.world.𝓜 g.world.𝓡 ((λ s x. x), (λ x. x), (λ x. x), λ x. x)).only_now x n image left;
      file = λ x image left. (g.met.D.File.DiskFile g.world.𝓛 g.world.𝓜 g.world.𝓡 ((λ s x. x), (λ x. x), (λ x. x), λ x. x)).only_now x image left;
    } in
    let self = c.args.self.now in
    let now = c.args.now.now in
    let family = c.args.family in
    let floor = c.args.floor in
    let mid = c.reserve_edit.new.self in
    let edit = c.raise_edit-edit.result in
    let fault = c.in-Err-reserve_edit.fault in
    let e = c.in-Err-reserve_edit.ensures in
    ap as_refusal e.fault ∙ c.in-Ok.ensures.answers

pub returns-in-Err-sync_log-clause-answers : goal.returns-in-Err-sync_log-clause-answers
returns-in-Err-sync_log-clause-answers g c =
    let d = g.D.Disk in
    let f = g.D.File.DiskFile in
    let last : IsNowLast d f = record {
      disk = λ x n image left. (g.met.D.Disk g.world.𝓛 g.world.𝓜 g.world.𝓡 ((λ s x. x), (λ x. x), (λ x. x), λ x. x)).only_now x n image left;
      file = λ x image left. (g.met.D.File.DiskFile g.world.𝓛 g.world.𝓜 g.world.𝓡 ((λ s x. x), (λ x. x), (λ x. x), λ x. x)).only_now x image left;
    } in
    let self = c.args.self.now in
    let now = c.args.now.now in
    let family = c.args.family in
    let floor = c.args.floor in
    let mid = c.reserve_edit.new.self in
    let two = c.sync_log.new.self in
    let edit = c.raise_edit-edit.result in
    let kept = c.in-Ok-reserve_edit.ensures in
    let fault = c.in-Err-sync_log.fault in
    let e = c.in-Err-sync_log.ensures in
    ap as_refusal e.fault ∙ c.in-Ok.ensures.answers

pub returns-in-Err-append_edit-clause-answers : goal.returns-in-Err-append_edit-clause-answers
returns-in-Err-append_edit-clause-answers g c =
    let d = g.D.Disk in
    let f = g.D.File.DiskFile in
    let last : IsNowLast d f = record {
      disk = λ x n image left. (g.met.D.Disk g.world.𝓛 g.world.𝓜 g.world.𝓡 ((λ s x. x), (λ x. x), (λ x. x), λ x. x)).only_now x n image left;
      file = λ x image left. (g.met.D.File.DiskFile g.world.𝓛 g.world.𝓜 g.world.𝓡 ((λ s x. x), (λ x. x), (λ x. x), λ x. x)).only_now x image left;
    } in
    let self = c.args.self.now in
    let now = c.args.now.now in
    let family = c.args.family in
    let floor = c.args.floor in
    let state = c.in-Some.state.now in
    let here : slice_get now.families family.0 ≡ Some state = sym c.in-Some.ensures in
    let fold = manifest_folded self.manifest in
    let fits = c.requires.current.fits in
    let fam = family_there fold now fits family floor state here in
    let edit = c.raise_edit-edit.result in
    let is : edit ≡ raise_edit now.last self.next family fam floor = c.raise_edit-edit.ensures ∙ ap (λ (q : Seq). (let e : Edit = record { add_logs = []; drop_logs = []; next_file = self.next; last = now.last; family = Some (record { family = family; floor = floor; through = q; add = []; remove = [] }) } in e)) (state_is fold now fits family floor state here).through in
    let mid = c.reserve_edit.new.self in
    let two = c.sync_log.new.self in
    let kept = c.in-Ok-reserve_edit.ensures in
    let synced = c.in-Ok-sync_log.ensures in
    let new = c.append_edit.new.self in
    let fault = c.in-Err-append_edit.fault in
    let e = c.in-Err-append_edit.ensures in
    ap as_refusal e.fault ∙ c.in-Ok.ensures.answers

pub returns-in-Ok-append_edit-clause-synced : goal.returns-in-Ok-append_edit-clause-synced
returns-in-Ok-append_edit-clause-synced g c =
    let d = g.D.Disk in
    let f = g.D.File.DiskFile in
    let last : IsNowLast d f = record {
      disk = λ x n image left. (g.met.D.Disk g.world.𝓛 g.world.𝓜 g.world.𝓡 ((λ s x. x), (λ x. x), (λ x. x), λ x. x)).only_now x n image left;
      file = λ x image left. (g.met.D.File.DiskFile g.world.𝓛 g.world.𝓜 g.world.𝓡 ((λ s x. x), (λ x. x), (λ x. x), λ x. x)).only_now x image left;
    } in
    let self = c.args.self.now in
    let now = c.args.now.now in
    let family = c.args.family in
    let floor = c.args.floor in
    let state = c.in-Some.state.now in
    let here : slice_get now.families family.0 ≡ Some state = sym c.in-Some.ensures in
    let fold = manifest_folded self.manifest in
    let fits = c.requires.current.fits in
    let fam = family_there fold now fits family floor state here in
    let edit = c.raise_edit-edit.result in
    let is : edit ≡ raise_edit now.last self.next family fam floor = c.raise_edit-edit.ensures ∙ ap (λ (q : Seq). (let e : Edit = record { add_logs = []; drop_logs = []; next_file = self.next; last = now.last; family = Some (record { family = family; floor = floor; through = q; add = []; remove = [] }) } in e)) (state_is fold now fits family floor state here).through in
    let mid = c.reserve_edit.new.self in
    let two = c.sync_log.new.self in
    let kept = c.in-Ok-reserve_edit.ensures in
    let synced = c.in-Ok-sync_log.ensures in
    let new = c.append_edit.new.self in
    let e = c.in-Ok-append_edit.ensures in
    let next = arc_value c.in-Ok.next in
    ap (λ w. wal_pending w) e.wal ∙ synced.pending
