use Rattle.std.proofs.Common.{◌+◌, Ok, Err, length, refl, sym, ap, ◌∙◌}
use Rattle.std.proofs.lemmas.Bool.{false≢true}
use Rattle.std.specs.Arc.{arc_value}
use Rattle.wal.specs.declared.numbered.Numbered.{Numbered}
use Rattle.udt_model.specs.Acts.Act.{write}
use Rattle.manifest.specs.Manifest.{manifest_folded}
use Rattle.engine_laws.specs.Joints.{IsNowLast}
use Rattle.store_engine.specs.Admission.{as_refusal}
use Rattle.store_engine.proofs.Answering.{as_before, disk_cause, disk_disk, disk_tells, memory_fault, none_cause, none_disk, none_tells, one_stays, rest_ran, same_folder, write_fails, write_refused, written_told}
use Rattle.store_engine.proofs.JobNumbers.{jobs_kept}
use Rattle.store_engine.proofs.Written.{added_faults, added_folder, appended_held, unadded}
use Rattle.store_engine.proofs.Writing.{end_bytes, end_cause, end_current, end_failed, end_fault, end_folder, end_manifest, end_next, end_older, end_now, end_ran, end_running, end_synced, end_waits}
use Rattle.store_engine.proofs.engine.Engine.write.Goals as goal

pub returns-in-Err-clause-tells : goal.returns-in-Err-clause-tells
returns-in-Err-clause-tells g c m co h =
    let d = g.D.Disk in
    let f = g.D.File.DiskFile in
    let last : IsNowLast d f = record {
      disk = λ x n image left. (g.met.D.Disk g.world.𝓛 g.world.𝓜 g.world.𝓡 ((λ s x. x), (λ x. x), (λ x. x), λ x. x)).only_now x n image left;
      file = λ x image left. (g.met.D.File.DiskFile g.world.𝓛 g.world.𝓜 g.world.𝓡 ((λ s x. x), (λ x. x), (λ x. x), λ x. x)).only_now x image left;
    } in
    let self = c.args.self.now in
    let now = c.args.now.now in
    let ops = c.args.batch.now in
    let sync = c.args.sync in
    let fault = c.in-Err.fault in
    let e = c.in-Err.ensures in
    write_refused m ops sync fault e.memory (e.refused m h.holds.sound h.runs h.shows)

pub returns-in-Err-clause-moments : goal.returns-in-Err-clause-moments
returns-in-Err-clause-moments g c m co number h =
    let d = g.D.Disk in
    let f = g.D.File.DiskFile in
    let last : IsNowLast d f = record {
      disk = λ x n image left. (g.met.D.Disk g.world.𝓛 g.world.𝓜 g.world.𝓡 ((λ s x. x), (λ x. x), (λ x. x), λ x. x)).only_now x n image left;
      file = λ x image left. (g.met.D.File.DiskFile g.world.𝓛 g.world.𝓜 g.world.𝓡 ((λ s x. x), (λ x. x), (λ x. x), λ x. x)).only_now x image left;
    } in
    let self = c.args.self.now in
    let now = c.args.now.now in
    let ops = c.args.batch.now in
    let sync = c.args.sync in
    let fault = c.in-Err.fault in
    let e = c.in-Err.ensures in
    rest_ran d f last self self now m co number (write ops sync) h refl

pub returns-in-Err-clause-refused : goal.returns-in-Err-clause-refused
returns-in-Err-clause-refused g c not =
    let d = g.D.Disk in
    let f = g.D.File.DiskFile in
    let last : IsNowLast d f = record {
      disk = λ x n image left. (g.met.D.Disk g.world.𝓛 g.world.𝓜 g.world.𝓡 ((λ s x. x), (λ x. x), (λ x. x), λ x. x)).only_now x n image left;
      file = λ x image left. (g.met.D.File.DiskFile g.world.𝓛 g.world.𝓜 g.world.𝓡 ((λ s x. x), (λ x. x), (λ x. x), λ x. x)).only_now x image left;
    } in
    let self = c.args.self.now in
    let now = c.args.now.now in
    let ops = c.args.batch.now in
    let sync = c.args.sync in
    let fault = c.in-Err.fault in
    let e = c.in-Err.ensures in
    as_before d f last self

pub returns-in-Err-clause-called : goal.returns-in-Err-clause-called
returns-in-Err-clause-called g c =
    let d = g.D.Disk in
    let f = g.D.File.DiskFile in
    let last : IsNowLast d f = record {
      disk = λ x n image left. (g.met.D.Disk g.world.𝓛 g.world.𝓜 g.world.𝓡 ((λ s x. x), (λ x. x), (λ x. x), λ x. x)).only_now x n image left;
      file = λ x image left. (g.met.D.File.DiskFile g.world.𝓛 g.world.𝓜 g.world.𝓡 ((λ s x. x), (λ x. x), (λ x. x), λ x. x)).only_now x image left;
    } in
    let self = c.args.self.now in
    let now = c.args.now.now in
    let ops = c.args.batch.now in
    let sync = c.args.sync in
    let fault = c.in-Err.fault in
    let e = c.in-Err.ensures in
    record {
      same = same_folder d f last self;
      one = λ one. one;
      next = refl;
      older = refl;
      jobs = λ n job. job;
      untouched = λ not. refl;
      running = λ not. c.requires.running;
      failed = c.requires.running.runs ∙ sym (memory_fault fault e.memory);
      counted = none_cause fault _ _ (memory_fault fault e.memory) refl;
    }

pub returns-in-Err-add_batch-clause-tells : goal.returns-in-Err-add_batch-clause-tells
returns-in-Err-add_batch-clause-tells g c m co h =
    let d = g.D.Disk in
    let f = g.D.File.DiskFile in
    let last : IsNowLast d f = record {
      disk = λ x n image left. (g.met.D.Disk g.world.𝓛 g.world.𝓜 g.world.𝓡 ((λ s x. x), (λ x. x), (λ x. x), λ x. x)).only_now x n image left;
      file = λ x image left. (g.met.D.File.DiskFile g.world.𝓛 g.world.𝓜 g.world.𝓡 ((λ s x. x), (λ x. x), (λ x. x), λ x. x)).only_now x image left;
    } in
    let self = c.args.self.now in
    let now = c.args.now.now in
    let ops = c.args.batch.now in
    let sync = c.args.sync in
    let mid = c.add_batch.new.self in
    let fault = c.in-Err-add_batch.fault in
    let e = c.in-Err-add_batch.ensures in
    let b : Numbered = record { first = record { 0 = now.last.0 + 1 }; batch = ops } in
    none_tells m (write ops sync) fault e.fault

pub returns-in-Err-add_batch-clause-moments : goal.returns-in-Err-add_batch-clause-moments
returns-in-Err-add_batch-clause-moments g c m co number h =
    let d = g.D.Disk in
    let f = g.D.File.DiskFile in
    let last : IsNowLast d f = record {
      disk = λ x n image left. (g.met.D.Disk g.world.𝓛 g.world.𝓜 g.world.𝓡 ((λ s x. x), (λ x. x), (λ x. x), λ x. x)).only_now x n image left;
      file = λ x image left. (g.met.D.File.DiskFile g.world.𝓛 g.world.𝓜 g.world.𝓡 ((λ s x. x), (λ x. x), (λ x. x), λ x. x)).only_now x image left;
    } in
    let self = c.args.self.now in
    let now = c.args.now.now in
    let ops = c.args.batch.now in
    let sync = c.args.sync in
    let mid = c.add_batch.new.self in
    let fault = c.in-Err-add_batch.fault in
    let e = c.in-Err-add_batch.ensures in
    let b : Numbered = record { first = record { 0 = now.last.0 + 1 }; batch = ops } in
    rest_ran d f last self mid now m co number (write ops sync) h (appended_held d f last self mid b (Err fault) e)

pub returns-in-Err-add_batch-clause-refused : goal.returns-in-Err-add_batch-clause-refused
returns-in-Err-add_batch-clause-refused g c not =
    let d = g.D.Disk in
    let f = g.D.File.DiskFile in
    let last : IsNowLast d f = record {
      disk = λ x n image left. (g.met.D.Disk g.world.𝓛 g.world.𝓜 g.world.𝓡 ((λ s x. x), (λ x. x), (λ x. x), λ x. x)).only_now x n image left;
      file = λ x image left. (g.met.D.File.DiskFile g.world.𝓛 g.world.𝓜 g.world.𝓡 ((λ s x. x), (λ x. x), (λ x. x), λ x. x)).only_now x image left;
    } in
    let self = c.args.self.now in
    let now = c.args.now.now in
    let ops = c.args.batch.now in
    let sync = c.args.sync in
    let mid = c.add_batch.new.self in
    let fault = c.in-Err-add_batch.fault in
    let e = c.in-Err-add_batch.ensures in
    let b : Numbered = record { first = record { 0 = now.last.0 + 1 }; batch = ops } in
    unadded d f last self mid b (Err fault) e

pub returns-in-Err-add_batch-clause-called : goal.returns-in-Err-add_batch-clause-called
returns-in-Err-add_batch-clause-called g c =
    let d = g.D.Disk in
    let f = g.D.File.DiskFile in
    let last : IsNowLast d f = record {
      disk = λ x n image left. (g.met.D.Disk g.world.𝓛 g.world.𝓜 g.world.𝓡 ((λ s x. x), (λ x. x), (λ x. x), λ x. x)).only_now x n image left;
      file = λ x image left. (g.met.D.File.DiskFile g.world.𝓛 g.world.𝓜 g.world.𝓡 ((λ s x. x), (λ x. x), (λ x. x), λ x. x)).only_now x image left;
    } in
    let self = c.args.self.now in
    let now = c.args.now.now in
    let ops = c.args.batch.now in
    let sync = c.args.sync in
    let mid = c.add_batch.new.self in
    let fault = c.in-Err-add_batch.fault in
    let e = c.in-Err-add_batch.ensures in
    let b : Numbered = record { first = record { 0 = now.last.0 + 1 }; batch = ops } in
    record {
      same = added_folder d f last self mid b (Err fault) e;
      one = one_stays d f self mid (added_folder d f last self mid b (Err fault) e);
      next = e.next;
      older = e.older;
      jobs = jobs_kept f self mid e.next (ap manifest_folded e.manifest);
      untouched = λ not. appended_held d f last self mid b (Err fault) e;
      running = λ not. e.running;
      failed = e.running.runs ∙ sym (none_disk fault e.fault);
      counted = none_cause fault _ _ (none_disk fault e.fault) (added_faults d f last self mid b (Err fault) e);
    }

pub returns-in-Err-sync_due-clause-tells : goal.returns-in-Err-sync_due-clause-tells
returns-in-Err-sync_due-clause-tells g c m co h =
    let d = g.D.Disk in
    let f = g.D.File.DiskFile in
    let last : IsNowLast d f = record {
      disk = λ x n image left. (g.met.D.Disk g.world.𝓛 g.world.𝓜 g.world.𝓡 ((λ s x. x), (λ x. x), (λ x. x), λ x. x)).only_now x n image left;
      file = λ x image left. (g.met.D.File.DiskFile g.world.𝓛 g.world.𝓜 g.world.𝓡 ((λ s x. x), (λ x. x), (λ x. x), λ x. x)).only_now x image left;
    } in
    let self = c.args.self.now in
    let now = c.args.now.now in
    let ops = c.args.batch.now in
    let sync = c.args.sync in
    let mid = c.add_batch.new.self in
    let new = c.sync_due.new.self in
    let added = c.in-Ok-add_batch.ensures in
    let fault = c.in-Err-sync_due.fault in
    let e = c.in-Err-sync_due.ensures in
    disk_tells m (write ops sync) fault (end_fault d f last self mid new now ops sync added c.requires.running.together (Err fault) e.due e.waits) (write_fails m ops (m.last.0 + length ops) (c.in-Ok.ensures.admitted m h.holds.sound h.runs h.shows) sync)

pub returns-in-Err-sync_due-clause-moments : goal.returns-in-Err-sync_due-clause-moments
returns-in-Err-sync_due-clause-moments g c m co number h =
    let d = g.D.Disk in
    let f = g.D.File.DiskFile in
    let last : IsNowLast d f = record {
      disk = λ x n image left. (g.met.D.Disk g.world.𝓛 g.world.𝓜 g.world.𝓡 ((λ s x. x), (λ x. x), (λ x. x), λ x. x)).only_now x n image left;
      file = λ x image left. (g.met.D.File.DiskFile g.world.𝓛 g.world.𝓜 g.world.𝓡 ((λ s x. x), (λ x. x), (λ x. x), λ x. x)).only_now x image left;
    } in
    let self = c.args.self.now in
    let now = c.args.now.now in
    let ops = c.args.batch.now in
    let sync = c.args.sync in
    let mid = c.add_batch.new.self in
    let new = c.sync_due.new.self in
    let added = c.in-Ok-add_batch.ensures in
    let fault = c.in-Err-sync_due.fault in
    let e = c.in-Err-sync_due.ensures in
    end_ran d f last self mid new now ops sync added c.requires.running.together (Err fault) e.due e.waits m co number h (written_told m ops (m.last.0 + length ops) (c.in-Ok.ensures.admitted m h.holds.sound h.runs h.shows))

pub returns-in-Err-sync_due-clause-refused : goal.returns-in-Err-sync_due-clause-refused
returns-in-Err-sync_due-clause-refused g c not =
    let d = g.D.Disk in
    let f = g.D.File.DiskFile in
    let last : IsNowLast d f = record {
      disk = λ x n image left. (g.met.D.Disk g.world.𝓛 g.world.𝓜 g.world.𝓡 ((λ s x. x), (λ x. x), (λ x. x), λ x. x)).only_now x n image left;
      file = λ x image left. (g.met.D.File.DiskFile g.world.𝓛 g.world.𝓜 g.world.𝓡 ((λ s x. x), (λ x. x), (λ x. x), λ x. x)).only_now x image left;
    } in
    let self = c.args.self.now in
    let now = c.args.now.now in
    let ops = c.args.batch.now in
    let sync = c.args.sync in
    let mid = c.add_batch.new.self in
    let new = c.sync_due.new.self in
    let added = c.in-Ok-add_batch.ensures in
    let fault = c.in-Err-sync_due.fault in
    let e = c.in-Err-sync_due.ensures in
    absurd (false≢true (sym not ∙ disk_disk fault (end_fault d f last self mid new now ops sync added c.requires.running.together (Err fault) e.due e.waits)))

pub returns-in-Err-sync_due-clause-called : goal.returns-in-Err-sync_due-clause-called
returns-in-Err-sync_due-clause-called g c =
    let d = g.D.Disk in
    let f = g.D.File.DiskFile in
    let last : IsNowLast d f = record {
      disk = λ x n image left. (g.met.D.Disk g.world.𝓛 g.world.𝓜 g.world.𝓡 ((λ s x. x), (λ x. x), (λ x. x), λ x. x)).only_now x n image left;
      file = λ x image left. (g.met.D.File.DiskFile g.world.𝓛 g.world.𝓜 g.world.𝓡 ((λ s x. x), (λ x. x), (λ x. x), λ x. x)).only_now x image left;
    } in
    let self = c.args.self.now in
    let now = c.args.now.now in
    let ops = c.args.batch.now in
    let sync = c.args.sync in
    let mid = c.add_batch.new.self in
    let new = c.sync_due.new.self in
    let added = c.in-Ok-add_batch.ensures in
    let fault = c.in-Err-sync_due.fault in
    let e = c.in-Err-sync_due.ensures in
    record {
      same = end_folder d f last self mid new now ops sync added c.requires.running.together (Err fault) e.due e.waits;
      one = one_stays d f self new (end_folder d f last self mid new now ops sync added c.requires.running.together (Err fault) e.due e.waits);
      next = end_next d f last self mid new now ops sync added c.requires.running.together (Err fault) e.due e.waits;
      older = end_older d f last self mid new now ops sync added c.requires.running.together (Err fault) e.due e.waits;
      jobs = jobs_kept f self new (end_next d f last self mid new now ops sync added c.requires.running.together (Err fault) e.due e.waits) (ap manifest_folded (end_manifest d f last self mid new now ops sync added c.requires.running.together (Err fault) e.due e.waits));
      untouched = λ not. absurd (false≢true (sym not ∙ disk_disk fault (end_fault d f last self mid new now ops sync added c.requires.running.together (Err fault) e.due e.waits)));
      running = λ not. absurd (false≢true (sym not ∙ disk_disk fault (end_fault d f last self mid new now ops sync added c.requires.running.together (Err fault) e.due e.waits)));
      failed = end_failed d f last self mid new now ops sync added c.requires.running.together (Err fault) e.due e.waits;
      counted = disk_cause fault _ _ (end_fault d f last self mid new now ops sync added c.requires.running.together (Err fault) e.due e.waits) (end_cause d f last self mid new now ops sync added c.requires.running.together (Err fault) e.due e.waits).failed;
    }

pub returns-in-Ok-sync_due-clause-tells : goal.returns-in-Ok-sync_due-clause-tells
returns-in-Ok-sync_due-clause-tells g c m co h =
    let d = g.D.Disk in
    let f = g.D.File.DiskFile in
    let last : IsNowLast d f = record {
      disk = λ x n image left. (g.met.D.Disk g.world.𝓛 g.world.𝓜 g.world.𝓡 ((λ s x. x), (λ x. x), (λ x. x), λ x. x)).only_now x n image left;
      file = λ x image left. (g.met.D.File.DiskFile g.world.𝓛 g.world.𝓜 g.world.𝓡 ((λ s x. x), (λ x. x), (λ x. x), λ x. x)).only_now x image left;
    } in
    let self = c.args.self.now in
    let now = c.args.now.now in
    let ops = c.args.batch.now in
    let sync = c.args.sync in
    let mid = c.add_batch.new.self in
    let new = c.sync_due.new.self in
    let added = c.in-Ok-add_batch.ensures in
    let e = c.in-Ok-sync_due.ensures in
    let next = arc_value c.in-Ok.next in
    written_told m ops (m.last.0 + length ops) (c.in-Ok.ensures.admitted m h.holds.sound h.runs h.shows) sync

pub returns-in-Ok-sync_due-clause-holds : goal.returns-in-Ok-sync_due-clause-holds
returns-in-Ok-sync_due-clause-holds g c m co number h =
    let d = g.D.Disk in
    let f = g.D.File.DiskFile in
    let last : IsNowLast d f = record {
      disk = λ x n image left. (g.met.D.Disk g.world.𝓛 g.world.𝓜 g.world.𝓡 ((λ s x. x), (λ x. x), (λ x. x), λ x. x)).only_now x n image left;
      file = λ x image left. (g.met.D.File.DiskFile g.world.𝓛 g.world.𝓜 g.world.𝓡 ((λ s x. x), (λ x. x), (λ x. x), λ x. x)).only_now x image left;
    } in
    let self = c.args.self.now in
    let now = c.args.now.now in
    let ops = c.args.batch.now in
    let sync = c.args.sync in
    let mid = c.add_batch.new.self in
    let new = c.sync_due.new.self in
    let added = c.in-Ok-add_batch.ensures in
    let e = c.in-Ok-sync_due.ensures in
    let next = arc_value c.in-Ok.next in
    end_now d f last self mid new now ops sync added c.requires.running.together (Ok tt) e.due e.waits m co number h (written_told m ops (m.last.0 + length ops) (c.in-Ok.ensures.admitted m h.holds.sound h.runs h.shows)) next (c.in-Ok.ensures.next m number sync h.holds.sound h.shows)

pub returns-in-Ok-sync_due-clause-moments : goal.returns-in-Ok-sync_due-clause-moments
returns-in-Ok-sync_due-clause-moments g c m co number h =
    let d = g.D.Disk in
    let f = g.D.File.DiskFile in
    let last : IsNowLast d f = record {
      disk = λ x n image left. (g.met.D.Disk g.world.𝓛 g.world.𝓜 g.world.𝓡 ((λ s x. x), (λ x. x), (λ x. x), λ x. x)).only_now x n image left;
      file = λ x image left. (g.met.D.File.DiskFile g.world.𝓛 g.world.𝓜 g.world.𝓡 ((λ s x. x), (λ x. x), (λ x. x), λ x. x)).only_now x image left;
    } in
    let self = c.args.self.now in
    let now = c.args.now.now in
    let ops = c.args.batch.now in
    let sync = c.args.sync in
    let mid = c.add_batch.new.self in
    let new = c.sync_due.new.self in
    let added = c.in-Ok-add_batch.ensures in
    let e = c.in-Ok-sync_due.ensures in
    let next = arc_value c.in-Ok.next in
    end_ran d f last self mid new now ops sync added c.requires.running.together (Ok tt) e.due e.waits m co number h (written_told m ops (m.last.0 + length ops) (c.in-Ok.ensures.admitted m h.holds.sound h.runs h.shows))

pub returns-in-Ok-sync_due-clause-current : goal.returns-in-Ok-sync_due-clause-current
returns-in-Ok-sync_due-clause-current g c =
    let d = g.D.Disk in
    let f = g.D.File.DiskFile in
    let last : IsNowLast d f = record {
      disk = λ x n image left. (g.met.D.Disk g.world.𝓛 g.world.𝓜 g.world.𝓡 ((λ s x. x), (λ x. x), (λ x. x), λ x. x)).only_now x n image left;
      file = λ x image left. (g.met.D.File.DiskFile g.world.𝓛 g.world.𝓜 g.world.𝓡 ((λ s x. x), (λ x. x), (λ x. x), λ x. x)).only_now x image left;
    } in
    let self = c.args.self.now in
    let now = c.args.now.now in
    let ops = c.args.batch.now in
    let sync = c.args.sync in
    let mid = c.add_batch.new.self in
    let new = c.sync_due.new.self in
    let added = c.in-Ok-add_batch.ensures in
    let e = c.in-Ok-sync_due.ensures in
    let next = arc_value c.in-Ok.next in
    end_current d f last self mid new now ops sync added c.requires.running.together (Ok tt) e.due e.waits next c.in-Ok.ensures.shown c.in-Ok.ensures.room c.requires.current

pub returns-in-Ok-sync_due-clause-called : goal.returns-in-Ok-sync_due-clause-called
returns-in-Ok-sync_due-clause-called g c =
    let d = g.D.Disk in
    let f = g.D.File.DiskFile in
    let last : IsNowLast d f = record {
      disk = λ x n image left. (g.met.D.Disk g.world.𝓛 g.world.𝓜 g.world.𝓡 ((λ s x. x), (λ x. x), (λ x. x), λ x. x)).only_now x n image left;
      file = λ x image left. (g.met.D.File.DiskFile g.world.𝓛 g.world.𝓜 g.world.𝓡 ((λ s x. x), (λ x. x), (λ x. x), λ x. x)).only_now x image left;
    } in
    let self = c.args.self.now in
    let now = c.args.now.now in
    let ops = c.args.batch.now in
    let sync = c.args.sync in
    let mid = c.add_batch.new.self in
    let new = c.sync_due.new.self in
    let added = c.in-Ok-add_batch.ensures in
    let e = c.in-Ok-sync_due.ensures in
    let next = arc_value c.in-Ok.next in
    record {
      same = end_folder d f last self mid new now ops sync added c.requires.running.together (Ok tt) e.due e.waits;
      one = one_stays d f self new (end_folder d f last self mid new now ops sync added c.requires.running.together (Ok tt) e.due e.waits);
      next = end_next d f last self mid new now ops sync added c.requires.running.together (Ok tt) e.due e.waits;
      older = end_older d f last self mid new now ops sync added c.requires.running.together (Ok tt) e.due e.waits;
      jobs = jobs_kept f self new (end_next d f last self mid new now ops sync added c.requires.running.together (Ok tt) e.due e.waits) (ap manifest_folded (end_manifest d f last self mid new now ops sync added c.requires.running.together (Ok tt) e.due e.waits));
      untouched = tt;
      running = λ not. end_running d f last self mid new now ops sync added c.requires.running.together (Ok tt) e.due e.waits;
      failed = end_failed d f last self mid new now ops sync added c.requires.running.together (Ok tt) e.due e.waits;
      counted = (end_cause d f last self mid new now ops sync added c.requires.running.together (Ok tt) e.due e.waits).kept;
    }

pub returns-in-Err-sync_due-clause-manifest : goal.returns-in-Err-sync_due-clause-manifest
returns-in-Err-sync_due-clause-manifest g c =
    let d = g.D.Disk in
    let f = g.D.File.DiskFile in
    let last : IsNowLast d f = record {
      disk = λ x n image left. (g.met.D.Disk g.world.𝓛 g.world.𝓜 g.world.𝓡 ((λ s x. x), (λ x. x), (λ x. x), λ x. x)).only_now x n image left;
      file = λ x image left. (g.met.D.File.DiskFile g.world.𝓛 g.world.𝓜 g.world.𝓡 ((λ s x. x), (λ x. x), (λ x. x), λ x. x)).only_now x image left;
    } in
    let self = c.args.self.now in
    let now = c.args.now.now in
    let ops = c.args.batch.now in
    let sync = c.args.sync in
    let mid = c.add_batch.new.self in
    let new = c.sync_due.new.self in
    let added = c.in-Ok-add_batch.ensures in
    let fault = c.in-Err-sync_due.fault in
    let e = c.in-Err-sync_due.ensures in
    end_manifest d f last self mid new now ops sync added c.requires.running.together (Err fault) e.due e.waits

pub returns-in-Ok-sync_due-clause-manifest : goal.returns-in-Ok-sync_due-clause-manifest
returns-in-Ok-sync_due-clause-manifest g c =
    let d = g.D.Disk in
    let f = g.D.File.DiskFile in
    let last : IsNowLast d f = record {
      disk = λ x n image left. (g.met.D.Disk g.world.𝓛 g.world.𝓜 g.world.𝓡 ((λ s x. x), (λ x. x), (λ x. x), λ x. x)).only_now x n image left;
      file = λ x image left. (g.met.D.File.DiskFile g.world.𝓛 g.world.𝓜 g.world.𝓡 ((λ s x. x), (λ x. x), (λ x. x), λ x. x)).only_now x image left;
    } in
    let self = c.args.self.now in
    let now = c.args.now.now in
    let ops = c.args.batch.now in
    let sync = c.args.sync in
    let mid = c.add_batch.new.self in
    let new = c.sync_due.new.self in
    let added = c.in-Ok-add_batch.ensures in
    let e = c.in-Ok-sync_due.ensures in
    let next = arc_value c.in-Ok.next in
    end_manifest d f last self mid new now ops sync added c.requires.running.together (Ok tt) e.due e.waits

pub returns-in-Err-add_batch-clause-answers : goal.returns-in-Err-add_batch-clause-answers
returns-in-Err-add_batch-clause-answers g c =
    let d = g.D.Disk in
    let f = g.D.File.DiskFile in
    let last : IsNowLast d f = record {
      disk = λ x n image left. (g.met.D.Disk g.world.𝓛 g.world.𝓜 g.world.𝓡 ((λ s x. x), (λ x. x), (λ x. x), λ x. x)).only_now x n image left;
      file = λ x image left. (g.met.D.File.DiskFile g.world.𝓛 g.world.𝓜 g.world.𝓡 ((λ s x. x), (λ x. x), (λ x. x), λ x. x)).only_now x image left;
    } in
    let self = c.args.self.now in
    let now = c.args.now.now in
    let ops = c.args.batch.now in
    let sync = c.args.sync in
    let mid = c.add_batch.new.self in
    let fault = c.in-Err-add_batch.fault in
    let e = c.in-Err-add_batch.ensures in
    let b : Numbered = record { first = record { 0 = now.last.0 + 1 }; batch = ops } in
    ap as_refusal e.fault ∙ c.in-Ok.ensures.answers

pub returns-in-Err-sync_due-clause-answers : goal.returns-in-Err-sync_due-clause-answers
returns-in-Err-sync_due-clause-answers g c =
    let d = g.D.Disk in
    let f = g.D.File.DiskFile in
    let last : IsNowLast d f = record {
      disk = λ x n image left. (g.met.D.Disk g.world.𝓛 g.world.𝓜 g.world.𝓡 ((λ s x. x), (λ x. x), (λ x. x), λ x. x)).only_now x n image left;
      file = λ x image left. (g.met.D.File.DiskFile g.world.𝓛 g.world.𝓜 g.world.𝓡 ((λ s x. x), (λ x. x), (λ x. x), λ x. x)).only_now x image left;
    } in
    let self = c.args.self.now in
    let now = c.args.now.now in
    let ops = c.args.batch.now in
    let sync = c.args.sync in
    let mid = c.add_batch.new.self in
    let new = c.sync_due.new.self in
    let added = c.in-Ok-add_batch.ensures in
    let fault = c.in-Err-sync_due.fault in
    let e = c.in-Err-sync_due.ensures in
    ap as_refusal (end_fault d f last self mid new now ops sync added c.requires.running.together (Err fault) e.due e.waits) ∙ c.in-Ok.ensures.answers

pub returns-in-Ok-sync_due-clause-written : goal.returns-in-Ok-sync_due-clause-written
returns-in-Ok-sync_due-clause-written g c =
    let d = g.D.Disk in
    let f = g.D.File.DiskFile in
    let last : IsNowLast d f = record {
      disk = λ x n image left. (g.met.D.Disk g.world.𝓛 g.world.𝓜 g.world.𝓡 ((λ s x. x), (λ x. x), (λ x. x), λ x. x)).only_now x n image left;
      file = λ x image left. (g.met.D.File.DiskFile g.world.𝓛 g.world.𝓜 g.world.𝓡 ((λ s x. x), (λ x. x), (λ x. x), λ x. x)).only_now x image left;
    } in
    let self = c.args.self.now in
    let now = c.args.now.now in
    let ops = c.args.batch.now in
    let sync = c.args.sync in
    let mid = c.add_batch.new.self in
    let new = c.sync_due.new.self in
    let added = c.in-Ok-add_batch.ensures in
    let e = c.in-Ok-sync_due.ensures in
    let next = arc_value c.in-Ok.next in
    record {
      adds = c.in-Ok.ensures.shown;
      waits = λ not low. end_bytes d f last self mid new now ops sync added c.requires.running.together (Ok tt) e.due e.waits not low;
      still = λ not low. end_waits d f last self mid new now ops sync added c.requires.running.together (Ok tt) e.due e.waits not low;
      synced = λ is. end_synced d f last self mid new now ops sync added c.requires.running.together (Ok tt) e.due e.waits is;
    }
