use Rattle.std.proofs.Common.{refl, subst}
use Rattle.std.specs.Prelude.{Err}
use Rattle.super_version.specs.declared.version.SuperVersion.{SuperVersion}
use Rattle.engine_laws.specs.Joints.{IsNowLast}
use Rattle.solo_store.specs.Flushing.{IsFlushWritten}
use Rattle.solo_store.proofs.Finishing.{discard_step, installed_step, no_file_step, undone_step}
use Rattle.solo_store.proofs.store.Store.finish.Goals as goal

pub returns-in-Err-clause-step : goal.returns-in-Err-clause-step
returns-in-Err-clause-step g c name named =
    let d = g.D.Disk in
    let f = g.D.File.DiskFile in
    let last : IsNowLast d f = record {
      disk = λ x n image left. (g.met.D.Disk g.world.𝓛 g.world.𝓜 g.world.𝓡 ((λ s x. x), (λ x. x), (λ x. x), λ x. x)).only_now x n image left;
      file = λ x image left. (g.met.D.File.DiskFile g.world.𝓛 g.world.𝓜 g.world.𝓡 ((λ s x. x), (λ x. x), (λ x. x), λ x. x)).only_now x image left;
    } in
    let s = c.args.self.now in
    let done = c.in-Err.ensures in
    no_file_step d f last s c.requires.ready c.args.number c.args.flush c.requires.runs c.requires.works name named c.new_job_file.new.self c.in-Err.fault c.without_file.result done.holds (λ now m co h. done.moments now m co h) done.answers done.called c.without_file.ensures

pub returns-in-Err-write_flush-clause-step : goal.returns-in-Err-write_flush-clause-step
returns-in-Err-write_flush-clause-step g c name named =
    let d = g.D.Disk in
    let f = g.D.File.DiskFile in
    let last : IsNowLast d f = record {
      disk = λ x n image left. (g.met.D.Disk g.world.𝓛 g.world.𝓜 g.world.𝓡 ((λ s x. x), (λ x. x), (λ x. x), λ x. x)).only_now x n image left;
      file = λ x image left. (g.met.D.File.DiskFile g.world.𝓛 g.world.𝓜 g.world.𝓡 ((λ s x. x), (λ x. x), (λ x. x), λ x. x)).only_now x image left;
    } in
    let s = c.args.self.now in
    let written = subst (λ (v : SuperVersion). IsFlushWritten f v c.args.flush c.in-Ok.made.1 c.write_flush.new.file (Err c.in-Err-write_flush.cause)) c.as_ref-version.ensures c.in-Err-write_flush.ensures in
    discard_step d f last s c.requires.ready c.args.number c.args.flush c.requires.runs c.requires.works name named
    c.new_job_file.new.self c.in-Ok.made c.in-Ok.ensures.holds (λ now m co h. c.in-Ok.ensures.moments now m co h) c.in-Ok.ensures.made c.in-Ok.ensures.called c.discard.new.self c.write_flush.new.file c.in-Err-write_flush.cause c.dropped.result written
    c.discard.ensures.holds (λ now m co h. c.discard.ensures.moments now m co h) c.discard.ensures.given c.discard.ensures.discarded c.dropped.ensures

pub returns-in-Ok-install_flush-clause-step : goal.returns-in-Ok-install_flush-clause-step
returns-in-Ok-install_flush-clause-step g c name named =
    let d = g.D.Disk in
    let f = g.D.File.DiskFile in
    let last : IsNowLast d f = record {
      disk = λ x n image left. (g.met.D.Disk g.world.𝓛 g.world.𝓜 g.world.𝓡 ((λ s x. x), (λ x. x), (λ x. x), λ x. x)).only_now x n image left;
      file = λ x image left. (g.met.D.File.DiskFile g.world.𝓛 g.world.𝓜 g.world.𝓡 ((λ s x. x), (λ x. x), (λ x. x), λ x. x)).only_now x image left;
    } in
    let s = c.args.self.now in
    let written = rw c.as_ref-version.ensures at c.in-Ok-write_flush.ensures in
    let gone = rw c.as_ref-version.ensures at c.count_sealed-gone.ensures in
    let done = rw c.as_ref-version.ensures at c.in-Ok-install_flush.ensures in
    let told = rw c.as_ref-version.ensures at c.table_told-told.ensures in
    installed_step d f last s c.requires.ready c.args.number c.args.flush c.requires.runs c.requires.works name named
    c.new_job_file.new.self c.in-Ok.made c.in-Ok.ensures.holds (λ now m co h. c.in-Ok.ensures.moments now m co h) c.in-Ok.ensures.made c.in-Ok.ensures.called c.write_flush.new.file c.in-Ok-write_flush.out c.count_sealed-gone.result gone written c.install_flush.new.self _ c.in-Ok-install_flush.next c.table_told-told.result
    (λ m co event job h ends. done.moments m co event job h ends) done.called refl refl refl refl (λ m co job h ends. done.tells m co job h ends) (λ m co event job h ends. done.holds m co event job h ends) done.current done.shown told

pub returns-in-Err-install_flush-clause-step : goal.returns-in-Err-install_flush-clause-step
returns-in-Err-install_flush-clause-step g c name named =
    let d = g.D.Disk in
    let f = g.D.File.DiskFile in
    let last : IsNowLast d f = record {
      disk = λ x n image left. (g.met.D.Disk g.world.𝓛 g.world.𝓜 g.world.𝓡 ((λ s x. x), (λ x. x), (λ x. x), λ x. x)).only_now x n image left;
      file = λ x image left. (g.met.D.File.DiskFile g.world.𝓛 g.world.𝓜 g.world.𝓡 ((λ s x. x), (λ x. x), (λ x. x), λ x. x)).only_now x image left;
    } in
    let s = c.args.self.now in
    let written = rw c.as_ref-version.ensures at c.in-Ok-write_flush.ensures in
    let gone = rw c.as_ref-version.ensures at c.count_sealed-gone.ensures in
    let done = rw c.as_ref-version.ensures at c.in-Err-install_flush.ensures in
    undone_step d f last s c.requires.ready c.args.number c.args.flush c.requires.runs c.requires.works name named
    c.new_job_file.new.self c.in-Ok.made c.in-Ok.ensures.holds (λ now m co h. c.in-Ok.ensures.moments now m co h) c.in-Ok.ensures.made c.in-Ok.ensures.called c.write_flush.new.file c.in-Ok-write_flush.out c.count_sealed-gone.result gone written c.install_flush.new.self c.undone.new.self c.in-Err-install_flush.fault c.undone.result
    (λ m co event job h ends. done.moments m co event job h ends) done.called (λ m co job h ends. done.tells m co job h ends) done.refused done.fault c.undone.ensures.told c.undone.ensures.halted
