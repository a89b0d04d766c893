use Rattle.std.proofs.Common.{List, ◌∷◌, refl, sym, ◌∙◌, subst}
use Rattle.std.specs.Prelude.{IsTrue}
use Rattle.udt_disk.specs.Crash.{Image}
use Rattle.udt_disk.specs.Joint.{Folder}
use Rattle.udt_disk.specs.Moments.{holding}
use Rattle.udt_disk.specs.declared.name.FileName.{FileName}
use Rattle.udt_disk.specs.declared.name.FileName.TheVariants.{Log}
use Rattle.udt_disk.proofs.Moments.{Giving, only_then, return_step}
use Rattle.udt_disk.proofs.TouchLemmas.{touches_one}
use Rattle.manifest_fold.specs.Folds.{newest_log}
use Rattle.ts_key.specs.declared.version.Version.{Version}
use Rattle.recovery.specs.Versions.{ShowsVersion}
use Rattle.recovery.specs.Places.{IsTableName}
use Rattle.recovery.specs.Replayed.{AreInLine, RefusesLogs}
use Rattle.recovery.specs.declared.tables.Opened.{Opened}
use Rattle.recovery.proofs.Judging.{newest_before}
use Rattle.recovery.proofs.Looking.{looks_folder, looks_model, looks_told}
use Rattle.recovery.proofs.Fitting.{fits_from}
use Rattle.recovery.proofs.Openings.{logs_files, shown_from, tables_files}
use Rattle.recovery.proofs.opening.open_files.Goals as goal

pub returns-in-Err-clause-reads : goal.returns-in-Err-clause-reads
returns-in-Err-clause-reads g c others tables logs = c.in-Err.ensures.looks others tables

pub returns-in-Err-clause-refused : goal.returns-in-Err-clause-refused
returns-in-Err-clause-refused g c told = tables_files c.args.fold.now (g.D.Disk.stands c.args.disk.now) c.in-Err.fault (c.in-Err.ensures.refused told)

pub returns-in-Err-open_logs-clause-reads : goal.returns-in-Err-open_logs-clause-reads
returns-in-Err-open_logs-clause-reads g c others tables logs =
    let d = g.D.Disk in
    let f = g.D.File.DiskFile in
    let old = c.args.disk.now in
    let mid = c.open_tables.new.disk in
    let looks = c.in-Ok.ensures.looks in
    only_then d f (λ n. ⊥) (holding old others) (holding mid others) (holding c.open_logs.new.disk others) (looks others tables) (c.in-Err-open_logs.ensures.reads others logs)

pub returns-in-Err-open_logs-clause-refused : goal.returns-in-Err-open_logs-clause-refused
returns-in-Err-open_logs-clause-refused g c told =
    let d = g.D.Disk in
    let f = g.D.File.DiskFile in
    let old = c.args.disk.now in
    let mid = c.open_tables.new.disk in
    let looks = c.in-Ok.ensures.looks in
    let fold = c.args.fold.now in
    let same = looks_folder d f IsTableName old mid looks told in
    let told_mid = subst IsTrue (sym (looks_told d f IsTableName old mid looks)) told in
    logs_files fold (d.stands old) (c.in-Ok.ensures.opened told).order c.in-Err-open_logs.fault (subst (λ (folder : Folder). RefusesLogs fold folder c.in-Err-open_logs.fault) same (c.in-Err-open_logs.ensures.refused told_mid))

pub returns-in-Ok-version_of-clause-shown : goal.returns-in-Ok-version_of-clause-shown
returns-in-Ok-version_of-clause-shown g c told =
    let d = g.D.Disk in
    let f = g.D.File.DiskFile in
    let old = c.args.disk.now in
    let mid = c.open_tables.new.disk in
    let looks = c.in-Ok.ensures.looks in
    let fold = c.args.fold.now in
    let same = looks_folder d f IsTableName old mid looks told in
    let told_mid = subst IsTrue (sym (looks_told d f IsTableName old mid looks)) told in
    let gathered = c.in-Ok-open_logs.logs.1 in
    let line = subst (λ (folder : Folder). AreInLine fold folder gathered) same (c.in-Ok-open_logs.ensures.line told_mid) in
    let version = c.in-Ok-version_of.version in
    let last = c.last_sequence-last.result in
    shown_from (d.stands old) fold c.in-Ok.opened.items gathered last version (c.in-Ok.ensures.opened told) line
    (subst (λ (w : List Version). ShowsVersion fold c.in-Ok.opened.items w last version) c.deref-2.ensures.value (subst (λ (os : List Opened). ShowsVersion fold os c.deref-2.result.now last version) c.deref.ensures.value c.in-Ok-version_of.ensures))
    c.last_sequence-last.ensures.over

pub returns-in-Ok-version_of-clause-newest : goal.returns-in-Ok-version_of-clause-newest
returns-in-Ok-version_of-clause-newest g c told =
    let d = g.D.Disk in
    let f = g.D.File.DiskFile in
    let old = c.args.disk.now in
    let mid = c.open_tables.new.disk in
    let looks = c.in-Ok.ensures.looks in
    let fold = c.args.fold.now in
    let same = looks_folder d f IsTableName old mid looks told in
    let told_mid = subst IsTrue (sym (looks_told d f IsTableName old mid looks)) told in
    newest_before d f IsTableName old mid fold c.in-Ok-open_logs.logs.0 looks told (c.in-Ok-open_logs.ensures.newest told_mid)

pub returns-in-Ok-version_of-clause-file_told : goal.returns-in-Ok-version_of-clause-file_told
returns-in-Ok-version_of-clause-file_told g c = c.in-Ok-open_logs.ensures.file_told ∙ looks_told g.D.Disk g.D.File.DiskFile IsTableName c.args.disk.now c.open_tables.new.disk c.in-Ok.ensures.looks

pub returns-in-Ok-version_of-clause-file_model : goal.returns-in-Ok-version_of-clause-file_model
returns-in-Ok-version_of-clause-file_model g c = c.in-Ok-open_logs.ensures.file_model ∙ looks_model g.D.Disk g.D.File.DiskFile IsTableName c.args.disk.now c.open_tables.new.disk c.in-Ok.ensures.looks

pub returns-in-Ok-version_of-clause-reads : goal.returns-in-Ok-version_of-clause-reads
returns-in-Ok-version_of-clause-reads g c others tables logs =
    let d = g.D.Disk in
    let f = g.D.File.DiskFile in
    let old = c.args.disk.now in
    let mid = c.open_tables.new.disk in
    let looks = c.in-Ok.ensures.looks in
    only_then d f (λ n. ⊥) (holding old others) (holding mid others) (holding c.open_logs.new.disk (c.in-Ok-open_logs.logs.0.log.file ∷ others)) (looks others tables) (c.in-Ok-open_logs.ensures.reads others logs)

pub returns-clause-reads : goal.returns-clause-reads
returns-clause-reads g c others tables logs =
    let d = g.D.Disk in
    let f = g.D.File.DiskFile in
    let disk_now = λ (x : _) (n : FileName) (image : Image) (left : d.left_since x (d.moment x) n image). (g.met.D.Disk g.world.𝓛 g.world.𝓜 g.world.𝓡 ((λ s x. x), (λ x. x), (λ x. x), λ x. x)).only_now x n image left in
    let file_now = λ (x : _) (image : Image) (left : f.left_since x (f.moment x) image). (g.met.D.File.DiskFile g.world.𝓛 g.world.𝓜 g.world.𝓡 ((λ s x. x), (λ x. x), (λ x. x), λ x. x)).only_now x image left in
    let old = c.args.disk.now in
    let mid = c.open_tables.new.disk in
    let two = c.open_logs.new.disk in
    let new = c.retire.new.self in
    let e = c.in-Ok-open_logs.ensures in
    let w = c.in-Ok-open_logs.logs.0.log.file in
    let r = c.retire.ensures in
    let back = c.into_file.result in
    let n = newest_log c.args.fold.now.logs in
    let giving : Giving d f two new back = record { touches = touches_one d _ (f.name back) two new (λ n apart. apart) r.others r.time r.told r.model; stands = r.stands; crash = r.crash } in
    let second = e.reads others logs in
    only_then d f (λ n. ⊥) (holding old others) (holding mid others) (holding new others) (c.in-Ok.ensures.looks others tables)
    (only_then d f (λ n. ⊥) (holding mid others) (holding two (w ∷ others)) (holding new others) second
    (return_step d f disk_now file_now others two new w (subst (Giving d f two new) c.into_file.ensures giving) (e.file_told ∙ sym second.told) (λ x held is. logs (Log n) (n, refl) x held (sym e.name ∙ is))))

pub returns-in-Ok-version_of-clause-fits : goal.returns-in-Ok-version_of-clause-fits
returns-in-Ok-version_of-clause-fits g c =
    let fold = c.args.fold.now in
    let last = c.last_sequence-last.result in
    let e = c.last_sequence-last.ensures in
    fits_from fold c.deref.result.now c.deref-2.result.now last c.in-Ok-version_of.version c.in-Ok-version_of.ensures e.low (e.within c.requires.usable.last c.in-Ok-open_logs.ensures.within)
