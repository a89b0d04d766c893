use Rattle.std.proofs.Common.{◌≡◌, [], ◌∷◌, ◌++◌, refl, sym, ap, ◌∙◌, subst}
use Rattle.std.specs.Prelude.{IsTrue}
use Rattle.udt_disk.specs.Crash.{Image}
use Rattle.udt_disk.specs.Joint.{Folder}
use Rattle.udt_disk.specs.Moments.{holding}
use Rattle.udt_disk.specs.declared.name.FileName.{FileName}
use Rattle.udt_disk.specs.declared.name.FileName.TheVariants.{Log}
use Rattle.udt_disk.proofs.Moments.{Giving, only_then, return_step}
use Rattle.udt_disk.proofs.TouchLemmas.{touches_one}
use Rattle.wal.specs.Replays.{ReadsAs}
use Rattle.manifest_fold.specs.Folds.{newest_log}
use Rattle.manifest.specs.Folds.{sizes_of}
use Rattle.engine_laws.proofs.Ascending.{newest_last}
use Rattle.recovery.specs.Replayed.{IsLogName, IsNewestOf, IsReplayed, RefusesLog}
use Rattle.recovery.proofs.Judging.{newest_refused, replayed_before}
use Rattle.recovery.proofs.Looking.{looks_folder, looks_model, looks_told}
use Rattle.recovery.proofs.logs.open_logs.Goals as goal

pub returns-in-Err-open_log-clause-reads : goal.returns-in-Err-open_log-clause-reads
returns-in-Err-open_log-clause-reads g c others free =
    let d = g.D.Disk in
    let f = g.D.File.DiskFile in
    let old = c.args.disk.now in
    let mid = c.read_logs.new.disk in
    let new = c.open_log.new.disk in
    let looks = c.in-Ok.ensures.looks in
    only_then d f (λ n. ⊥) (holding old others) (holding mid others) (holding new others) (looks others free) (c.in-Err-open_log.ensures.reads others (free (Log c.in-Some.newest.now) (c.in-Some.newest.now, refl)))

pub returns-in-Err-open_log-clause-refused : goal.returns-in-Err-open_log-clause-refused
returns-in-Err-open_log-clause-refused g c told =
    let d = g.D.Disk in
    let f = g.D.File.DiskFile in
    let old = c.args.disk.now in
    let mid = c.read_logs.new.disk in
    let new = c.open_log.new.disk in
    let looks = c.in-Ok.ensures.looks in
    let fold = c.args.fold.now in
    let newest = c.in-Some.newest.now in
    let oldest = c.in-Some.oldest.now in
    let are : fold.logs ≡ oldest ++ newest ∷ [] = sym c.as_slice.ensures ∙ c.in-Some.ensures.cases.0 in
    let same = looks_folder d f IsLogName old mid looks told in
    let told_mid = subst IsTrue (sym (looks_told d f IsLogName old mid looks)) told in
    let so_far = c.in-Ok.ensures.gathered told in
    newest_refused fold (d.stands old) oldest newest c.in-Ok.gathered are so_far c.in-Err-open_log.fault
    (subst (λ (folder : Folder). RefusesLog (sizes_of fold) (folder (Log newest)) newest c.in-Err-open_log.fault) same (c.in-Err-open_log.ensures.refused told_mid))

pub returns-in-Ok-with_newest-clause-line : goal.returns-in-Ok-with_newest-clause-line
returns-in-Ok-with_newest-clause-line g c told =
    let d = g.D.Disk in
    let f = g.D.File.DiskFile in
    let old = c.args.disk.now in
    let mid = c.read_logs.new.disk in
    let new = c.open_log.new.disk in
    let looks = c.in-Ok.ensures.looks in
    let fold = c.args.fold.now in
    let newest = c.in-Some.newest.now in
    let oldest = c.in-Some.oldest.now in
    let are : fold.logs ≡ oldest ++ newest ∷ [] = sym c.as_slice.ensures ∙ c.in-Some.ensures.cases.0 in
    let same = looks_folder d f IsLogName old mid looks told in
    let told_mid = subst IsTrue (sym (looks_told d f IsLogName old mid looks)) told in
    let so_far = c.in-Ok.ensures.gathered told in
    let batches = c.deref.result.now in
    let replayed : IsReplayed d f mid (sizes_of fold) newest c.in-Ok-open_log.opened.0 batches = subst (IsReplayed d f mid (sizes_of fold) newest c.in-Ok-open_log.opened.0) (sym c.deref.ensures.value) (c.in-Ok-open_log.ensures.replayed told_mid) in
    let all : IsNewestOf fold (d.stands old) oldest newest batches c.in-Ok.gathered = record {
      logs = are;
      rising = c.requires.ascending;
      so_far = so_far;
      held = subst (λ (folder : Folder). ReadsAs (sizes_of fold) batches (folder (Log newest))) same replayed.held;
      sequence = replayed.sequence;
    } in
    c.in-Ok-with_newest.ensures.line (d.stands old) oldest all

pub returns-in-Ok-with_newest-clause-newest : goal.returns-in-Ok-with_newest-clause-newest
returns-in-Ok-with_newest-clause-newest g c told =
    let d = g.D.Disk in
    let f = g.D.File.DiskFile in
    let old = c.args.disk.now in
    let mid = c.read_logs.new.disk in
    let new = c.open_log.new.disk in
    let looks = c.in-Ok.ensures.looks in
    let fold = c.args.fold.now in
    let newest = c.in-Some.newest.now in
    let oldest = c.in-Some.oldest.now in
    let are : fold.logs ≡ oldest ++ newest ∷ [] = sym c.as_slice.ensures ∙ c.in-Some.ensures.cases.0 in
    let same = looks_folder d f IsLogName old mid looks told in
    let told_mid = subst IsTrue (sym (looks_told d f IsLogName old mid looks)) told in
    let so_far = c.in-Ok.ensures.gathered told in
    let batches = c.deref.result.now in
    let replayed : IsReplayed d f mid (sizes_of fold) newest c.in-Ok-open_log.opened.0 batches = subst (IsReplayed d f mid (sizes_of fold) newest c.in-Ok-open_log.opened.0) (sym c.deref.ensures.value) (c.in-Ok-open_log.ensures.replayed told_mid) in
    let all : IsNewestOf fold (d.stands old) oldest newest batches c.in-Ok.gathered = record {
      logs = are;
      rising = c.requires.ascending;
      so_far = so_far;
      held = subst (λ (folder : Folder). ReadsAs (sizes_of fold) batches (folder (Log newest))) same replayed.held;
      sequence = replayed.sequence;
    } in
    record {
      batches = batches;
      replayed = replayed_before d f IsLogName old mid (sizes_of fold) newest (newest_log fold.logs) c.in-Ok-open_log.opened.0 batches looks told (sym (newest_last oldest newest) ∙ ap newest_log (sym are)) replayed;
    }

pub returns-in-Ok-with_newest-clause-file_told : goal.returns-in-Ok-with_newest-clause-file_told
returns-in-Ok-with_newest-clause-file_told g c = c.in-Ok-open_log.ensures.file_told ∙ looks_told g.D.Disk g.D.File.DiskFile IsLogName c.args.disk.now c.read_logs.new.disk c.in-Ok.ensures.looks

pub returns-in-Ok-with_newest-clause-file_model : goal.returns-in-Ok-with_newest-clause-file_model
returns-in-Ok-with_newest-clause-file_model g c = c.in-Ok-open_log.ensures.file_model ∙ looks_model g.D.Disk g.D.File.DiskFile IsLogName c.args.disk.now c.read_logs.new.disk c.in-Ok.ensures.looks

pub returns-in-Ok-with_newest-clause-reads : goal.returns-in-Ok-with_newest-clause-reads
returns-in-Ok-with_newest-clause-reads g c others free =
    let d = g.D.Disk in
    let f = g.D.File.DiskFile in
    let old = c.args.disk.now in
    let mid = c.read_logs.new.disk in
    let new = c.open_log.new.disk in
    let looks = c.in-Ok.ensures.looks in
    only_then d f (λ n. ⊥) (holding old others) (holding mid others) (holding new (c.in-Ok-open_log.opened.0.log.file ∷ others)) (looks others free) (c.in-Ok-open_log.ensures.reads others (free (Log c.in-Some.newest.now) (c.in-Some.newest.now, refl)))

pub returns-clause-reads : goal.returns-clause-reads
returns-clause-reads g c others free =
    let d = g.D.Disk in
    let f = g.D.File.DiskFile in
    let disk_now = λ (x : _) (n : FileName) (image : Image) (left : d.left_since x (d.moment x) n image). (g.met.D.Disk g.world.𝓛 g.world.𝓜 g.world.𝓡 ((λ s x. x), (λ x. x), (λ x. x), λ x. x)).only_now x n image left in
    let file_now = λ (x : _) (image : Image) (left : f.left_since x (f.moment x) image). (g.met.D.File.DiskFile g.world.𝓛 g.world.𝓜 g.world.𝓡 ((λ s x. x), (λ x. x), (λ x. x), λ x. x)).only_now x image left in
    let old = c.args.disk.now in
    let mid = c.read_logs.new.disk in
    let two = c.open_log.new.disk in
    let new = c.retire.new.self in
    let e = c.in-Ok-open_log.ensures in
    let w = c.in-Ok-open_log.opened.0.log.file in
    let r = c.retire.ensures in
    let back = c.into_file.result in
    let name = Log c.in-Some.newest.now in
    let giving : Giving d f two new back = record { touches = touches_one d _ (f.name back) two new (λ n apart. apart) r.others r.time r.told r.model; stands = r.stands; crash = r.crash } in
    only_then d f (λ n. ⊥) (holding old others) (holding mid others) (holding new others) (c.in-Ok.ensures.looks others free)
    (only_then d f (λ n. ⊥) (holding mid others) (holding two (w ∷ others)) (holding new others) (e.reads others (free name (c.in-Some.newest.now, refl)))
    (return_step d f disk_now file_now others two new w (subst (Giving d f two new) c.into_file.ensures giving) (e.file_told ∙ sym e.told) (λ x held is. free name (c.in-Some.newest.now, refl) x held (sym e.name ∙ is))))

pub returns-clause-refused : goal.returns-clause-refused
returns-clause-refused g c told =
    let d = g.D.Disk in
    let f = g.D.File.DiskFile in
    let old = c.args.disk.now in
    let mid = c.read_logs.new.disk in
    let new = c.open_log.new.disk in
    let looks = c.in-Ok.ensures.looks in
    let fold = c.args.fold.now in
    let newest = c.in-Some.newest.now in
    let oldest = c.in-Some.oldest.now in
    let are : fold.logs ≡ oldest ++ newest ∷ [] = sym c.as_slice.ensures ∙ c.in-Some.ensures.cases.0 in
    let same = looks_folder d f IsLogName old mid looks told in
    let told_mid = subst IsTrue (sym (looks_told d f IsLogName old mid looks)) told in
    let so_far = c.in-Ok.ensures.gathered told in
    let batches = c.deref.result.now in
    let replayed : IsReplayed d f mid (sizes_of fold) newest c.in-Ok-open_log.opened.0 batches = subst (IsReplayed d f mid (sizes_of fold) newest c.in-Ok-open_log.opened.0) (sym c.deref.ensures.value) (c.in-Ok-open_log.ensures.replayed told_mid) in
    let all : IsNewestOf fold (d.stands old) oldest newest batches c.in-Ok.gathered = record {
      logs = are;
      rising = c.requires.ascending;
      so_far = so_far;
      held = subst (λ (folder : Folder). ReadsAs (sizes_of fold) batches (folder (Log newest))) same replayed.held;
      sequence = replayed.sequence;
    } in
    c.in-Err-with_newest.ensures.refused (d.stands old) oldest all
