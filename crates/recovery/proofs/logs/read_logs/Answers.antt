use Rattle.std.proofs.Common.{◌≡◌, ℕ, ◌+◌, List, ◌++◌, get_or, take, drop, refl, sym, ap, ◌∙◌, subst, arith}
use Rattle.std.specs.Prelude.{IsTrue, slice_index_or}
use Rattle.std.proofs.lemmas.List.{get_or_default, take_all}
use Rattle.udt_disk.specs.Joint.{Folder}
use Rattle.udt_disk.specs.declared.name.FileName.TheVariants.{Log}
use Rattle.wal.specs.Replays.{ReadsAs}
use Rattle.wal.specs.declared.numbered.Numbered.{Numbered}
use Rattle.manifest_fold.specs.declared.fold.FamilyFold.{FamilyFold}
use Rattle.engine_laws.specs.Logs.{versions_of}
use Rattle.manifest.specs.Folds.{sizes_of}
use Rattle.recovery.specs.Replayed.{IsGathered, IsLogName, IsNextWithin, RefusesLog, gap_behind, next_behind, above_through}
use Rattle.recovery.proofs.Logging.{is_new, logs_around, oldest_refused, taken_more}
use Rattle.recovery.proofs.Looking.{looks_folder, looks_more, looks_none, looks_then, looks_told}
use Rattle.recovery.proofs.Sequencing.{gathered_more, nothing_read}
use Rattle.recovery.proofs.logs.read_logs.Goals as goal

pub loop-number-init : goal.loop-number-init
loop-number-init g c = record {
  gathered = λ told. nothing_read c.args.fold.now (g.D.Disk.stands c.args.disk.now) c.new-gathered.result c.new-gathered.ensures.versions c.new-gathered.ensures.next c.new-gathered.ensures.gap;
  looks = looks_none g.D.Disk g.D.File.DiskFile IsLogName c.args.disk.now;
  within = subst IsNextWithin (sym c.new-gathered.ensures.next) tt;
  faults = refl;
}

pub loop-number-preserved : goal.loop-number-preserved
loop-number-preserved g c =
    let d = g.D.Disk in
    let f = g.D.File.DiskFile in
    let old = c.args.disk.now in
    let mid = c.loop-number.disk in
    let new = c.read_log.new.disk in
    let fold = c.args.fold.now in
    let oldest = c.args.oldest.now in
    let i = c.loop-number.number-index in
    let within = c.loop-number-test.true in
    let n = slice_index_or oldest i 0 in
    let at : n ≡ get_or oldest i n = get_or_default oldest i 0 n within in
    let inv = c.loop-number.invariant in
    let are = c.requires.oldest.1 in
    let e = c.in-Ok.ensures in
    let batches = c.in-Ok.batches.items in
    let deref : c.deref.result.now ≡ batches = c.deref.ensures.value in
    let added = c.in_ok-add.ensures in
    record {
      gathered = λ told.
          let told_mid = subst IsTrue (sym (looks_told d f IsLogName old mid inv.looks)) told in
          let so_far = inv.gathered told in
          let reads = subst (λ (folder : Folder). ReadsAs (sizes_of fold) batches (folder (Log n))) (looks_folder d f IsLogName old mid inv.looks told) (e.held told_mid) in
          subst (λ (ns : List ℕ). IsGathered fold (d.stands old) ns c.add.new.self) (sym (taken_more fold.logs oldest c.requires.oldest.0 i n are within at))
          (gathered_more so_far.logs (take i oldest) n batches (is_new fold.logs oldest c.requires.oldest.0 i n are within at c.requires.ascending) fold (d.stands old) c.loop-number.gathered c.add.new.self so_far refl reads (e.sequence told_mid)
          (added.versions ∙ ap (λ (fs : List FamilyFold). c.loop-number.gathered.versions.items ++ above_through fs (versions_of c.deref.result.now)) c.as_slice.ensures ∙ ap (λ (b : List Numbered). c.loop-number.gathered.versions.items ++ above_through fold.families (versions_of b)) deref)
          (added.next ∙ ap (next_behind c.loop-number.gathered.next) deref) (added.gap ∙ ap (gap_behind c.loop-number.gathered.gap c.loop-number.gathered.next n) deref));
      looks = looks_then d f IsLogName old mid new inv.looks (looks_more d f (λ m. m ≡ Log n) IsLogName mid new (λ m is. (n, is)) e.looks);
      within = added.within inv.within;
      faults = e.kept ∙ inv.faults;
    }

pub returns-clause-gathered : goal.returns-clause-gathered
returns-clause-gathered g c told =
    subst (λ (ns : List ℕ). IsGathered c.args.fold.now (g.D.Disk.stands c.args.disk.now) ns c.loop-number.gathered) (take_all c.loop-number.number-index c.args.oldest.now (omega arith)) (c.loop-number.invariant.gathered told)

pub returns-in-Err-clause-looks : goal.returns-in-Err-clause-looks
returns-in-Err-clause-looks g c =
    let d = g.D.Disk in
    let f = g.D.File.DiskFile in
    let old = c.args.disk.now in
    let mid = c.loop-number.disk in
    let new = c.read_log.new.disk in
    let n = slice_index_or c.args.oldest.now c.loop-number.number-index 0 in
    looks_then d f IsLogName old mid new c.loop-number.invariant.looks (looks_more d f (λ m. m ≡ Log n) IsLogName mid new (λ m is. (n, is)) c.in-Err.ensures.looks)

pub returns-in_err-add-clause-looks : goal.returns-in_err-add-clause-looks
returns-in_err-add-clause-looks g c =
    let d = g.D.Disk in
    let f = g.D.File.DiskFile in
    let old = c.args.disk.now in
    let mid = c.loop-number.disk in
    let new = c.read_log.new.disk in
    let n = slice_index_or c.args.oldest.now c.loop-number.number-index 0 in
    looks_then d f IsLogName old mid new c.loop-number.invariant.looks (looks_more d f (λ m. m ≡ Log n) IsLogName mid new (λ m is. (n, is)) c.in-Ok.ensures.looks)

pub returns-in-Err-clause-refused : goal.returns-in-Err-clause-refused
returns-in-Err-clause-refused g c told =
    let d = g.D.Disk in
    let f = g.D.File.DiskFile in
    let old = c.args.disk.now in
    let mid = c.loop-number.disk in
    let new = c.read_log.new.disk in
    let n = slice_index_or c.args.oldest.now c.loop-number.number-index 0 in
    let fold = c.args.fold.now in
    let oldest = c.args.oldest.now in
    let rest = c.requires.oldest.0 in
    let i = c.loop-number.number-index in
    let within = c.loop-number-test.true in
    let at : n ≡ get_or oldest i n = get_or_default oldest i 0 n within in
    let inv = c.loop-number.invariant in
    let so_far = inv.gathered told in
    let told_mid = subst IsTrue (sym (looks_told d f IsLogName old mid inv.looks)) told in
    let refused = subst (λ (folder : Folder). RefusesLog (sizes_of fold) (folder (Log n)) n c.in-Err.fault) (looks_folder d f IsLogName old mid inv.looks told) (c.in-Err.ensures.refused told_mid) in
    oldest_refused fold (d.stands old) (take i oldest) (drop (i + 1) oldest ++ rest) n so_far.logs (logs_around fold.logs oldest rest i n c.requires.oldest.1 within at) so_far.read c.in-Err.fault refused
