use Rattle.std.proofs.Common.{◌≡◌, inl, inr, ⊎_elim, ◌∙◌, sym, subst}
use Rattle.std.specs.Prelude.{IsTrue}
use Rattle.std.proofs.lemmas.Result.{on_ok_weaker, on_err_weaker}
use Rattle.udt_disk.specs.Crash.{Image}
use Rattle.udt_disk.specs.declared.name.FileName.{FileName}
use Rattle.udt_disk.specs.declared.name.FileName.TheVariants.{Log, Made}
use Rattle.udt_disk.proofs.TouchLemmas.{touches_nothing, touches_more, touches_then}
use Rattle.manifest.specs.Making.{IsStoreName}
use Rattle.recovery.specs.Making.{IsMakingName}
use Rattle.recovery.proofs.NewStores.{new_store, log_isn't_touched, at_rest, log_step, still_unmade, manifest_step, all_there}
use Rattle.recovery.proofs.making.make_files.Goals as goal

pub returns-in_default-clause-moments : goal.returns-in_default-clause-moments
returns-in_default-clause-moments g c unmade = at_rest g.D.Disk g.D.File.DiskFile c.args.head.now.families c.args.disk.now unmade

pub returns-in_err-make_first_log-clause-moments : goal.returns-in_err-make_first_log-clause-moments
returns-in_err-make_first_log-clause-moments g c unmade =
    let d = g.D.Disk in
    let f = g.D.File.DiskFile in
    let disk_now = λ (x : _) (n : FileName) (image : Image) (left : d.left_since x (d.moment x) n image). (g.met.D.Disk g.world.𝓛 g.world.𝓜 g.world.𝓡 ((λ s x. x), (λ x. x), (λ x. x), λ x. x)).only_now x n image left in
    let file_now = λ (x : _) (image : Image) (left : f.left_since x (f.moment x) image). (g.met.D.File.DiskFile g.world.𝓛 g.world.𝓜 g.world.𝓡 ((λ s x. x), (λ x. x), (λ x. x), λ x. x)).only_now x image left in
    log_step d f c.args.head.now.families disk_now file_now c.args.disk.now c.make_first_log.new.disk unmade c.make_first_log.ensures.touches

pub returns-clause-made : goal.returns-clause-made
returns-clause-made g c =
    let d = g.D.Disk in
    let new = c.make_manifest.new.disk in
    on_ok_weaker c.make_manifest.result
    (λ made told.
    let now = subst IsTrue (sym c.make_first_log.ensures.touches.told) told in
    new_store (d.stands new) c.args.head.now.families (made now) ((c.make_manifest.ensures.touches now).same (Log 1) log_isn't_touched ∙ c.in_ok-make_first_log.ensures.made told))
    c.make_manifest.ensures.made

pub returns-clause-stopped : goal.returns-clause-stopped
returns-clause-stopped g c =
    let d = g.D.Disk in
    let new = c.make_manifest.new.disk in
    on_err_weaker c.make_manifest.result
    (λ stopped told none.
    let now = subst IsTrue (sym c.make_first_log.ensures.touches.told) told in
    ⊎_elim (λ still. inl still)
    (λ means. inr (new_store (d.stands new) c.args.head.now.families means ((c.make_manifest.ensures.touches now).same (Log 1) log_isn't_touched ∙ c.in_ok-make_first_log.ensures.made told)))
    (stopped now (c.make_first_log.ensures.touches.same Made (λ is. cc) ∙ none)))
    c.make_manifest.ensures.stopped

pub returns-clause-moments : goal.returns-clause-moments
returns-clause-moments g c unmade =
    let d = g.D.Disk in
    let f = g.D.File.DiskFile in
    let disk_now = λ (x : _) (n : FileName) (image : Image) (left : d.left_since x (d.moment x) n image). (g.met.D.Disk g.world.𝓛 g.world.𝓜 g.world.𝓡 ((λ s x. x), (λ x. x), (λ x. x), λ x. x)).only_now x n image left in
    let file_now = λ (x : _) (image : Image) (left : f.left_since x (f.moment x) image). (g.met.D.File.DiskFile g.world.𝓛 g.world.𝓜 g.world.𝓡 ((λ s x. x), (λ x. x), (λ x. x), λ x. x)).only_now x image left in
    manifest_step d f c.args.head.now.families disk_now file_now c.args.disk.now c.make_first_log.new.disk unmade c.make_first_log.ensures.touches c.make_manifest.new.disk (c.in_ok-make_first_log.ensures.durable unmade.told) c.make_manifest.ensures.moments

pub returns-clause-durable : goal.returns-clause-durable
returns-clause-durable g c unmade =
    let d = g.D.Disk in
    let f = g.D.File.DiskFile in
    let disk_now = λ (x : _) (n : FileName) (image : Image) (left : d.left_since x (d.moment x) n image). (g.met.D.Disk g.world.𝓛 g.world.𝓜 g.world.𝓡 ((λ s x. x), (λ x. x), (λ x. x), λ x. x)).only_now x n image left in
    let file_now = λ (x : _) (image : Image) (left : f.left_since x (f.moment x) image). (g.met.D.File.DiskFile g.world.𝓛 g.world.𝓜 g.world.𝓡 ((λ s x. x), (λ x. x), (λ x. x), λ x. x)).only_now x image left in
    let old = c.args.disk.now in
    let mid = c.make_first_log.new.disk in
    let new = c.make_manifest.new.disk in
    let families = c.args.head.now.families in
    let log = c.make_first_log.ensures in
    let now = subst IsTrue (sym log.touches.told) unmade.told in
    on_ok_weaker c.make_manifest.result
    (λ means. all_there d f families disk_now file_now old mid unmade log.touches new (c.in_ok-make_first_log.ensures.durable unmade.told) (c.make_manifest.ensures.touches now) means)
    (c.make_manifest.ensures.durable (still_unmade d f families old mid unmade log.touches))

pub returns-in_default-clause-touches : goal.returns-in_default-clause-touches
returns-in_default-clause-touches g c told = touches_nothing g.D.Disk IsMakingName c.args.disk.now

pub returns-in_err-make_first_log-clause-touches : goal.returns-in_err-make_first_log-clause-touches
returns-in_err-make_first_log-clause-touches g c told = touches_more g.D.Disk (λ n. n ≡ Log 1) IsMakingName c.args.disk.now c.make_first_log.new.disk (λ n is. inr is) c.make_first_log.ensures.touches

pub returns-clause-touches : goal.returns-clause-touches
returns-clause-touches g c told =
    let d = g.D.Disk in
    let old = c.args.disk.now in
    let mid = c.make_first_log.new.disk in
    let new = c.make_manifest.new.disk in
    let log = c.make_first_log.ensures.touches in
    let manifest = c.make_manifest.ensures.touches (subst IsTrue (sym log.told) told) in
    touches_then d IsMakingName old mid new (touches_more d (λ n. n ≡ Log 1) IsMakingName old mid (λ n is. inr is) log) (touches_more d IsStoreName IsMakingName mid new (λ n is. inl is) manifest)

pub returns-in_err-make_first_log-clause-unmade : goal.returns-in_err-make_first_log-clause-unmade
returns-in_err-make_first_log-clause-unmade g c is unmade =
    still_unmade g.D.Disk g.D.File.DiskFile c.args.head.now.families c.args.disk.now c.make_first_log.new.disk unmade c.make_first_log.ensures.touches

pub returns-clause-unmade : goal.returns-clause-unmade
returns-clause-unmade g c is unmade =
    c.make_manifest.ensures.unmade is (still_unmade g.D.Disk g.D.File.DiskFile c.args.head.now.families c.args.disk.now c.make_first_log.new.disk unmade c.make_first_log.ensures.touches)
