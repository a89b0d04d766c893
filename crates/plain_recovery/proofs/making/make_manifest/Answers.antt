use Rattle.std.proofs.Common.{◌≡◌, [], ◌∷◌, inl, inr, ◌∙◌, ap, sym, subst}
use Rattle.udt_disk.specs.Crash.{Image}
use Rattle.udt_disk.specs.Joint.{Folder}
use Rattle.udt_disk.specs.declared.name.FileName.{FileName}
use Rattle.udt_disk.specs.Moments.{alone, holding}
use Rattle.udt_disk.proofs.Moments.{Giving, ran_reads, now_reads, return_step}
use Rattle.udt_disk.proofs.TouchLemmas.{touches_one, touches_more, touches_then}
use Rattle.head_manifest.specs.Folders.{Means}
use Rattle.head_manifest.specs.Folders.Meaning.{store}
use Rattle.head_manifest.specs.Folds.{fold_of}
use Rattle.head_manifest.specs.Making.{IsStoreName, IsNoneOrAll}
use Rattle.plain_recovery.proofs.making.make_manifest.Goals as goal

pub returns-clause-moments : goal.returns-clause-moments
returns-clause-moments g c unmade =
    let d = g.D.Disk in
    let f = g.D.File.DiskFile in
    let disk_now = λ (x : _) (n : FileName) (image : Image) (left : d.left_since x (d.moment x) n image). (g.met.D.Disk g.world.𝓛 g.world.𝓜 g.world.𝓡 ((λ s x. x), (λ x. x), (λ x. x), λ x. x)).only_now x n image left in
    let file_now = λ (x : _) (image : Image) (left : f.left_since x (f.moment x) image). (g.met.D.File.DiskFile g.world.𝓛 g.world.𝓜 g.world.𝓡 ((λ s x. x), (λ x. x), (λ x. x), λ x. x)).only_now x image left in
    let old = c.args.disk.now in
    let mid = c.create.new.disk in
    let new = c.retire.new.self in
    let r = c.retire.ensures in
    let x = c.into_file.result in
    let give : Giving d f mid new x = record { touches = touches_one d _ (f.name x) mid new (λ n free. free) r.others r.time r.told r.model; stands = r.stands; crash = r.crash } in
    let m = c.in_ok-manifest.manifest.log.file in
    let same : x ≡ m = c.into_file.ensures in
    let e = c.in_ok-manifest.ensures in
    ran_reads d f (IsNoneOrAll d old c.args.head.now.families) (alone old) (holding mid (m ∷ [])) (alone new) (e.moments unmade)
    (return_step d f disk_now file_now [] mid new m (subst (Giving d f mid new) same give) (e.file_told ∙ sym e.touches.told) (λ z held. absurd held))

pub returns-clause-durable : goal.returns-clause-durable
returns-clause-durable g c unmade =
    let d = g.D.Disk in
    let f = g.D.File.DiskFile in
    let disk_now = λ (x : _) (n : FileName) (image : Image) (left : d.left_since x (d.moment x) n image). (g.met.D.Disk g.world.𝓛 g.world.𝓜 g.world.𝓡 ((λ s x. x), (λ x. x), (λ x. x), λ x. x)).only_now x n image left in
    let file_now = λ (x : _) (image : Image) (left : f.left_since x (f.moment x) image). (g.met.D.File.DiskFile g.world.𝓛 g.world.𝓜 g.world.𝓡 ((λ s x. x), (λ x. x), (λ x. x), λ x. x)).only_now x image left in
    let mid = c.create.new.disk in
    let new = c.retire.new.self in
    let r = c.retire.ensures in
    let x = c.into_file.result in
    let give : Giving d f mid new x = record { touches = touches_one d _ (f.name x) mid new (λ n free. free) r.others r.time r.told r.model; stands = r.stands; crash = r.crash } in
    let m = c.in_ok-manifest.manifest.log.file in
    let same : x ≡ m = c.into_file.ensures in
    let e = c.in_ok-manifest.ensures in
    now_reads d f (λ (folder : Folder). Means folder (store (fold_of c.args.head.now.families))) (holding mid (m ∷ [])) (alone new) (e.durable unmade)
    (return_step d f disk_now file_now [] mid new m (subst (Giving d f mid new) same give) (e.file_told ∙ sym e.touches.told) (λ z held. absurd held))

pub returns-clause-touches : goal.returns-clause-touches
returns-clause-touches g c told =
    let d = g.D.Disk in
    let f = g.D.File.DiskFile in
    let mid = c.create.new.disk in
    let new = c.retire.new.self in
    let r = c.retire.ensures in
    let x = c.into_file.result in
    let m = c.in_ok-manifest.manifest.log.file in
    let same : x ≡ m = c.into_file.ensures in
    let made = c.in_ok-manifest.ensures.made told in
    let back = touches_one d _ (f.name x) mid new (λ n free. free) r.others r.time r.told r.model in
    touches_then d IsStoreName c.args.disk.now mid new c.in_ok-manifest.ensures.touches
    (touches_more d (λ n. n ≡ f.name x) IsStoreName mid new (λ n is. inl (inr (is ∙ ap f.name same ∙ made.name))) back)
