use Rattle.std.specs.Prelude.{IsTrue}
use Rattle.std.proofs.Common.{◌≡◌, [], ◌∷◌, Some, inl, inr, ◌∙◌, ap, sym, subst}
use Rattle.udt_disk.specs.Crash.{Image}
use Rattle.udt_disk.specs.Joint.{Folder}
use Rattle.udt_disk.specs.declared.name.FileName.{FileName}
use Rattle.udt_disk.specs.declared.name.FileName.TheVariants.{Current, Made, Manifest0}
use Rattle.udt_disk.specs.Moments.{alone, holding}
use Rattle.udt_disk.proofs.Moments.{Giving, ran_reads, now_reads, return_step}
use Rattle.udt_disk.proofs.TouchLemmas.{touches_one, touches_more, touches_then}
use Rattle.manifest_fold.specs.declared.fold.Folded.{Folded}
use Rattle.manifest.specs.Files.{HasFold}
use Rattle.manifest.specs.Folders.{Means, chosen_by}
use Rattle.manifest.specs.Folders.Meaning.{store}
use Rattle.manifest.specs.Folds.{fold_of}
use Rattle.manifest.specs.Making.{IsStoreName, IsNoneOrAll}
use Rattle.manifest.proofs.Edits.{rests_show, shows_fold}
use Rattle.recovery.proofs.NewStores.{made_means, made_isn't_first, current_isn't_first}
use Rattle.recovery.proofs.making.make_manifest.Goals as goal

pub returns-clause-moments : goal.returns-clause-moments
returns-clause-moments g c unmade =
    let d = g.D.Disk in
    let f = g.D.File.DiskFile in
    let disk_now = λ (x : _) (n : FileName) (image : Image) (left : d.left_since x (d.moment x) n image). (g.met.D.Disk g.world.𝓛 g.world.𝓜 g.world.𝓡 ((λ s x. x), (λ x. x), (λ x. x), λ x. x)).only_now x n image left in
    let file_now = λ (x : _) (image : Image) (left : f.left_since x (f.moment x) image). (g.met.D.File.DiskFile g.world.𝓛 g.world.𝓜 g.world.𝓡 ((λ s x. x), (λ x. x), (λ x. x), λ x. x)).only_now x image left in
    let old = c.args.disk.now in
    let mid = c.create.new.disk in
    let new = c.retire.new.self in
    let r = c.retire.ensures in
    let x = c.into_file.result in
    let give : Giving d f mid new x = record { touches = touches_one d _ (f.name x) mid new (λ n free. free) r.others r.time r.told r.model; stands = r.stands; crash = r.crash } in
    let m = c.in_ok-manifest.manifest.edits.log.file in
    let same : x ≡ m = c.into_file.ensures in
    let e = c.in_ok-manifest.ensures in
    ran_reads d f (IsNoneOrAll d old c.args.head.now.families) (alone old) (holding mid (m ∷ [])) (alone new) (e.moments unmade)
    (return_step d f disk_now file_now [] mid new m (subst (Giving d f mid new) same give) (e.file_told ∙ sym e.touches.told) (λ z held. absurd held))

pub returns-clause-durable : goal.returns-clause-durable
returns-clause-durable g c unmade =
    let d = g.D.Disk in
    let f = g.D.File.DiskFile in
    let disk_now = λ (x : _) (n : FileName) (image : Image) (left : d.left_since x (d.moment x) n image). (g.met.D.Disk g.world.𝓛 g.world.𝓜 g.world.𝓡 ((λ s x. x), (λ x. x), (λ x. x), λ x. x)).only_now x n image left in
    let file_now = λ (x : _) (image : Image) (left : f.left_since x (f.moment x) image). (g.met.D.File.DiskFile g.world.𝓛 g.world.𝓜 g.world.𝓡 ((λ s x. x), (λ x. x), (λ x. x), λ x. x)).only_now x image left in
    let mid = c.create.new.disk in
    let new = c.retire.new.self in
    let r = c.retire.ensures in
    let x = c.into_file.result in
    let give : Giving d f mid new x = record { touches = touches_one d _ (f.name x) mid new (λ n free. free) r.others r.time r.told r.model; stands = r.stands; crash = r.crash } in
    let m = c.in_ok-manifest.manifest.edits.log.file in
    let same : x ≡ m = c.into_file.ensures in
    let e = c.in_ok-manifest.ensures in
    now_reads d f (λ (folder : Folder). Means folder (store (fold_of c.args.head.now.families))) (holding mid (m ∷ [])) (alone new) (e.durable unmade)
    (return_step d f disk_now file_now [] mid new m (subst (Giving d f mid new) same give) (e.file_told ∙ sym e.touches.told) (λ z held. absurd held))

pub returns-clause-touches : goal.returns-clause-touches
returns-clause-touches g c told =
    let d = g.D.Disk in
    let f = g.D.File.DiskFile in
    let mid = c.create.new.disk in
    let new = c.retire.new.self in
    let r = c.retire.ensures in
    let x = c.into_file.result in
    let m = c.in_ok-manifest.manifest.edits.log.file in
    let same : x ≡ m = c.into_file.ensures in
    let made = c.in_ok-manifest.ensures.made told in
    let back = touches_one d _ (f.name x) mid new (λ n free. free) r.others r.time r.told r.model in
    touches_then d IsStoreName c.args.disk.now mid new c.in_ok-manifest.ensures.touches
    (touches_more d (λ n. n ≡ f.name x) IsStoreName mid new (λ n is. inl (inr (is ∙ ap f.name same ∙ made.name))) back)

pub returns-clause-made : goal.returns-clause-made
returns-clause-made g c told =
    let d = g.D.Disk in
    let f = g.D.File.DiskFile in
    let mid = c.create.new.disk in
    let new = c.retire.new.self in
    let x = c.into_file.result in
    let manifest = c.in_ok-manifest.manifest in
    let m = manifest.edits.log.file in
    let same : x ≡ m = c.into_file.ensures in
    let e = c.in_ok-manifest.ensures in
    let made = e.made told in
    let name : f.name x ≡ Manifest0 = ap f.name same ∙ made.name in
    let told_mid = subst IsTrue (sym e.touches.told) told in
    let told_file = subst IsTrue (sym (ap f.is_told same ∙ e.file_told)) told in
    let first : d.stands new Manifest0 ≡ Some (f.seen m) = subst (λ (n : FileName). d.stands new n ≡ Some (f.seen x)) name (c.retire.ensures.stands told_mid told_file) ∙ ap (λ y. Some (f.seen y)) same in
    let others = c.retire.ensures.others.same in
    let has = subst (λ (fold : Folded). HasFold (Some (f.seen m)) fold) made.fold (shows_fold f manifest (rests_show f manifest made.rests)) in
    made_means c.args.head.now.families (d.stands new) (f.seen m) (others Made (λ is. made_isn't_first (is ∙ name)) ∙ made.made)
    (ap chosen_by (others Current (λ is. current_isn't_first (is ∙ name))) ∙ made.chosen) first has
