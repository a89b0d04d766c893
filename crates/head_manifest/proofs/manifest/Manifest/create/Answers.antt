use Rattle.std.proofs.Common.{◌≡◌, List, [], ◌∷◌, Some, refl, sym, ap, ◌∙◌, subst}
use Rattle.std.specs.Prelude.{IsTrue}
use Rattle.udt_disk.specs.Crash.{Image}
use Rattle.udt_disk.specs.Joint.{Ran}
use Rattle.udt_disk.specs.declared.name.FileName.{FileName}
use Rattle.udt_disk.specs.declared.name.FileName.TheVariants.{Manifest0, Current, Made}
use Rattle.udt_disk.specs.Moments.{holding, alone}
use Rattle.udt_disk.proofs.Moments.{Giving, disk_step, take_step}
use Rattle.udt_disk.proofs.TouchLemmas.{touches_one}
use Rattle.gate_log.specs.Frames.{IsBody}
use Rattle.head_manifest.specs.Files.{HasFold}
use Rattle.head_manifest.specs.Folders.{chosen_by}
use Rattle.head_manifest.specs.Folds.{fold_of}
use Rattle.head_manifest.specs.Making.{IsNoneOrAll}
use Rattle.head_manifest.proofs.Makes.{current_isn't_first, none_or_all, unmade_beside, at_rest_now, first_step, second_step, third_step, gives_back, all_there, head_of, has_fold, early_names}
use Rattle.head_manifest.proofs.Files.{none_made}
use Rattle.head_manifest.proofs.Sizes.{head_fits}
use Rattle.head_manifest.proofs.manifest.Manifest.create.Goals as goal

pub make_log-requires-after_bounds : goal.make_log-requires-after_bounds
make_log-requires-after_bounds g c lifetimes bounds =
    let slice = c.as_slice.result.now in
    let same = c.as_slice.ensures in
    subst IsBody (sym (c.deref.ensures.value ∙ c.in-Ok.ensures.text)) (head_fits slice c.in-Ok.ensures.named (rw same c.requires.few))

pub returns-in_default-clause-moments : goal.returns-in_default-clause-moments
returns-in_default-clause-moments g c unmade =
    let d = g.D.Disk in
    let f = g.F.DiskFile in
    let disk_now = λ (x : _) (n : FileName) (image : Image) (left : d.left_since x (d.moment x) n image). (g.met.D.Disk g.world.𝓛 g.world.𝓜 g.world.𝓡 ((λ s x. x), (λ x. x), (λ x. x), λ x. x)).only_now x n image left in
    let file_now = λ (x : _) (image : Image) (left : f.left_since x (f.moment x) image). (g.met.F.DiskFile g.world.𝓛 g.world.𝓜 g.world.𝓡 ((λ s x. x), (λ x. x), (λ x. x), λ x. x)).only_now x image left in
    at_rest_now d f disk_now file_now c.args.head.now.families c.args.disk.now unmade

pub returns-in-Err-clause-moments : goal.returns-in-Err-clause-moments
returns-in-Err-clause-moments g c unmade =
    let d = g.D.Disk in
    let f = g.F.DiskFile in
    let disk_now = λ (x : _) (n : FileName) (image : Image) (left : d.left_since x (d.moment x) n image). (g.met.D.Disk g.world.𝓛 g.world.𝓜 g.world.𝓡 ((λ s x. x), (λ x. x), (λ x. x), λ x. x)).only_now x n image left in
    let file_now = λ (x : _) (image : Image) (left : f.left_since x (f.moment x) image). (g.met.F.DiskFile g.world.𝓛 g.world.𝓜 g.world.𝓡 ((λ s x. x), (λ x. x), (λ x. x), λ x. x)).only_now x image left in
    first_step d f disk_now file_now c.args.head.now.families c.args.disk.now unmade c.empty_current.new.disk c.empty_current.ensures.touches

pub returns-in_err-log-clause-moments : goal.returns-in_err-log-clause-moments
returns-in_err-log-clause-moments g c unmade =
    let d = g.D.Disk in
    let f = g.F.DiskFile in
    let disk_now = λ (x : _) (n : FileName) (image : Image) (left : d.left_since x (d.moment x) n image). (g.met.D.Disk g.world.𝓛 g.world.𝓜 g.world.𝓡 ((λ s x. x), (λ x. x), (λ x. x), λ x. x)).only_now x n image left in
    let file_now = λ (x : _) (image : Image) (left : f.left_since x (f.moment x) image). (g.met.F.DiskFile g.world.𝓛 g.world.𝓜 g.world.𝓡 ((λ s x. x), (λ x. x), (λ x. x), λ x. x)).only_now x image left in
    let families = c.args.head.now.families in
    let zero = c.args.disk.now in
    let one = c.empty_current.new.disk in
    let two = c.make_log.new.disk in
    let second = second_step d f disk_now file_now families zero unmade one (alone two) c.empty_current.ensures.touches (disk_step d f disk_now file_now [] (λ n. n ≡ Manifest0) one two c.make_log.ensures.touches) in
    subst (λ (files : List g.row.F.Denot). Ran d f (IsNoneOrAll d zero families) (alone zero) (holding two files)) (sym (none_made c.from_residual.result c.from_residual.ensures.0)) second

pub returns-in-Ok-make_empty-clause-moments : goal.returns-in-Ok-make_empty-clause-moments
returns-in-Ok-make_empty-clause-moments g c unmade =
    let d = g.D.Disk in
    let f = g.F.DiskFile in
    let disk_now = λ (x : _) (n : FileName) (image : Image) (left : d.left_since x (d.moment x) n image). (g.met.D.Disk g.world.𝓛 g.world.𝓜 g.world.𝓡 ((λ s x. x), (λ x. x), (λ x. x), λ x. x)).only_now x n image left in
    let file_now = λ (x : _) (image : Image) (left : f.left_since x (f.moment x) image). (g.met.F.DiskFile g.world.𝓛 g.world.𝓜 g.world.𝓡 ((λ s x. x), (λ x. x), (λ x. x), λ x. x)).only_now x image left in
    let families = c.args.head.now.families in
    let zero = c.args.disk.now in
    let one = c.empty_current.new.disk in
    let two = c.make_log.new.disk in
    let three = c.make_empty.new.disk in
    let m = c.in_ok-log.log.file in
    let made = c.in_ok-log.ensures in
    let second = second_step d f disk_now file_now families zero unmade one (holding two (m ∷ [])) c.empty_current.ensures.touches (take_step d f disk_now file_now [] (λ n. n ≡ Manifest0) one two m c.make_log.ensures.touches made.name) in
    let touched = early_names d zero one two c.empty_current.ensures.touches c.make_log.ensures.touches in
    let current : (image : Image) → d.may_leave two Current image → chosen_by image ≡ Manifest0 = λ image left. c.in-Ok-empty_current.ensures.durable unmade.told unmade.current image (c.make_log.ensures.touches.no_more Current image (λ is. cc) left) in
    let rest = made.at_rest (subst IsTrue (sym c.empty_current.ensures.touches.told) unmade.told) in
    let head = head_of families c.as_slice.result.now c.deref.result.now c.in-Ok.body.items c.requires c.as_slice.ensures c.in-Ok.ensures.text c.in-Ok.ensures.named c.deref.ensures.value in
    let fold = has_fold (f.seen m) c.deref.result.now families rest.logged.file head in
    let file : (image : Image) → f.may_leave m image → HasFold image (fold_of families) = λ image left. subst (λ (k : Image). HasFold k (fold_of families)) (sym (rest.durable image left)) fold in
    third_step d f disk_now file_now families zero unmade two m touched made.name current file (holding three (m ∷ [])) (disk_step d f disk_now file_now (m ∷ []) (λ n. n ≡ Made) two three c.make_empty.ensures.touches) second

pub returns-in-Ok-make_empty-clause-durable : goal.returns-in-Ok-make_empty-clause-durable
returns-in-Ok-make_empty-clause-durable g c unmade =
    let d = g.D.Disk in
    let f = g.F.DiskFile in
    let disk_now = λ (x : _) (n : FileName) (image : Image) (left : d.left_since x (d.moment x) n image). (g.met.D.Disk g.world.𝓛 g.world.𝓜 g.world.𝓡 ((λ s x. x), (λ x. x), (λ x. x), λ x. x)).only_now x n image left in
    let file_now = λ (x : _) (image : Image) (left : f.left_since x (f.moment x) image). (g.met.F.DiskFile g.world.𝓛 g.world.𝓜 g.world.𝓡 ((λ s x. x), (λ x. x), (λ x. x), λ x. x)).only_now x image left in
    let families = c.args.head.now.families in
    let zero = c.args.disk.now in
    let one = c.empty_current.new.disk in
    let two = c.make_log.new.disk in
    let three = c.make_empty.new.disk in
    let m = c.in_ok-log.log.file in
    let made = c.in_ok-log.ensures in
    let second = second_step d f disk_now file_now families zero unmade one (holding two (m ∷ [])) c.empty_current.ensures.touches (take_step d f disk_now file_now [] (λ n. n ≡ Manifest0) one two m c.make_log.ensures.touches made.name) in
    let touched = early_names d zero one two c.empty_current.ensures.touches c.make_log.ensures.touches in
    let current : (image : Image) → d.may_leave two Current image → chosen_by image ≡ Manifest0 = λ image left. c.in-Ok-empty_current.ensures.durable unmade.told unmade.current image (c.make_log.ensures.touches.no_more Current image (λ is. cc) left) in
    let rest = made.at_rest (subst IsTrue (sym c.empty_current.ensures.touches.told) unmade.told) in
    let head = head_of families c.as_slice.result.now c.deref.result.now c.in-Ok.body.items c.requires c.as_slice.ensures c.in-Ok.ensures.text c.in-Ok.ensures.named c.deref.ensures.value in
    let fold = has_fold (f.seen m) c.deref.result.now families rest.logged.file head in
    let file : (image : Image) → f.may_leave m image → HasFold image (fold_of families) = λ image left. subst (λ (k : Image). HasFold k (fold_of families)) (sym (rest.durable image left)) fold in
    let told = subst IsTrue (sym touched.told) unmade.told in
    all_there d f disk_now file_now families zero unmade two m touched made.name current file three c.make_empty.ensures.touches (c.in-Ok-make_empty.ensures.durable told)

pub returns-clause-moments : goal.returns-clause-moments
returns-clause-moments g c unmade =
    let d = g.D.Disk in
    let f = g.F.DiskFile in
    let disk_now = λ (x : _) (n : FileName) (image : Image) (left : d.left_since x (d.moment x) n image). (g.met.D.Disk g.world.𝓛 g.world.𝓜 g.world.𝓡 ((λ s x. x), (λ x. x), (λ x. x), λ x. x)).only_now x n image left in
    let file_now = λ (x : _) (image : Image) (left : f.left_since x (f.moment x) image). (g.met.F.DiskFile g.world.𝓛 g.world.𝓜 g.world.𝓡 ((λ s x. x), (λ x. x), (λ x. x), λ x. x)).only_now x image left in
    let families = c.args.head.now.families in
    let zero = c.args.disk.now in
    let one = c.empty_current.new.disk in
    let two = c.make_log.new.disk in
    let three = c.make_empty.new.disk in
    let m = c.in_ok-log.log.file in
    let made = c.in_ok-log.ensures in
    let second = second_step d f disk_now file_now families zero unmade one (holding two (m ∷ [])) c.empty_current.ensures.touches (take_step d f disk_now file_now [] (λ n. n ≡ Manifest0) one two m c.make_log.ensures.touches made.name) in
    let touched = early_names d zero one two c.empty_current.ensures.touches c.make_log.ensures.touches in
    let current : (image : Image) → d.may_leave two Current image → chosen_by image ≡ Manifest0 = λ image left. c.in-Ok-empty_current.ensures.durable unmade.told unmade.current image (c.make_log.ensures.touches.no_more Current image (λ is. cc) left) in
    let rest = made.at_rest (subst IsTrue (sym c.empty_current.ensures.touches.told) unmade.told) in
    let head = head_of families c.as_slice.result.now c.deref.result.now c.in-Ok.body.items c.requires c.as_slice.ensures c.in-Ok.ensures.text c.in-Ok.ensures.named c.deref.ensures.value in
    let fold = has_fold (f.seen m) c.deref.result.now families rest.logged.file head in
    let file : (image : Image) → f.may_leave m image → HasFold image (fold_of families) = λ image left. subst (λ (k : Image). HasFold k (fold_of families)) (sym (rest.durable image left)) fold in
    let x = c.into_file.result in
    let r = c.retire.ensures in
    let new = c.retire.new.self in
    let same : x ≡ m = c.into_file.ensures in
    let giving : Giving d f three new x = record { touches = touches_one d _ (f.name x) three new (λ n free. free) r.others r.time r.told r.model; stands = r.stands; crash = r.crash } in
    third_step d f disk_now file_now families zero unmade two m touched made.name current file (alone new)
    (gives_back d f disk_now file_now families zero unmade two m touched made.name current file three new c.make_empty.ensures.touches (subst (Giving d f three new) same giving) (made.file_told ∙ sym c.make_log.ensures.touches.told ∙ sym c.make_empty.ensures.touches.told)) second

pub returns-in_err-log-clause-unmade : goal.returns-in_err-log-clause-unmade
returns-in_err-log-clause-unmade g c is unmade =
    unmade_beside g.D.Disk Manifest0 c.empty_current.new.disk c.make_log.new.disk (λ is. cc) (λ is. cc) (c.in-Ok-empty_current.ensures.unmade unmade) c.make_log.ensures.touches

pub returns-clause-stopped : goal.returns-clause-stopped
returns-clause-stopped g c told none =
    let d = g.D.Disk in
    let f = g.F.DiskFile in
    let families = c.args.head.now.families in
    let m = c.in_ok-log.log.file in
    let made = c.in_ok-log.ensures in
    let x = c.into_file.result in
    let new = c.retire.new.self in
    let same : x ≡ m = c.into_file.ensures in
    let told_one = subst IsTrue (sym c.empty_current.ensures.touches.told) told in
    let told_three = subst IsTrue (sym (c.make_empty.ensures.touches.told ∙ c.make_log.ensures.touches.told)) told_one in
    let head = head_of families c.as_slice.result.now c.deref.result.now c.in-Ok.body.items c.requires c.as_slice.ensures c.in-Ok.ensures.text c.in-Ok.ensures.named c.deref.ensures.value in
    let fold = has_fold (f.seen m) c.deref.result.now families (made.at_rest told_one).logged.file head in
    let name : f.name x ≡ Manifest0 = ap f.name same ∙ made.name in
    let file_told = subst IsTrue (sym (ap f.is_told same ∙ made.file_told)) told_one in
    let first : d.stands new Manifest0 ≡ Some (f.seen m) = subst (λ (n : FileName). d.stands new n ≡ Some (f.seen x)) name (c.retire.ensures.stands told_three file_told) ∙ ap (λ (y : g.row.F.Denot). Some (f.seen y)) same in
    let current : d.stands new Current ≡ d.stands c.empty_current.new.disk Current =
    c.retire.ensures.others.same Current (λ is. current_isn't_first (is ∙ name)) ∙ c.make_empty.ensures.touches.same Current (λ is. cc) ∙ c.make_log.ensures.touches.same Current (λ is. cc) in
    none_or_all (d.stands new) families (d.stands new Made) refl (ap chosen_by current ∙ c.in-Ok-empty_current.ensures.chooses told) (subst (λ (k : Image). HasFold k (fold_of families)) (sym first) fold)
