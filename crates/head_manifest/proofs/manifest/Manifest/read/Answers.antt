use Rattle.std.proofs.Common.{◌≡◌, List, [], ◌∷◌, sym, ap, ◌∙◌, subst}
use Rattle.std.specs.Prelude.{Some, IsTrue}
use Rattle.udt_disk.specs.Crash.{Image}
use Rattle.udt_disk.specs.Touches.{Touches}
use Rattle.udt_disk.specs.declared.name.FileName.{FileName}
use Rattle.udt_disk.specs.declared.name.FileName.TheVariants.{Current, Made}
use Rattle.udt_disk.specs.Moments.{OnlyReads, alone, holding}
use Rattle.udt_disk.proofs.Moments.{only_then, stands_all, disk_step, open_step, read_step, look_step}
use Rattle.udt_disk.proofs.TouchLemmas.{touches_one, touches_then, touches_none}
use Rattle.gate_log.specs.Frames.{IsLog}
use Rattle.head_manifest.specs.Folders.{chosen, chosen_by}
use Rattle.head_manifest.proofs.Files.{none_read}
use Rattle.head_manifest.proofs.Makes.{read_names}
use Rattle.head_manifest.proofs.Meanings.{made_there, refused_once, found_once}
use Rattle.head_manifest.proofs.manifest.Manifest.read.Goals as goal

pub returns-in_err-name-clause-reads : goal.returns-in_err-name-clause-reads
returns-in_err-name-clause-reads g c =
    let d = g.D.Disk in
    let f = g.F.DiskFile in
    let disk_now = λ (x : _) (n : FileName) (image : Image) (left : d.left_since x (d.moment x) n image). (g.met.D.Disk g.world.𝓛 g.world.𝓜 g.world.𝓡 ((λ s x. x), (λ x. x), (λ x. x), λ x. x)).only_now x n image left in
    let file_now = λ (x : _) (image : Image) (left : f.left_since x (f.moment x) image). (g.met.F.DiskFile g.world.𝓛 g.world.𝓜 g.world.𝓡 ((λ s x. x), (λ x. x), (λ x. x), λ x. x)).only_now x image left in
    let zero = c.args.disk.now in
    let one = c.is_there.new.disk in
    let two = c.chosen.new.disk in
    let look = only_then d f (λ n. ⊥) (alone zero) (alone one) (alone two) c.is_there.ensures.looks c.chosen.ensures.looks in
    let told_two : d.is_told two ≡ d.is_told zero = c.chosen.ensures.touches.told ∙ c.is_there.ensures.touches.told in
    subst (λ (files : List g.row.F.Denot). OnlyReads d f (alone zero) (holding two files)) (sym (none_read c.from_residual-in_err-name.result c.from_residual-in_err-name.ensures.0)) look

pub returns-in_err-file-clause-reads : goal.returns-in_err-file-clause-reads
returns-in_err-file-clause-reads g c =
    let d = g.D.Disk in
    let f = g.F.DiskFile in
    let disk_now = λ (x : _) (n : FileName) (image : Image) (left : d.left_since x (d.moment x) n image). (g.met.D.Disk g.world.𝓛 g.world.𝓜 g.world.𝓡 ((λ s x. x), (λ x. x), (λ x. x), λ x. x)).only_now x n image left in
    let file_now = λ (x : _) (image : Image) (left : f.left_since x (f.moment x) image). (g.met.F.DiskFile g.world.𝓛 g.world.𝓜 g.world.𝓡 ((λ s x. x), (λ x. x), (λ x. x), λ x. x)).only_now x image left in
    let zero = c.args.disk.now in
    let one = c.is_there.new.disk in
    let two = c.chosen.new.disk in
    let look = only_then d f (λ n. ⊥) (alone zero) (alone one) (alone two) c.is_there.ensures.looks c.chosen.ensures.looks in
    let told_two : d.is_told two ≡ d.is_told zero = c.chosen.ensures.touches.told ∙ c.is_there.ensures.touches.told in
    let three = c.open_file.new.self in
    let name = c.in_ok-name.name in
    let e = c.in_err-file.ensures in
    let last = disk_step d f disk_now file_now [] (λ n. ⊥) two three (touches_none d _ name two three (λ n. tt) e.stays e.stays_crash e.others e.time e.told e.model) in
    subst (λ (files : List g.row.F.Denot). OnlyReads d f (alone zero) (holding three files)) (sym (none_read c.from_residual-in_err-file.result c.from_residual-in_err-file.ensures.0)) (only_then d f (λ n. ⊥) (alone zero) (alone two) (alone three) look last)

pub returns-in_err-file-clause-touches : goal.returns-in_err-file-clause-touches
returns-in_err-file-clause-touches g c =
    let d = g.D.Disk in
    let f = g.F.DiskFile in
    let disk_now = λ (x : _) (n : FileName) (image : Image) (left : d.left_since x (d.moment x) n image). (g.met.D.Disk g.world.𝓛 g.world.𝓜 g.world.𝓡 ((λ s x. x), (λ x. x), (λ x. x), λ x. x)).only_now x n image left in
    let file_now = λ (x : _) (image : Image) (left : f.left_since x (f.moment x) image). (g.met.F.DiskFile g.world.𝓛 g.world.𝓜 g.world.𝓡 ((λ s x. x), (λ x. x), (λ x. x), λ x. x)).only_now x image left in
    let zero = c.args.disk.now in
    let one = c.is_there.new.disk in
    let two = c.chosen.new.disk in
    let look = only_then d f (λ n. ⊥) (alone zero) (alone one) (alone two) c.is_there.ensures.looks c.chosen.ensures.looks in
    let told_two : d.is_told two ≡ d.is_told zero = c.chosen.ensures.touches.told ∙ c.is_there.ensures.touches.told in
    let three = c.open_file.new.self in
    let name = c.in_ok-name.name in
    let touched = read_names d zero one two three name c.in_ok-name.ensures.either c.is_there.ensures.touches c.chosen.ensures.touches in
    let e = c.in_err-file.ensures in
    touched (touches_one d _ name two three (λ n apart. tt) e.others e.time e.told e.model)

pub returns-in_default-clause-reads : goal.returns-in_default-clause-reads
returns-in_default-clause-reads g c =
    let d = g.D.Disk in
    let f = g.F.DiskFile in
    let disk_now = λ (x : _) (n : FileName) (image : Image) (left : d.left_since x (d.moment x) n image). (g.met.D.Disk g.world.𝓛 g.world.𝓜 g.world.𝓡 ((λ s x. x), (λ x. x), (λ x. x), λ x. x)).only_now x n image left in
    let file_now = λ (x : _) (image : Image) (left : f.left_since x (f.moment x) image). (g.met.F.DiskFile g.world.𝓛 g.world.𝓜 g.world.𝓡 ((λ s x. x), (λ x. x), (λ x. x), λ x. x)).only_now x image left in
    let zero = c.args.disk.now in
    let one = c.is_there.new.disk in
    let two = c.chosen.new.disk in
    let look = only_then d f (λ n. ⊥) (alone zero) (alone one) (alone two) c.is_there.ensures.looks c.chosen.ensures.looks in
    let told_two : d.is_told two ≡ d.is_told zero = c.chosen.ensures.touches.told ∙ c.is_there.ensures.touches.told in
    let three = c.open_file.new.self in
    let name = c.in_ok-name.name in
    let e = rw c.in_default.is at c.in_ok-file.ensures in
    let last = disk_step d f disk_now file_now [] (λ n. ⊥) two three (touches_none d _ name two three (λ n. tt) e.stays e.stays_crash e.others e.time e.told e.model) in
    only_then d f (λ n. ⊥) (alone zero) (alone two) (alone three) look last

pub returns-in_default-clause-touches : goal.returns-in_default-clause-touches
returns-in_default-clause-touches g c =
    let d = g.D.Disk in
    let f = g.F.DiskFile in
    let disk_now = λ (x : _) (n : FileName) (image : Image) (left : d.left_since x (d.moment x) n image). (g.met.D.Disk g.world.𝓛 g.world.𝓜 g.world.𝓡 ((λ s x. x), (λ x. x), (λ x. x), λ x. x)).only_now x n image left in
    let file_now = λ (x : _) (image : Image) (left : f.left_since x (f.moment x) image). (g.met.F.DiskFile g.world.𝓛 g.world.𝓜 g.world.𝓡 ((λ s x. x), (λ x. x), (λ x. x), λ x. x)).only_now x image left in
    let zero = c.args.disk.now in
    let one = c.is_there.new.disk in
    let two = c.chosen.new.disk in
    let look = only_then d f (λ n. ⊥) (alone zero) (alone one) (alone two) c.is_there.ensures.looks c.chosen.ensures.looks in
    let told_two : d.is_told two ≡ d.is_told zero = c.chosen.ensures.touches.told ∙ c.is_there.ensures.touches.told in
    let three = c.open_file.new.self in
    let name = c.in_ok-name.name in
    let touched = read_names d zero one two three name c.in_ok-name.ensures.either c.is_there.ensures.touches c.chosen.ensures.touches in
    let e = rw c.in_default.is at c.in_ok-file.ensures in
    touched (touches_one d _ name two three (λ n apart. tt) e.others e.time e.told e.model)

pub returns-in-Ok-clause-only : goal.returns-in-Ok-clause-only
returns-in-Ok-clause-only g c told m means =
    let d = g.D.Disk in
    let f = g.F.DiskFile in
    let disk_now = λ (x : _) (n : FileName) (image : Image) (left : d.left_since x (d.moment x) n image). (g.met.D.Disk g.world.𝓛 g.world.𝓜 g.world.𝓡 ((λ s x. x), (λ x. x), (λ x. x), λ x. x)).only_now x n image left in
    let file_now = λ (x : _) (image : Image) (left : f.left_since x (f.moment x) image). (g.met.F.DiskFile g.world.𝓛 g.world.𝓜 g.world.𝓡 ((λ s x. x), (λ x. x), (λ x. x), λ x. x)).only_now x image left in
    let zero = c.args.disk.now in
    let one = c.is_there.new.disk in
    let two = c.chosen.new.disk in
    let look = only_then d f (λ n. ⊥) (alone zero) (alone one) (alone two) c.is_there.ensures.looks c.chosen.ensures.looks in
    let told_two : d.is_told two ≡ d.is_told zero = c.chosen.ensures.touches.told ∙ c.is_there.ensures.touches.told in
    let three = c.open_file.new.self in
    let name = c.in_ok-name.name in
    let e = rw c.in-Some.is at c.in_ok-file.ensures in
    let folder = d.stands zero in
    let made = made_there c.in_ok-is_there.field-0 (folder Made) c.if-not-branch.false (c.in_ok-is_there.ensures.there told) in
    let told_one = subst IsTrue (sym c.is_there.ensures.touches.told) told in
    let told_now = subst IsTrue (sym told_two) told in
    let named : name ≡ chosen folder = c.in_ok-name.ensures.chosen told_one ∙ ap chosen_by (stands_all d f zero one c.is_there.ensures.looks told Current) in
    let is : folder (chosen folder) ≡ Some (f.seen c.in-Some.file) = ap folder (sym named) ∙ sym (stands_all d f zero two look told name) ∙ e.stood told_now in
    let told_file = subst IsTrue (sym (e.file_told ∙ told_two)) told in
    let shows = c.in-Ok.ensures.shows told_file in
    found_once folder (f.seen c.in-Some.file) c.in-Ok.fold made is (shows.0, subst (IsLog shows.0) c.in-Ok.ensures.same.seen shows.1.file, shows.2) m means

pub returns-in-Ok-clause-reads : goal.returns-in-Ok-clause-reads
returns-in-Ok-clause-reads g c =
    let d = g.D.Disk in
    let f = g.F.DiskFile in
    let disk_now = λ (x : _) (n : FileName) (image : Image) (left : d.left_since x (d.moment x) n image). (g.met.D.Disk g.world.𝓛 g.world.𝓜 g.world.𝓡 ((λ s x. x), (λ x. x), (λ x. x), λ x. x)).only_now x n image left in
    let file_now = λ (x : _) (image : Image) (left : f.left_since x (f.moment x) image). (g.met.F.DiskFile g.world.𝓛 g.world.𝓜 g.world.𝓡 ((λ s x. x), (λ x. x), (λ x. x), λ x. x)).only_now x image left in
    let zero = c.args.disk.now in
    let one = c.is_there.new.disk in
    let two = c.chosen.new.disk in
    let look = only_then d f (λ n. ⊥) (alone zero) (alone one) (alone two) c.is_there.ensures.looks c.chosen.ensures.looks in
    let told_two : d.is_told two ≡ d.is_told zero = c.chosen.ensures.touches.told ∙ c.is_there.ensures.touches.told in
    let three = c.open_file.new.self in
    let name = c.in_ok-name.name in
    let e = rw c.in-Some.is at c.in_ok-file.ensures in
    let x = c.in-Some.file in
    let y = c.in-Ok.log.file in
    only_then d f (λ n. ⊥) (alone zero) (holding three (x ∷ [])) (holding three (y ∷ []))
    (only_then d f (λ n. ⊥) (alone zero) (alone two) (holding three (x ∷ [])) look (open_step d f disk_now file_now [] name two three x
    (record { touches = touches_one d _ name two three (λ n apart. apart) e.others e.time e.told e.model; stood = e.stood; told = e.file_told; name = e.name; crash = e.crash })))
    (read_step d f disk_now file_now [] three x y c.in-Ok.ensures.same)

pub returns-in-Ok-clause-touches : goal.returns-in-Ok-clause-touches
returns-in-Ok-clause-touches g c =
    let d = g.D.Disk in
    let f = g.F.DiskFile in
    let disk_now = λ (x : _) (n : FileName) (image : Image) (left : d.left_since x (d.moment x) n image). (g.met.D.Disk g.world.𝓛 g.world.𝓜 g.world.𝓡 ((λ s x. x), (λ x. x), (λ x. x), λ x. x)).only_now x n image left in
    let file_now = λ (x : _) (image : Image) (left : f.left_since x (f.moment x) image). (g.met.F.DiskFile g.world.𝓛 g.world.𝓜 g.world.𝓡 ((λ s x. x), (λ x. x), (λ x. x), λ x. x)).only_now x image left in
    let zero = c.args.disk.now in
    let one = c.is_there.new.disk in
    let two = c.chosen.new.disk in
    let look = only_then d f (λ n. ⊥) (alone zero) (alone one) (alone two) c.is_there.ensures.looks c.chosen.ensures.looks in
    let told_two : d.is_told two ≡ d.is_told zero = c.chosen.ensures.touches.told ∙ c.is_there.ensures.touches.told in
    let three = c.open_file.new.self in
    let name = c.in_ok-name.name in
    let touched = read_names d zero one two three name c.in_ok-name.ensures.either c.is_there.ensures.touches c.chosen.ensures.touches in
    let e = rw c.in-Some.is at c.in_ok-file.ensures in
    touched (touches_one d _ name two three (λ n apart. apart) e.others e.time e.told e.model)

pub returns-in-Err-clause-only : goal.returns-in-Err-clause-only
returns-in-Err-clause-only g c told m means =
    let d = g.D.Disk in
    let f = g.F.DiskFile in
    let disk_now = λ (x : _) (n : FileName) (image : Image) (left : d.left_since x (d.moment x) n image). (g.met.D.Disk g.world.𝓛 g.world.𝓜 g.world.𝓡 ((λ s x. x), (λ x. x), (λ x. x), λ x. x)).only_now x n image left in
    let file_now = λ (x : _) (image : Image) (left : f.left_since x (f.moment x) image). (g.met.F.DiskFile g.world.𝓛 g.world.𝓜 g.world.𝓡 ((λ s x. x), (λ x. x), (λ x. x), λ x. x)).only_now x image left in
    let zero = c.args.disk.now in
    let one = c.is_there.new.disk in
    let two = c.chosen.new.disk in
    let look = only_then d f (λ n. ⊥) (alone zero) (alone one) (alone two) c.is_there.ensures.looks c.chosen.ensures.looks in
    let told_two : d.is_told two ≡ d.is_told zero = c.chosen.ensures.touches.told ∙ c.is_there.ensures.touches.told in
    let three = c.open_file.new.self in
    let name = c.in_ok-name.name in
    let e = rw c.in-Some.is at c.in_ok-file.ensures in
    let folder = d.stands zero in
    let made = made_there c.in_ok-is_there.field-0 (folder Made) c.if-not-branch.false (c.in_ok-is_there.ensures.there told) in
    let told_one = subst IsTrue (sym c.is_there.ensures.touches.told) told in
    let told_now = subst IsTrue (sym told_two) told in
    let named : name ≡ chosen folder = c.in_ok-name.ensures.chosen told_one ∙ ap chosen_by (stands_all d f zero one c.is_there.ensures.looks told Current) in
    let is : folder (chosen folder) ≡ Some (f.seen c.in-Some.file) = ap folder (sym named) ∙ sym (stands_all d f zero two look told name) ∙ e.stood told_now in
    let told_file = subst IsTrue (sym (e.file_told ∙ told_two)) told in
    refused_once folder (f.seen c.in-Some.file) c.in-Err.fault made is (c.in-Err.ensures.refused told_file) m means

pub returns-in-Err-clause-reads : goal.returns-in-Err-clause-reads
returns-in-Err-clause-reads g c =
    let d = g.D.Disk in
    let f = g.F.DiskFile in
    let disk_now = λ (x : _) (n : FileName) (image : Image) (left : d.left_since x (d.moment x) n image). (g.met.D.Disk g.world.𝓛 g.world.𝓜 g.world.𝓡 ((λ s x. x), (λ x. x), (λ x. x), λ x. x)).only_now x n image left in
    let file_now = λ (x : _) (image : Image) (left : f.left_since x (f.moment x) image). (g.met.F.DiskFile g.world.𝓛 g.world.𝓜 g.world.𝓡 ((λ s x. x), (λ x. x), (λ x. x), λ x. x)).only_now x image left in
    let zero = c.args.disk.now in
    let one = c.is_there.new.disk in
    let two = c.chosen.new.disk in
    let look = only_then d f (λ n. ⊥) (alone zero) (alone one) (alone two) c.is_there.ensures.looks c.chosen.ensures.looks in
    let told_two : d.is_told two ≡ d.is_told zero = c.chosen.ensures.touches.told ∙ c.is_there.ensures.touches.told in
    let three = c.open_file.new.self in
    let name = c.in_ok-name.name in
    let e = rw c.in-Some.is at c.in_ok-file.ensures in
    let r = c.retire.ensures in
    let x = c.in-Some.file in
    let y = c.in-Err.file in
    let last = look_step d f disk_now file_now [] name two three c.retire.new.self x y
    (record { touches = touches_one d _ name two three (λ n apart. apart) e.others e.time e.told e.model; stood = e.stood; told = e.file_told; name = e.name; crash = e.crash })
    c.in-Err.ensures.same
    (record { touches = touches_one d _ (f.name y) three c.retire.new.self (λ n apart. apart) r.others r.time r.told r.model; stands = r.stands; crash = r.crash })
    (λ z none. absurd none) in
    only_then d f (λ n. ⊥) (alone zero) (alone two) (alone c.retire.new.self) look last

pub returns-in-Err-clause-touches : goal.returns-in-Err-clause-touches
returns-in-Err-clause-touches g c =
    let d = g.D.Disk in
    let f = g.F.DiskFile in
    let disk_now = λ (x : _) (n : FileName) (image : Image) (left : d.left_since x (d.moment x) n image). (g.met.D.Disk g.world.𝓛 g.world.𝓜 g.world.𝓡 ((λ s x. x), (λ x. x), (λ x. x), λ x. x)).only_now x n image left in
    let file_now = λ (x : _) (image : Image) (left : f.left_since x (f.moment x) image). (g.met.F.DiskFile g.world.𝓛 g.world.𝓜 g.world.𝓡 ((λ s x. x), (λ x. x), (λ x. x), λ x. x)).only_now x image left in
    let zero = c.args.disk.now in
    let one = c.is_there.new.disk in
    let two = c.chosen.new.disk in
    let look = only_then d f (λ n. ⊥) (alone zero) (alone one) (alone two) c.is_there.ensures.looks c.chosen.ensures.looks in
    let told_two : d.is_told two ≡ d.is_told zero = c.chosen.ensures.touches.told ∙ c.is_there.ensures.touches.told in
    let three = c.open_file.new.self in
    let name = c.in_ok-name.name in
    let e = rw c.in-Some.is at c.in_ok-file.ensures in
    let r = c.retire.ensures in
    let y = c.in-Err.file in
    let new = c.retire.new.self in
    let there : f.name y ≡ name = c.in-Err.ensures.same.name ∙ e.name in
    let back = subst (λ (m : FileName). Touches d (λ n. n ≡ m) three new) there (touches_one d _ (f.name y) three new (λ n apart. apart) r.others r.time r.told r.model) in
    let opened = touches_one d _ name two three (λ n apart. apart) e.others e.time e.told e.model in
    read_names d zero one two new name c.in_ok-name.ensures.either c.is_there.ensures.touches c.chosen.ensures.touches (touches_then d (λ n. n ≡ name) two three new opened back)
