use Rattle.std.proofs.Common.{[]}
use Rattle.udt_disk.specs.Crash.{Image}
use Rattle.udt_disk.specs.declared.name.FileName.{FileName}
use Rattle.udt_disk.specs.declared.name.FileName.TheVariants.{Current}
use Rattle.udt_disk.proofs.TouchLemmas.{touches_one, touches_none}
use Rattle.udt_disk.proofs.Runs.{one_read}
use Rattle.udt_disk.proofs.Moments.{disk_step, look_step}
use Rattle.head_manifest.proofs.folder.chosen.Goals as goal

pub returns-in_err-file-clause-looks : goal.returns-in_err-file-clause-looks
returns-in_err-file-clause-looks g c =
    let d = g.D.Disk in
    let f = g.D.File.DiskFile in
    let disk_now = λ (x : _) (n : FileName) (image : Image) (left : d.left_since x (d.moment x) n image). (g.met.D.Disk g.world.𝓛 g.world.𝓜 g.world.𝓡 ((λ s x. x), (λ x. x), (λ x. x), λ x. x)).only_now x n image left in
    let file_now = λ (x : _) (image : Image) (left : f.left_since x (f.moment x) image). (g.met.D.File.DiskFile g.world.𝓛 g.world.𝓜 g.world.𝓡 ((λ s x. x), (λ x. x), (λ x. x), λ x. x)).only_now x image left in
    let e = c.in_err-file.ensures in
    disk_step d f disk_now file_now [] (λ n. ⊥) c.args.disk.now c.open_file.new.self
    (touches_none d _ Current c.args.disk.now c.open_file.new.self (λ n. tt) e.stays e.stays_crash e.others e.time e.told e.model)

pub returns-in_default-clause-looks : goal.returns-in_default-clause-looks
returns-in_default-clause-looks g c =
    let d = g.D.Disk in
    let f = g.D.File.DiskFile in
    let disk_now = λ (x : _) (n : FileName) (image : Image) (left : d.left_since x (d.moment x) n image). (g.met.D.Disk g.world.𝓛 g.world.𝓜 g.world.𝓡 ((λ s x. x), (λ x. x), (λ x. x), λ x. x)).only_now x n image left in
    let file_now = λ (x : _) (image : Image) (left : f.left_since x (f.moment x) image). (g.met.D.File.DiskFile g.world.𝓛 g.world.𝓜 g.world.𝓡 ((λ s x. x), (λ x. x), (λ x. x), λ x. x)).only_now x image left in
    let e = rw c.in_default.is at c.in_ok-file.ensures in
    disk_step d f disk_now file_now [] (λ n. ⊥) c.args.disk.now c.open_file.new.self
    (touches_none d _ Current c.args.disk.now c.open_file.new.self (λ n. tt) e.stays e.stays_crash e.others e.time e.told e.model)

pub returns-in-Ok-clause-looks : goal.returns-in-Ok-clause-looks
returns-in-Ok-clause-looks g c =
    let d = g.D.Disk in
    let f = g.D.File.DiskFile in
    let disk_now = λ (x : _) (n : FileName) (image : Image) (left : d.left_since x (d.moment x) n image). (g.met.D.Disk g.world.𝓛 g.world.𝓜 g.world.𝓡 ((λ s x. x), (λ x. x), (λ x. x), λ x. x)).only_now x n image left in
    let file_now = λ (x : _) (image : Image) (left : f.left_since x (f.moment x) image). (g.met.D.File.DiskFile g.world.𝓛 g.world.𝓜 g.world.𝓡 ((λ s x. x), (λ x. x), (λ x. x), λ x. x)).only_now x image left in
    let e = rw c.in-Some.is at c.in_ok-file.ensures in
    let r = c.retire.ensures in
    let read = c.read_at.ensures in
    let x = c.in-Some.file in
    let y = c.read_at.new.self in
    let mid = c.open_file.new.self in
    look_step d f disk_now file_now [] Current c.args.disk.now mid c.retire.new.self x y
    (record { touches = touches_one d _ Current c.args.disk.now mid (λ n apart. apart) e.others e.time e.told e.model; stood = e.stood; told = e.file_told; name = e.name; crash = e.crash })
    (one_read f x y (file_now x) read.seen read.crash read.time read.name read.told read.model)
    (record { touches = touches_one d _ (f.name y) mid c.retire.new.self (λ n apart. apart) r.others r.time r.told r.model; stands = r.stands; crash = r.crash })
    (λ z none. absurd none)

pub returns-in-Err-clause-looks : goal.returns-in-Err-clause-looks
returns-in-Err-clause-looks g c =
    let d = g.D.Disk in
    let f = g.D.File.DiskFile in
    let disk_now = λ (x : _) (n : FileName) (image : Image) (left : d.left_since x (d.moment x) n image). (g.met.D.Disk g.world.𝓛 g.world.𝓜 g.world.𝓡 ((λ s x. x), (λ x. x), (λ x. x), λ x. x)).only_now x n image left in
    let file_now = λ (x : _) (image : Image) (left : f.left_since x (f.moment x) image). (g.met.D.File.DiskFile g.world.𝓛 g.world.𝓜 g.world.𝓡 ((λ s x. x), (λ x. x), (λ x. x), λ x. x)).only_now x image left in
    let e = rw c.in-Some.is at c.in_ok-file.ensures in
    let r = c.retire-in-Err.ensures in
    let read = c.read_at.ensures in
    let x = c.in-Some.file in
    let y = c.read_at.new.self in
    let mid = c.open_file.new.self in
    look_step d f disk_now file_now [] Current c.args.disk.now mid c.retire-in-Err.new.self x y
    (record { touches = touches_one d _ Current c.args.disk.now mid (λ n apart. apart) e.others e.time e.told e.model; stood = e.stood; told = e.file_told; name = e.name; crash = e.crash })
    (one_read f x y (file_now x) read.seen read.crash read.time read.name read.told read.model)
    (record { touches = touches_one d _ (f.name y) mid c.retire-in-Err.new.self (λ n apart. apart) r.others r.time r.told r.model; stands = r.stands; crash = r.crash })
    (λ z none. absurd none)
