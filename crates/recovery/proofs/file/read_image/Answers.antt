use Rattle.std.proofs.Common.{◌≡◌}
use Rattle.udt_disk.specs.Crash.{Image}
use Rattle.udt_disk.specs.declared.name.FileName.{FileName}
use Rattle.udt_disk.proofs.TouchLemmas.{touches_one, touches_none}
use Rattle.recovery.proofs.Looking.{looks_nothing, looks_one}
use Rattle.recovery.proofs.file.read_image.Goals as goal

pub returns-in_err-file-clause-looks : goal.returns-in_err-file-clause-looks
returns-in_err-file-clause-looks g c =
    let d = g.D.Disk in
    let f = g.D.File.DiskFile in
    let disk_now = λ (x : _) (n : FileName) (image : Image) (left : d.left_since x (d.moment x) n image). (g.met.D.Disk g.world.𝓛 g.world.𝓜 g.world.𝓡 ((λ s x. x), (λ x. x), (λ x. x), λ x. x)).only_now x n image left in
    let file_now = λ (x : _) (image : Image) (left : f.left_since x (f.moment x) image). (g.met.D.File.DiskFile g.world.𝓛 g.world.𝓜 g.world.𝓡 ((λ s x. x), (λ x. x), (λ x. x), λ x. x)).only_now x image left in
    let e = c.in_err-file.ensures in
    looks_nothing d f disk_now file_now (λ n. n ≡ c.args.name) c.args.disk.now c.open_file.new.self
    (touches_none d _ c.args.name c.args.disk.now c.open_file.new.self (λ n. tt) e.stays e.stays_crash e.others e.time e.told e.model)

pub returns-in_default-clause-looks : goal.returns-in_default-clause-looks
returns-in_default-clause-looks g c =
    let d = g.D.Disk in
    let f = g.D.File.DiskFile in
    let disk_now = λ (x : _) (n : FileName) (image : Image) (left : d.left_since x (d.moment x) n image). (g.met.D.Disk g.world.𝓛 g.world.𝓜 g.world.𝓡 ((λ s x. x), (λ x. x), (λ x. x), λ x. x)).only_now x n image left in
    let file_now = λ (x : _) (image : Image) (left : f.left_since x (f.moment x) image). (g.met.D.File.DiskFile g.world.𝓛 g.world.𝓜 g.world.𝓡 ((λ s x. x), (λ x. x), (λ x. x), λ x. x)).only_now x image left in
    let e = rw c.in_default.is at c.in_ok-file.ensures in
    looks_nothing d f disk_now file_now (λ n. n ≡ c.args.name) c.args.disk.now c.open_file.new.self
    (touches_none d _ c.args.name c.args.disk.now c.open_file.new.self (λ n. tt) e.stays e.stays_crash e.others e.time e.told e.model)

pub returns-in-Ok-clause-looks : goal.returns-in-Ok-clause-looks
returns-in-Ok-clause-looks g c =
    let d = g.D.Disk in
    let f = g.D.File.DiskFile in
    let disk_now = λ (x : _) (n : FileName) (image : Image) (left : d.left_since x (d.moment x) n image). (g.met.D.Disk g.world.𝓛 g.world.𝓜 g.world.𝓡 ((λ s x. x), (λ x. x), (λ x. x), λ x. x)).only_now x n image left in
    let file_now = λ (x : _) (image : Image) (left : f.left_since x (f.moment x) image). (g.met.D.File.DiskFile g.world.𝓛 g.world.𝓜 g.world.𝓡 ((λ s x. x), (λ x. x), (λ x. x), λ x. x)).only_now x image left in
    let e = rw c.in-Some.is at c.in_ok-file.ensures in
    let r = c.retire.ensures in
    let x = c.in-Some.file in
    let y = c.read_file-bytes.new.file in
    let mid = c.open_file.new.self in
    looks_one d f disk_now file_now c.args.name c.args.disk.now mid c.retire.new.self x y
    (record { touches = touches_one d _ c.args.name c.args.disk.now mid (λ n apart. apart) e.others e.time e.told e.model; stood = e.stood; told = e.file_told; name = e.name; crash = e.crash })
    c.read_file-bytes.ensures.same
    (record { touches = touches_one d _ (f.name y) mid c.retire.new.self (λ n apart. apart) r.others r.time r.told r.model; stands = r.stands; crash = r.crash })

pub returns-in-Err-clause-looks : goal.returns-in-Err-clause-looks
returns-in-Err-clause-looks g c =
    let d = g.D.Disk in
    let f = g.D.File.DiskFile in
    let disk_now = λ (x : _) (n : FileName) (image : Image) (left : d.left_since x (d.moment x) n image). (g.met.D.Disk g.world.𝓛 g.world.𝓜 g.world.𝓡 ((λ s x. x), (λ x. x), (λ x. x), λ x. x)).only_now x n image left in
    let file_now = λ (x : _) (image : Image) (left : f.left_since x (f.moment x) image). (g.met.D.File.DiskFile g.world.𝓛 g.world.𝓜 g.world.𝓡 ((λ s x. x), (λ x. x), (λ x. x), λ x. x)).only_now x image left in
    let e = rw c.in-Some.is at c.in_ok-file.ensures in
    let r = c.retire.ensures in
    let x = c.in-Some.file in
    let y = c.read_file-bytes.new.file in
    let mid = c.open_file.new.self in
    looks_one d f disk_now file_now c.args.name c.args.disk.now mid c.retire.new.self x y
    (record { touches = touches_one d _ c.args.name c.args.disk.now mid (λ n apart. apart) e.others e.time e.told e.model; stood = e.stood; told = e.file_told; name = e.name; crash = e.crash })
    c.read_file-bytes.ensures.same
    (record { touches = touches_one d _ (f.name y) mid c.retire.new.self (λ n apart. apart) r.others r.time r.told r.model; stands = r.stands; crash = r.crash })
