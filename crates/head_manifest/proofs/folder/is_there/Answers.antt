use Rattle.std.proofs.Common.{[]}
use Rattle.udt_disk.specs.Crash.{Image}
use Rattle.udt_disk.specs.declared.name.FileName.{FileName}
use Rattle.udt_disk.proofs.TouchLemmas.{touches_one, touches_none}
use Rattle.udt_disk.proofs.Moments.{disk_step, look_step}
use Rattle.udt_disk.proofs.Runs.{no_read}
use Rattle.head_manifest.proofs.folder.is_there.Goals as goal

pub returns-in_err-open_file-clause-looks : goal.returns-in_err-open_file-clause-looks
returns-in_err-open_file-clause-looks g c =
    let d = g.D.Disk in
    let f = g.D.File.DiskFile in
    let disk_now = λ (x : _) (n : FileName) (image : Image) (left : d.left_since x (d.moment x) n image). (g.met.D.Disk g.world.𝓛 g.world.𝓜 g.world.𝓡 ((λ s x. x), (λ x. x), (λ x. x), λ x. x)).only_now x n image left in
    let file_now = λ (x : _) (image : Image) (left : f.left_since x (f.moment x) image). (g.met.D.File.DiskFile g.world.𝓛 g.world.𝓜 g.world.𝓡 ((λ s x. x), (λ x. x), (λ x. x), λ x. x)).only_now x image left in
    let e = c.in_err-open_file.ensures in
    disk_step d f disk_now file_now [] (λ n. ⊥) c.args.disk.now c.open_file.new.self
    (touches_none d _ c.args.name c.args.disk.now c.open_file.new.self (λ n. tt) e.stays e.stays_crash e.others e.time e.told e.model)

pub returns-in-None-clause-looks : goal.returns-in-None-clause-looks
returns-in-None-clause-looks g c =
    let d = g.D.Disk in
    let f = g.D.File.DiskFile in
    let disk_now = λ (x : _) (n : FileName) (image : Image) (left : d.left_since x (d.moment x) n image). (g.met.D.Disk g.world.𝓛 g.world.𝓜 g.world.𝓡 ((λ s x. x), (λ x. x), (λ x. x), λ x. x)).only_now x n image left in
    let file_now = λ (x : _) (image : Image) (left : f.left_since x (f.moment x) image). (g.met.D.File.DiskFile g.world.𝓛 g.world.𝓜 g.world.𝓡 ((λ s x. x), (λ x. x), (λ x. x), λ x. x)).only_now x image left in
    let e = rw c.in-None.is at c.in_ok-open_file.ensures in
    disk_step d f disk_now file_now [] (λ n. ⊥) c.args.disk.now c.open_file.new.self
    (touches_none d _ c.args.name c.args.disk.now c.open_file.new.self (λ n. tt) e.stays e.stays_crash e.others e.time e.told e.model)

pub returns-in-Some-clause-looks : goal.returns-in-Some-clause-looks
returns-in-Some-clause-looks g c =
    let d = g.D.Disk in
    let f = g.D.File.DiskFile in
    let disk_now = λ (x : _) (n : FileName) (image : Image) (left : d.left_since x (d.moment x) n image). (g.met.D.Disk g.world.𝓛 g.world.𝓜 g.world.𝓡 ((λ s x. x), (λ x. x), (λ x. x), λ x. x)).only_now x n image left in
    let file_now = λ (x : _) (image : Image) (left : f.left_since x (f.moment x) image). (g.met.D.File.DiskFile g.world.𝓛 g.world.𝓜 g.world.𝓡 ((λ s x. x), (λ x. x), (λ x. x), λ x. x)).only_now x image left in
    let e = rw c.in-Some.is at c.in_ok-open_file.ensures in
    let r = c.retire.ensures in
    let x = c.in-Some.file in
    look_step d f disk_now file_now [] c.args.name c.args.disk.now c.open_file.new.self c.retire.new.self x x
    (record { touches = touches_one d _ c.args.name c.args.disk.now c.open_file.new.self (λ n apart. apart) e.others e.time e.told e.model; stood = e.stood; told = e.file_told; name = e.name; crash = e.crash })
    (no_read f x (file_now x))
    (record { touches = touches_one d _ (f.name x) c.open_file.new.self c.retire.new.self (λ n apart. apart) r.others r.time r.told r.model; stands = r.stands; crash = r.crash })
    (λ z none. absurd none)
