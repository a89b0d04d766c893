use Rattle.std.proofs.Common.{◌≡◌, ℕ, List, ◌∷◌, sym, subst}
use Rattle.std.specs.Prelude.{Some, IsTrue}
use Rattle.udt_disk.specs.Crash.{Image}
use Rattle.udt_disk.specs.Moments.{holding}
use Rattle.udt_disk.specs.declared.name.FileName.{FileName}
use Rattle.udt_disk.specs.declared.name.FileName.TheVariants.{Log}
use Rattle.udt_disk.proofs.Moments.{only_then, disk_step, open_step, read_step, look_step}
use Rattle.udt_disk.proofs.TouchLemmas.{touches_one, touches_none}
use Rattle.wal.specs.Replays.{IsReplayFault}
use Rattle.manifest.specs.Folds.{sizes_of}
use Rattle.recovery.specs.Replayed.{RefusesLog}
use Rattle.recovery.proofs.Looking.{looks_none}
use Rattle.recovery.proofs.logs.open_log.Goals as goal

pub returns-in-Ok-None-clause-reads : goal.returns-in-Ok-None-clause-reads
returns-in-Ok-None-clause-reads g c others free =
    let d = g.D.Disk in
    let f = g.D.File.DiskFile in
    let disk_now = λ (x : _) (n : FileName) (image : Image) (left : d.left_since x (d.moment x) n image). (g.met.D.Disk g.world.𝓛 g.world.𝓜 g.world.𝓡 ((λ s x. x), (λ x. x), (λ x. x), λ x. x)).only_now x n image left in
    let file_now = λ (x : _) (image : Image) (left : f.left_since x (f.moment x) image). (g.met.D.File.DiskFile g.world.𝓛 g.world.𝓜 g.world.𝓡 ((λ s x. x), (λ x. x), (λ x. x), λ x. x)).only_now x image left in
    let name = Log c.args.number in
    let e = rw c.in-Ok-None.field-0-is at c.in-Ok-None.ensures in
    disk_step d f disk_now file_now others (λ n. ⊥) c.args.disk.now c.open_file.new.self
    (touches_none d _ name c.args.disk.now c.open_file.new.self (λ n. tt) e.stays e.stays_crash e.others e.time e.told e.model)

pub returns-in-Err-clause-reads : goal.returns-in-Err-clause-reads
returns-in-Err-clause-reads g c others free =
    let d = g.D.Disk in
    let f = g.D.File.DiskFile in
    let disk_now = λ (x : _) (n : FileName) (image : Image) (left : d.left_since x (d.moment x) n image). (g.met.D.Disk g.world.𝓛 g.world.𝓜 g.world.𝓡 ((λ s x. x), (λ x. x), (λ x. x), λ x. x)).only_now x n image left in
    let file_now = λ (x : _) (image : Image) (left : f.left_since x (f.moment x) image). (g.met.D.File.DiskFile g.world.𝓛 g.world.𝓜 g.world.𝓡 ((λ s x. x), (λ x. x), (λ x. x), λ x. x)).only_now x image left in
    let name = Log c.args.number in
    let e = c.in-Err.ensures in
    disk_step d f disk_now file_now others (λ n. ⊥) c.args.disk.now c.open_file.new.self
    (touches_none d _ name c.args.disk.now c.open_file.new.self (λ n. tt) e.stays e.stays_crash e.others e.time e.told e.model)

pub returns-in-Ok-replay-clause-reads : goal.returns-in-Ok-replay-clause-reads
returns-in-Ok-replay-clause-reads g c others free =
    let d = g.D.Disk in
    let f = g.D.File.DiskFile in
    let disk_now = λ (x : _) (n : FileName) (image : Image) (left : d.left_since x (d.moment x) n image). (g.met.D.Disk g.world.𝓛 g.world.𝓜 g.world.𝓡 ((λ s x. x), (λ x. x), (λ x. x), λ x. x)).only_now x n image left in
    let file_now = λ (x : _) (image : Image) (left : f.left_since x (f.moment x) image). (g.met.D.File.DiskFile g.world.𝓛 g.world.𝓜 g.world.𝓡 ((λ s x. x), (λ x. x), (λ x. x), λ x. x)).only_now x image left in
    let name = Log c.args.number in
    let old = c.args.disk.now in
    let mid = c.open_file.new.self in
    let x = c.in-Ok-Some.file in
    let y = c.in-Ok-replay.replayed.0.log.file in
    let e = rw c.in-Ok-Some.field-0-is at c.in-Ok-Some.ensures in
    only_then d f (λ n. ⊥) (holding old others) (holding mid (x ∷ others)) (holding mid (y ∷ others))
    (open_step d f disk_now file_now others name old mid x
    (record { touches = touches_one d _ name old mid (λ n apart. apart) e.others e.time e.told e.model; stood = e.stood; told = e.file_told; name = e.name; crash = e.crash }))
    (read_step d f disk_now file_now others mid x y c.in-Ok-replay.ensures.same)

pub returns-in-Err-replay-clause-reads : goal.returns-in-Err-replay-clause-reads
returns-in-Err-replay-clause-reads g c others free =
    let d = g.D.Disk in
    let f = g.D.File.DiskFile in
    let disk_now = λ (x : _) (n : FileName) (image : Image) (left : d.left_since x (d.moment x) n image). (g.met.D.Disk g.world.𝓛 g.world.𝓜 g.world.𝓡 ((λ s x. x), (λ x. x), (λ x. x), λ x. x)).only_now x n image left in
    let file_now = λ (x : _) (image : Image) (left : f.left_since x (f.moment x) image). (g.met.D.File.DiskFile g.world.𝓛 g.world.𝓜 g.world.𝓡 ((λ s x. x), (λ x. x), (λ x. x), λ x. x)).only_now x image left in
    let name = Log c.args.number in
    let old = c.args.disk.now in
    let mid = c.open_file.new.self in
    let new = c.retire.new.self in
    let y = c.in-Err-replay.file in
    let e = rw c.in-Ok-Some.field-0-is at c.in-Ok-Some.ensures in
    let r = c.retire.ensures in
    look_step d f disk_now file_now others name old mid new c.in-Ok-Some.file y
    (record { touches = touches_one d _ name old mid (λ n apart. apart) e.others e.time e.told e.model; stood = e.stood; told = e.file_told; name = e.name; crash = e.crash })
    c.in-Err-replay.ensures.same
    (record { touches = touches_one d _ (f.name y) mid new (λ n apart. apart) r.others r.time r.told r.model; stands = r.stands; crash = r.crash }) free

pub returns-in_default-clause-reads : goal.returns-in_default-clause-reads
returns-in_default-clause-reads g c others free = looks_none g.D.Disk g.D.File.DiskFile (λ n. ⊥) c.args.disk.now others (λ n none. absurd none)

pub returns-in-Err-replay-clause-refused : goal.returns-in-Err-replay-clause-refused
returns-in-Err-replay-clause-refused g c told =
    let d = g.D.Disk in
    let f = g.D.File.DiskFile in
    let fold = c.args.fold.now in
    let number = c.args.number in
    let x = c.in-Ok-Some.file in
    let e = rw c.in-Ok-Some.field-0-is at c.in-Ok-Some.ensures in
    let stood : d.stands c.args.disk.now (Log number) ≡ Some (f.seen x) = e.stood told in
    let sizes : c.in-Ok.sizes ≡ sizes_of fold = c.in-Ok.ensures in
    subst (λ (image : Image). RefusesLog (sizes_of fold) image number c.log_fault.result) (sym stood)
    (c.log_fault.ensures.refused (sizes_of fold) number (f.seen x) (subst (λ (s : List ℕ). IsReplayFault s number (f.seen x) c.in-Err-replay.fault) sizes (c.in-Err-replay.ensures.refused (subst IsTrue (sym e.file_told) told))))
