use Rattle.std.proofs.Common.{◌≡◌, [], ◌∷◌, sym, ◌∙◌, subst}
use Rattle.std.specs.Prelude.{Some, IsTrue}
use Rattle.udt_disk.specs.Crash.{Image}
use Rattle.udt_disk.specs.Moments.{holding}
use Rattle.udt_disk.specs.declared.name.FileName.{FileName}
use Rattle.udt_disk.specs.declared.name.FileName.TheVariants.{Log}
use Rattle.udt_disk.proofs.Moments.{only_then, disk_step, open_step, read_step, look_step}
use Rattle.udt_disk.proofs.TouchLemmas.{touches_one, touches_none}
use Rattle.wal.specs.Replays.{ReadsAs}
use Rattle.plain_recovery.specs.Stores.{sizes_of}
use Rattle.plain_recovery.proofs.opening.open_log.Goals as goal

pub returns-in-Ok-None-clause-reads : goal.returns-in-Ok-None-clause-reads
returns-in-Ok-None-clause-reads g c others free =
    let d = g.D.Disk in
    let f = g.D.File.DiskFile in
    let disk_now = λ (x : _) (n : FileName) (image : Image) (left : d.left_since x (d.moment x) n image). (g.met.D.Disk g.world.𝓛 g.world.𝓜 g.world.𝓡 ((λ s x. x), (λ x. x), (λ x. x), λ x. x)).only_now x n image left in
    let file_now = λ (x : _) (image : Image) (left : f.left_since x (f.moment x) image). (g.met.D.File.DiskFile g.world.𝓛 g.world.𝓜 g.world.𝓡 ((λ s x. x), (λ x. x), (λ x. x), λ x. x)).only_now x image left in
    let name = Log c.args.number in
    let e = rw c.in-Ok-None.field-0-is at c.in-Ok-None.ensures in
    disk_step d f disk_now file_now others (λ n. ⊥) c.args.disk.now c.open_file.new.self
    (touches_none d _ name c.args.disk.now c.open_file.new.self (λ n. tt) e.stays e.stays_crash e.others e.time e.told e.model)

pub returns-in-Err-clause-reads : goal.returns-in-Err-clause-reads
returns-in-Err-clause-reads g c others free =
    let d = g.D.Disk in
    let f = g.D.File.DiskFile in
    let disk_now = λ (x : _) (n : FileName) (image : Image) (left : d.left_since x (d.moment x) n image). (g.met.D.Disk g.world.𝓛 g.world.𝓜 g.world.𝓡 ((λ s x. x), (λ x. x), (λ x. x), λ x. x)).only_now x n image left in
    let file_now = λ (x : _) (image : Image) (left : f.left_since x (f.moment x) image). (g.met.D.File.DiskFile g.world.𝓛 g.world.𝓜 g.world.𝓡 ((λ s x. x), (λ x. x), (λ x. x), λ x. x)).only_now x image left in
    let name = Log c.args.number in
    let e = c.in-Err.ensures in
    disk_step d f disk_now file_now others (λ n. ⊥) c.args.disk.now c.open_file.new.self
    (touches_none d _ name c.args.disk.now c.open_file.new.self (λ n. tt) e.stays e.stays_crash e.others e.time e.told e.model)

pub returns-in-Ok-clause-taken : goal.returns-in-Ok-clause-taken
returns-in-Ok-clause-taken g c told =
    let d = g.D.Disk in
    let f = g.D.File.DiskFile in
    let old = c.args.disk.now in
    let name = Log c.args.number in
    let x = c.in-Ok-Some.file in
    let fold = c.args.fold.now in
    let e = rw c.in-Ok-Some.field-0-is at c.in-Ok-Some.ensures in
    let stood : d.stands old name ≡ Some (f.seen x) = e.stood told in
    let r = c.in-Ok.ensures.replayed (subst IsTrue (sym e.file_told) told) in
    record {
      batches = r.batches;
      shown = r.shown;
      name = c.in-Ok.ensures.same.name ∙ e.name;
      held = subst (λ (image : Image). ReadsAs (sizes_of fold) r.batches image) (sym stood) r.held;
      said_is = r.said_is;
      rests = λ clean. r.rests (λ image left. clean image (e.crash image left) ∙ stood);
    }

pub returns-in-Ok-clause-reads : goal.returns-in-Ok-clause-reads
returns-in-Ok-clause-reads g c others free =
    let d = g.D.Disk in
    let f = g.D.File.DiskFile in
    let disk_now = λ (x : _) (n : FileName) (image : Image) (left : d.left_since x (d.moment x) n image). (g.met.D.Disk g.world.𝓛 g.world.𝓜 g.world.𝓡 ((λ s x. x), (λ x. x), (λ x. x), λ x. x)).only_now x n image left in
    let file_now = λ (x : _) (image : Image) (left : f.left_since x (f.moment x) image). (g.met.D.File.DiskFile g.world.𝓛 g.world.𝓜 g.world.𝓡 ((λ s x. x), (λ x. x), (λ x. x), λ x. x)).only_now x image left in
    let name = Log c.args.number in
    let old = c.args.disk.now in
    let mid = c.open_file.new.self in
    let x = c.in-Ok-Some.file in
    let y = c.in-Ok.taken.0.log.file in
    let e = rw c.in-Ok-Some.field-0-is at c.in-Ok-Some.ensures in
    only_then d f (λ n. ⊥) (holding old others) (holding mid (x ∷ others)) (holding mid (y ∷ others))
    (open_step d f disk_now file_now others name old mid x
    (record { touches = touches_one d _ name old mid (λ n apart. apart) e.others e.time e.told e.model; stood = e.stood; told = e.file_told; name = e.name; crash = e.crash }))
    (read_step d f disk_now file_now others mid x y c.in-Ok.ensures.same)

pub returns-in-Err-replay_log-clause-reads : goal.returns-in-Err-replay_log-clause-reads
returns-in-Err-replay_log-clause-reads g c others free =
    let d = g.D.Disk in
    let f = g.D.File.DiskFile in
    let disk_now = λ (x : _) (n : FileName) (image : Image) (left : d.left_since x (d.moment x) n image). (g.met.D.Disk g.world.𝓛 g.world.𝓜 g.world.𝓡 ((λ s x. x), (λ x. x), (λ x. x), λ x. x)).only_now x n image left in
    let file_now = λ (x : _) (image : Image) (left : f.left_since x (f.moment x) image). (g.met.D.File.DiskFile g.world.𝓛 g.world.𝓜 g.world.𝓡 ((λ s x. x), (λ x. x), (λ x. x), λ x. x)).only_now x image left in
    let name = Log c.args.number in
    let old = c.args.disk.now in
    let mid = c.open_file.new.self in
    let new = c.retire.new.self in
    let y = c.in-Err-replay_log.file in
    let e = rw c.in-Ok-Some.field-0-is at c.in-Ok-Some.ensures in
    let r = c.retire.ensures in
    look_step d f disk_now file_now others name old mid new c.in-Ok-Some.file y
    (record { touches = touches_one d _ name old mid (λ n apart. apart) e.others e.time e.told e.model; stood = e.stood; told = e.file_told; name = e.name; crash = e.crash })
    c.in-Err-replay_log.ensures.same
    (record { touches = touches_one d _ (f.name y) mid new (λ n apart. apart) r.others r.time r.told r.model; stands = r.stands; crash = r.crash }) free
