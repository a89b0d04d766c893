use Rattle.std.proofs.Common.{◌∷◌, refl, sym, ◌∙◌, subst}
use Rattle.udt_disk.specs.Crash.{Image}
use Rattle.udt_disk.specs.Moments.{holding}
use Rattle.udt_disk.specs.declared.name.FileName.{FileName}
use Rattle.udt_disk.specs.declared.name.FileName.TheVariants.{Log}
use Rattle.udt_disk.proofs.Moments.{Giving, only_then, return_step}
use Rattle.udt_disk.proofs.TouchLemmas.{touches_one}
use Rattle.recovery.proofs.logs.read_log.Goals as goal

pub returns-in_err-wal-clause-looks : goal.returns-in_err-wal-clause-looks
returns-in_err-wal-clause-looks g c others free = c.in_err-wal.ensures.reads others (free (Log c.args.number) refl)

pub returns-clause-looks : goal.returns-clause-looks
returns-clause-looks g c others free =
    let d = g.D.Disk in
    let f = g.D.File.DiskFile in
    let disk_now = λ (x : _) (n : FileName) (image : Image) (left : d.left_since x (d.moment x) n image). (g.met.D.Disk g.world.𝓛 g.world.𝓜 g.world.𝓡 ((λ s x. x), (λ x. x), (λ x. x), λ x. x)).only_now x n image left in
    let file_now = λ (x : _) (image : Image) (left : f.left_since x (f.moment x) image). (g.met.D.File.DiskFile g.world.𝓛 g.world.𝓜 g.world.𝓡 ((λ s x. x), (λ x. x), (λ x. x), λ x. x)).only_now x image left in
    let old = c.args.disk.now in
    let mid = c.open_log.new.disk in
    let new = c.retire.new.self in
    let e = c.in_ok-wal.ensures in
    let w = c.in_ok-wal.wal.log.file in
    let r = c.retire.ensures in
    let back = c.into_file.result in
    let giving : Giving d f mid new back = record { touches = touches_one d _ (f.name back) mid new (λ n apart. apart) r.others r.time r.told r.model; stands = r.stands; crash = r.crash } in
    only_then d f (λ n. ⊥) (holding old others) (holding mid (w ∷ others)) (holding new others) (e.reads others (free (Log c.args.number) refl))
    (return_step d f disk_now file_now others mid new w (subst (Giving d f mid new) c.into_file.ensures giving) (e.file_told ∙ sym e.told) (λ x held is. free (Log c.args.number) refl x held (sym e.name ∙ is)))
