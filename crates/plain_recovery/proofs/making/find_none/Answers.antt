use Rattle.std.proofs.Common.{◌≡◌, [], ◌∷◌, sym, ◌∙◌, subst}
use Rattle.udt_disk.specs.Crash.{Image}
use Rattle.udt_disk.specs.Moments.{alone, holding}
use Rattle.udt_disk.specs.declared.name.FileName.{FileName}
use Rattle.udt_disk.proofs.Moments.{Giving, only_then, return_step}
use Rattle.udt_disk.proofs.TouchLemmas.{touches_one}
use Rattle.plain_recovery.proofs.making.find_none.Goals as goal

pub returns-in-Ok-Some-clause-looks : goal.returns-in-Ok-Some-clause-looks
returns-in-Ok-Some-clause-looks g c =
    let d = g.D.Disk in
    let f = g.D.File.DiskFile in
    let disk_now = λ (x : _) (n : FileName) (image : Image) (left : d.left_since x (d.moment x) n image). (g.met.D.Disk g.world.𝓛 g.world.𝓜 g.world.𝓡 ((λ s x. x), (λ x. x), (λ x. x), λ x. x)).only_now x n image left in
    let file_now = λ (x : _) (image : Image) (left : f.left_since x (f.moment x) image). (g.met.D.File.DiskFile g.world.𝓛 g.world.𝓜 g.world.𝓡 ((λ s x. x), (λ x. x), (λ x. x), λ x. x)).only_now x image left in
    let e = rw c.in-Ok-Some.field-0-is at c.in-Ok-Some.ensures in
    let r = c.retire.ensures in
    let x = c.into_file.result in
    let mid = c.read.new.disk in
    let new = c.retire.new.self in
    let m = c.in-Ok-Some.manifest.log.file in
    let giving : Giving d f mid new x = record { touches = touches_one d _ (f.name x) mid new (λ n apart. apart) r.others r.time r.told r.model; stands = r.stands; crash = r.crash } in
    only_then d f (λ n. ⊥) (alone c.args.disk.now) (holding mid (m ∷ [])) (alone new) e.reads
    (return_step d f disk_now file_now [] mid new m (subst (Giving d f mid new) c.into_file.ensures giving) (e.file_told ∙ sym e.touches.told) (λ z held. absurd held))
