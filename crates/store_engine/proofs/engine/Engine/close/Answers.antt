use Rattle.std.proofs.Common.{subst}
use Rattle.udt_disk.proofs.Moments.{Giving}
use Rattle.udt_disk.proofs.TouchLemmas.{touches_one}
use Rattle.manifest.specs.Manifest.{manifest_file}
use Rattle.wal.specs.Wals.{wal_file}
use Rattle.engine_laws.specs.Joints.{IsNowLast}
use Rattle.store_engine.proofs.Closed.{both_back, closed_leaves, closed_reaches, closed_whole}
use Rattle.store_engine.proofs.engine.Engine.close.Goals as goal

pub returns-clause-reads : goal.returns-clause-reads
returns-clause-reads g c one =
    let d = g.D.Disk in
    let f = g.D.File.DiskFile in
    let last : IsNowLast d f = record {
      disk = λ x n image left. (g.met.D.Disk g.world.𝓛 g.world.𝓜 g.world.𝓡 ((λ s x. x), (λ x. x), (λ x. x), λ x. x)).only_now x n image left;
      file = λ x image left. (g.met.D.File.DiskFile g.world.𝓛 g.world.𝓜 g.world.𝓡 ((λ s x. x), (λ x. x), (λ x. x), λ x. x)).only_now x image left;
    } in
    let self = c.args.self in
    let w = c.into_file.result in
    let m = c.into_file-2.result in
    let x = self.disk in
    let y = c.retire.new.self in
    let z = c.retire-2.new.self in
    let a = c.retire.ensures in
    let b = c.retire-2.ensures in
    let first : Giving d f x y w = record { touches = touches_one d _ (f.name w) x y (λ n apart. apart) a.others a.time a.told a.model; stands = a.stands; crash = a.crash } in
    let second : Giving d f y z m = record { touches = touches_one d _ (f.name m) y z (λ n apart. apart) b.others b.time b.told b.model; stands = b.stands; crash = b.crash } in
    both_back d f last x y z (wal_file self.wal) (manifest_file self.manifest) (subst (Giving d f x y) c.into_file.ensures first) (subst (Giving d f y z) c.into_file-2.ensures second) one.wal_told one.manifest_told one.named.of_log one.named.of_manifest

pub returns-clause-leaves : goal.returns-clause-leaves
returns-clause-leaves g c now m course h =
    let d = g.D.Disk in
    let f = g.D.File.DiskFile in
    let last : IsNowLast d f = record {
      disk = λ x n image left. (g.met.D.Disk g.world.𝓛 g.world.𝓜 g.world.𝓡 ((λ s x. x), (λ x. x), (λ x. x), λ x. x)).only_now x n image left;
      file = λ x image left. (g.met.D.File.DiskFile g.world.𝓛 g.world.𝓜 g.world.𝓡 ((λ s x. x), (λ x. x), (λ x. x), λ x. x)).only_now x image left;
    } in
    closed_leaves d f last c.args.self c.retire-2.new.self now m course h (returns-clause-reads g c h.engine_of.one)

pub returns-clause-reached : goal.returns-clause-reached
returns-clause-reached g c s waiting of =
    let d = g.D.Disk in
    let f = g.D.File.DiskFile in
    let last : IsNowLast d f = record {
      disk = λ x n image left. (g.met.D.Disk g.world.𝓛 g.world.𝓜 g.world.𝓡 ((λ s x. x), (λ x. x), (λ x. x), λ x. x)).only_now x n image left;
      file = λ x image left. (g.met.D.File.DiskFile g.world.𝓛 g.world.𝓜 g.world.𝓡 ((λ s x. x), (λ x. x), (λ x. x), λ x. x)).only_now x image left;
    } in
    closed_reaches d f last c.args.self c.retire-2.new.self s waiting of (returns-clause-reads g c of.one)

pub returns-clause-whole : goal.returns-clause-whole
returns-clause-whole g c now m course h none =
    let d = g.D.Disk in
    let f = g.D.File.DiskFile in
    let last : IsNowLast d f = record {
      disk = λ x n image left. (g.met.D.Disk g.world.𝓛 g.world.𝓜 g.world.𝓡 ((λ s x. x), (λ x. x), (λ x. x), λ x. x)).only_now x n image left;
      file = λ x image left. (g.met.D.File.DiskFile g.world.𝓛 g.world.𝓜 g.world.𝓡 ((λ s x. x), (λ x. x), (λ x. x), λ x. x)).only_now x image left;
    } in
    closed_whole d f last c.args.self c.retire-2.new.self now m course h none (returns-clause-reads g c h.engine_of.one)
