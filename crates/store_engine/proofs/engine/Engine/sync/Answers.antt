use Rattle.engine_laws.specs.Joints.{IsNowLast}
use Rattle.store_engine.proofs.Answering.{sync_tells, sync_told}
use Rattle.store_engine.proofs.Synced.{synced_called, synced_goes, synced_now, synced_ran}
use Rattle.store_engine.proofs.engine.Engine.sync.Goals as goal

pub returns-clause-tells : goal.returns-clause-tells
returns-clause-tells g c now m course h = sync_tells m h.runs c.sync_log.result c.sync_log.ensures.fault

pub returns-clause-holds : goal.returns-clause-holds
returns-clause-holds g c now m course number h =
    let d = g.D.Disk in
    let f = g.D.File.DiskFile in
    let last : IsNowLast d f = record {
      disk = λ x n image left. (g.met.D.Disk g.world.𝓛 g.world.𝓜 g.world.𝓡 ((λ s x. x), (λ x. x), (λ x. x), λ x. x)).only_now x n image left;
      file = λ x image left. (g.met.D.File.DiskFile g.world.𝓛 g.world.𝓜 g.world.𝓡 ((λ s x. x), (λ x. x), (λ x. x), λ x. x)).only_now x image left;
    } in
    let self = c.args.self.now in
    synced_now d f last self c.sync_log.new.self c.sync_log.result c.sync_log.ensures m course h.says h.waiting h.holds h.engine_of c.requires.together number now (sync_told m h.runs) h.shows h.used h.covers h.runs h.unfailed

pub returns-clause-moments : goal.returns-clause-moments
returns-clause-moments g c now m course h =
    let d = g.D.Disk in
    let f = g.D.File.DiskFile in
    let last : IsNowLast d f = record {
      disk = λ x n image left. (g.met.D.Disk g.world.𝓛 g.world.𝓜 g.world.𝓡 ((λ s x. x), (λ x. x), (λ x. x), λ x. x)).only_now x n image left;
      file = λ x image left. (g.met.D.File.DiskFile g.world.𝓛 g.world.𝓜 g.world.𝓡 ((λ s x. x), (λ x. x), (λ x. x), λ x. x)).only_now x image left;
    } in
    let self = c.args.self.now in
    synced_ran d f last self c.sync_log.new.self c.sync_log.result c.sync_log.ensures m course h.says h.waiting h.holds h.engine_of c.requires.together

pub returns-clause-current : goal.returns-clause-current
returns-clause-current g c now current =
    let d = g.D.Disk in
    let f = g.D.File.DiskFile in
    let last : IsNowLast d f = record {
      disk = λ x n image left. (g.met.D.Disk g.world.𝓛 g.world.𝓜 g.world.𝓡 ((λ s x. x), (λ x. x), (λ x. x), λ x. x)).only_now x n image left;
      file = λ x image left. (g.met.D.File.DiskFile g.world.𝓛 g.world.𝓜 g.world.𝓡 ((λ s x. x), (λ x. x), (λ x. x), λ x. x)).only_now x image left;
    } in
    synced_goes d f last c.args.self.now c.sync_log.new.self c.sync_log.result c.sync_log.ensures now current.fits current.goes_on

pub returns-clause-called : goal.returns-clause-called
returns-clause-called g c =
    let d = g.D.Disk in
    let f = g.D.File.DiskFile in
    let last : IsNowLast d f = record {
      disk = λ x n image left. (g.met.D.Disk g.world.𝓛 g.world.𝓜 g.world.𝓡 ((λ s x. x), (λ x. x), (λ x. x), λ x. x)).only_now x n image left;
      file = λ x image left. (g.met.D.File.DiskFile g.world.𝓛 g.world.𝓜 g.world.𝓡 ((λ s x. x), (λ x. x), (λ x. x), λ x. x)).only_now x image left;
    } in
    synced_called d f last c.args.self.now c.sync_log.new.self c.sync_log.result c.sync_log.ensures
