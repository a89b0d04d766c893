use Rattle.engine_laws.specs.Joints.{IsNowLast}
use Rattle.solo_store.proofs.Events.{floor_absent, floor_found}
use Rattle.solo_store.proofs.store.Store.floor.Goals as goal

pub returns-in-None : goal.returns-in-None
returns-in-None g c number =
    let d = g.D.Disk in
    let f = g.D.File.DiskFile in
    let last : IsNowLast d f = record {
      disk = λ x n image left. (g.met.D.Disk g.world.𝓛 g.world.𝓜 g.world.𝓡 ((λ s x. x), (λ x. x), (λ x. x), λ x. x)).only_now x n image left;
      file = λ x image left. (g.met.D.File.DiskFile g.world.𝓛 g.world.𝓜 g.world.𝓡 ((λ s x. x), (λ x. x), (λ x. x), λ x. x)).only_now x image left;
    } in
    floor_absent d f last c.args.self.now c.requires number c.args.family.now c.as_ref.result.now c.family_of.result c.as_ref.ensures c.family_of.ensures c.in-None.ensures

pub returns-in-Some : goal.returns-in-Some
returns-in-Some g c number =
    let d = g.D.Disk in
    let f = g.D.File.DiskFile in
    let last : IsNowLast d f = record {
      disk = λ x n image left. (g.met.D.Disk g.world.𝓛 g.world.𝓜 g.world.𝓡 ((λ s x. x), (λ x. x), (λ x. x), λ x. x)).only_now x n image left;
      file = λ x image left. (g.met.D.File.DiskFile g.world.𝓛 g.world.𝓜 g.world.𝓡 ((λ s x. x), (λ x. x), (λ x. x), λ x. x)).only_now x image left;
    } in
    floor_found d f last c.args.self.now c.requires number c.args.family.now c.as_ref.result.now c.family_of.result c.as_ref.ensures c.family_of.ensures c.in-Some.state.now c.in-Some.ensures
