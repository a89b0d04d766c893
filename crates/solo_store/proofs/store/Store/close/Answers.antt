use Rattle.engine_laws.specs.Joints.{IsNowLast}
use Rattle.store_engine.proofs.Leaving.{closed_leave}
use Rattle.solo_store.proofs.Holding.{store_leaves}
use Rattle.solo_store.proofs.store.Store.close.Goals as goal

pub returns-clause-leaves : goal.returns-clause-leaves
returns-clause-leaves g c =
    let d = g.D.Disk in
    let f = g.D.File.DiskFile in
    let last : IsNowLast d f = record {
      disk = λ x n image left. (g.met.D.Disk g.world.𝓛 g.world.𝓜 g.world.𝓡 ((λ s x. x), (λ x. x), (λ x. x), λ x. x)).only_now x n image left;
      file = λ x image left. (g.met.D.File.DiskFile g.world.𝓛 g.world.𝓜 g.world.𝓡 ((λ s x. x), (λ x. x), (λ x. x), λ x. x)).only_now x image left;
    } in
    let s = c.args.self in
    λ m co h. closed_leave d f last s.engine c.close.result m co (c.close.ensures.reads c.requires.one) (store_leaves d f last s m co h)
