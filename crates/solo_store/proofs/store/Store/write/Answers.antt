use Rattle.std.proofs.Common.{sym, ◌∙◌}
use Rattle.engine_laws.specs.Joints.{IsNowLast}
use Rattle.solo_store.proofs.Events.{write_refused, write_unnamed}
use Rattle.solo_store.proofs.store.Store.write.Goals as goal

pub returns-in-Some : goal.returns-in-Some
returns-in-Some g c =
    let d = g.D.Disk in
    let f = g.D.File.DiskFile in
    let last : IsNowLast d f = record {
      disk = λ x n image left. (g.met.D.Disk g.world.𝓛 g.world.𝓜 g.world.𝓡 ((λ s x. x), (λ x. x), (λ x. x), λ x. x)).only_now x n image left;
      file = λ x image left. (g.met.D.File.DiskFile g.world.𝓛 g.world.𝓜 g.world.𝓡 ((λ s x. x), (λ x. x), (λ x. x), λ x. x)).only_now x image left;
    } in
    let s = c.args.self.now in
    let any = rw c.deref.ensures.value at c.any_unnamed.ensures in
    write_unnamed d f last s c.requires.ready c.args.number c.args.ops.now c.args.sync _ c.in-Some.is (sym any ∙ c.if-any_unnamed.true)

pub returns-in-Some-2 : goal.returns-in-Some-2
returns-in-Some-2 g c =
    let d = g.D.Disk in
    let f = g.D.File.DiskFile in
    let last : IsNowLast d f = record {
      disk = λ x n image left. (g.met.D.Disk g.world.𝓛 g.world.𝓜 g.world.𝓡 ((λ s x. x), (λ x. x), (λ x. x), λ x. x)).only_now x n image left;
      file = λ x image left. (g.met.D.File.DiskFile g.world.𝓛 g.world.𝓜 g.world.𝓡 ((λ s x. x), (λ x. x), (λ x. x), λ x. x)).only_now x image left;
    } in
    let s = c.args.self.now in
    let any = rw c.deref.ensures.value at c.any_unnamed.ensures in
    write_refused d f last s c.requires.ready c.args.number c.args.ops.now c.args.sync c.in-Some-2.since c.in-Some-2.is (sym any ∙ c.if-any_unnamed.false)
