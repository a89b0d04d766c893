use Rattle.engine_laws.specs.Joints.{IsNowLast}
use Rattle.solo_store.proofs.Ending.{end_halted}
use Rattle.solo_store.proofs.store.Store.end_flush.Goals as goal

pub returns-in-Some-halted-clause-step : goal.returns-in-Some-halted-clause-step
returns-in-Some-halted-clause-step g c =
    let d = g.D.Disk in
    let f = g.D.File.DiskFile in
    let last : IsNowLast d f = record {
      disk = λ x n image left. (g.met.D.Disk g.world.𝓛 g.world.𝓜 g.world.𝓡 ((λ s x. x), (λ x. x), (λ x. x), λ x. x)).only_now x n image left;
      file = λ x image left. (g.met.D.File.DiskFile g.world.𝓛 g.world.𝓜 g.world.𝓡 ((λ s x. x), (λ x. x), (λ x. x), λ x. x)).only_now x image left;
    } in
    let s = c.args.self.now in
    rw⁻¹ c.requires.runs.of_start (end_halted d f last s c.requires.ready c.args.number c.requires.runs.flush c.requires.runs.runs c.args.family.now c.requires.runs.of_family c.in-Some-halted.since c.in-Some-halted.is)
