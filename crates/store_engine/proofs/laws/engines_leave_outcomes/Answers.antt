use Rattle.std.specs.Prelude.{IsTrue}
use Rattle.udt_disk.specs.declared.name.FileName.{FileName}
use Rattle.engine_laws.specs.Joints.{IsNowLast}
use Rattle.store_engine.proofs.Discarding.{discard_leaves}
use Rattle.store_engine.proofs.Leaving.{beside_leave, between_leave, closed_leave, failed_leave, failed_sync_leave}
use Rattle.store_engine.proofs.laws.engines_leave_outcomes.Goals as goal

pub returns : goal.returns
returns g c =
    let d = g.D.Disk in
    let f = g.D.File.DiskFile in
    let last : IsNowLast d f = record {
      disk = λ x n image left. (g.met.D.Disk g.world.𝓛 g.world.𝓜 g.world.𝓡 ((λ s x. x), (λ x. x), (λ x. x), λ x. x)).only_now x n image left;
      file = λ x image left. (g.met.D.File.DiskFile g.world.𝓛 g.world.𝓜 g.world.𝓡 ((λ s x. x), (λ x. x), (λ x. x), λ x. x)).only_now x image left;
    } in
    let stays : (x : g.row.D.Denot) (n : FileName) → IsTrue (d.keeps_model x) → d.may_leave x n (d.stands x n) = λ x n keeps. (g.met.D.Disk g.world.𝓛 g.world.𝓜 g.world.𝓡 ((λ s x. x), (λ x. x), (λ x. x), λ x. x)).now_stays x n keeps in
    record {
      between = λ engine now m co h. between_leave d f last engine now m co h;
      failed = λ old new m co number act none ran. failed_leave d f last old new m co number act none ran;
      failed_sync = λ old new m co number act none ran. failed_sync_leave d f last old new m co number act none ran;
      besides = λ j m co number act reply is leaves. beside_leave d f last j m co number act reply is leaves;
      discarded = λ old new given number m co back named one model dead leaves. discard_leaves d f last stays old new given number back named one model m co dead leaves;
      closed = λ engine closed m co only leaves. closed_leave d f last engine closed m co only leaves;
    }
