use Rattle.std.proofs.Common.{refl, ap}
use Rattle.engine_laws.specs.Joints.{IsNowLast}
use Rattle.udt_model.specs.declared.reply.Reply.TheVariants.{Done}
use Rattle.udt_model.specs.Acts.Act.{sync_all}
use Rattle.solo_store.specs.Stores.{now_of, store_next}
use Rattle.solo_store.proofs.Accepted.{taken_step}
use Rattle.solo_store.proofs.Asking.{asks_sync}
use Rattle.solo_store.proofs.Events.{none_left, sync_refused}
use Rattle.solo_store.proofs.Faults.{sync_failed}
use Rattle.solo_store.proofs.Following.{follows_itself}
use Rattle.solo_store.proofs.Stepping.{quiet}
use Rattle.solo_store.proofs.Holding.{goes_on_of, on_under}
use Rattle.solo_store.proofs.store.Store.sync.Goals as goal

pub returns-in-Some-clause-step : goal.returns-in-Some-clause-step
returns-in-Some-clause-step g c =
    let d = g.D.Disk in
    let f = g.D.File.DiskFile in
    let last : IsNowLast d f = record {
      disk = λ x n image left. (g.met.D.Disk g.world.𝓛 g.world.𝓜 g.world.𝓡 ((λ s x. x), (λ x. x), (λ x. x), λ x. x)).only_now x n image left;
      file = λ x image left. (g.met.D.File.DiskFile g.world.𝓛 g.world.𝓜 g.world.𝓡 ((λ s x. x), (λ x. x), (λ x. x), λ x. x)).only_now x image left;
    } in
    sync_refused d f last c.args.self.now c.requires c.args.number c.in-Some.since c.in-Some.is

pub returns-in-Ok-clause-step : goal.returns-in-Ok-clause-step
returns-in-Ok-clause-step g c =
    let d = g.D.Disk in
    let f = g.D.File.DiskFile in
    let last : IsNowLast d f = record {
      disk = λ x n image left. (g.met.D.Disk g.world.𝓛 g.world.𝓜 g.world.𝓡 ((λ s x. x), (λ x. x), (λ x. x), λ x. x)).only_now x n image left;
      file = λ x image left. (g.met.D.File.DiskFile g.world.𝓛 g.world.𝓜 g.world.𝓡 ((λ s x. x), (λ x. x), (λ x. x), λ x. x)).only_now x image left;
    } in
    let s = c.args.self.now in
    let works = none_left s.halted c.in_default.not-Some in
    let done = c.in-Ok.ensures in
    let goes = goes_on_of d f s works c.requires in
    taken_step d f s (record s { engine = c.sync.new.self }) c.args.number _ sync_all (asks_sync s.names.items) refl c.requires
    (record {
      works = works;
      halted = works;
      names = refl;
      flush = refl;
      running = done.called.running refl;
      current = done.current (now_of s) goes.1;
      one = done.called.one;
      follows = follows_itself (now_of s);
      next = done.called.next;
      same = record { told = ap d.is_told done.called.same.disk; model = ap d.keeps_model done.called.same.disk };
    })
    Done (quiet s.halted (store_next s) Done refl) refl done.called.counted
    (λ m co h. done.tells (now_of s) m co h)
    (λ m co h. done.holds (now_of s) m co c.args.number h)
    (λ m co h. on_under d f s.engine c.sync.new.self m co c.args.number sync_all (done.moments (now_of s) m co h))

pub returns-in-Err-clause-step : goal.returns-in-Err-clause-step
returns-in-Err-clause-step g c =
    let d = g.D.Disk in
    let f = g.D.File.DiskFile in
    let last : IsNowLast d f = record {
      disk = λ x n image left. (g.met.D.Disk g.world.𝓛 g.world.𝓜 g.world.𝓡 ((λ s x. x), (λ x. x), (λ x. x), λ x. x)).only_now x n image left;
      file = λ x image left. (g.met.D.File.DiskFile g.world.𝓛 g.world.𝓜 g.world.𝓡 ((λ s x. x), (λ x. x), (λ x. x), λ x. x)).only_now x image left;
    } in
    let s = c.args.self.now in
    let works = none_left s.halted c.in_default.not-Some in
    let done = c.in-Err.ensures in
    sync_failed d f last s c.refused.new.self c.sync.new.self c.args.number works c.requires c.in-Err.fault c.refused.result done.fault
    (λ m co h. done.tells (now_of s) m co h) (λ m co h. done.moments (now_of s) m co h) done.called c.refused.ensures.told c.refused.ensures.halted
