use Rattle.std.proofs.Common.{refl, ap, subst, sym}
use Rattle.udt_model.specs.Acts.Act.{raise}
use Rattle.udt_model.specs.declared.event.Event.TheVariants.{Raise}
use Rattle.udt_model.specs.declared.reply.Reply.{Reply}
use Rattle.udt_model.specs.declared.reply.Reply.TheVariants.{Done}
use Rattle.super_version.specs.Changes.{family_with_floor}
use Rattle.engine_laws.specs.Joints.{IsNowLast}
use Rattle.solo_store.specs.Steps.{IsStep}
use Rattle.solo_store.specs.Stores.{now_of, store_next}
use Rattle.solo_store.proofs.Accepted.{taken_step}
use Rattle.solo_store.proofs.Asking.{Asks, asks_raise}
use Rattle.solo_store.proofs.Following.{follows_changed}
use Rattle.solo_store.proofs.Events.{none_left, raise_refused}
use Rattle.solo_store.proofs.Faults.{fault_step, faulted_under, refuses_raise}
use Rattle.solo_store.proofs.Files.{raise_files}
use Rattle.solo_store.proofs.Stepping.{quiet}
use Rattle.solo_store.proofs.store.Store.raise.Goals as goal

pub returns-in-Some : goal.returns-in-Some
returns-in-Some g c =
    let d = g.D.Disk in
    let f = g.D.File.DiskFile in
    let last : IsNowLast d f = record {
      disk = λ x n image left. (g.met.D.Disk g.world.𝓛 g.world.𝓜 g.world.𝓡 ((λ s x. x), (λ x. x), (λ x. x), λ x. x)).only_now x n image left;
      file = λ x image left. (g.met.D.File.DiskFile g.world.𝓛 g.world.𝓜 g.world.𝓡 ((λ s x. x), (λ x. x), (λ x. x), λ x. x)).only_now x image left;
    } in
    let s = c.args.self.now in
    raise_refused d f last s c.requires c.args.number c.args.family.now (now_of s) c.family_of-family.result refl c.family_of-family.ensures c.args.floor c.in-Some.since _ c.halted_reply.result c.in-Some.is refl c.halted_reply.ensures

pub returns-in-Ok : goal.returns-in-Ok
returns-in-Ok g c =
    let d = g.D.Disk in
    let f = g.D.File.DiskFile in
    let last : IsNowLast d f = record {
      disk = λ x n image left. (g.met.D.Disk g.world.𝓛 g.world.𝓜 g.world.𝓡 ((λ s x. x), (λ x. x), (λ x. x), λ x. x)).only_now x n image left;
      file = λ x image left. (g.met.D.File.DiskFile g.world.𝓛 g.world.𝓜 g.world.𝓡 ((λ s x. x), (λ x. x), (λ x. x), λ x. x)).only_now x image left;
    } in
    let s = c.args.self.now in
    let name = c.args.family.now in
    let i = c.family_of-family.result in
    let works = none_left s.halted c.in_default.not-Some in
    let done = rw c.as_ref.ensures at c.in-Ok.ensures in
    let asks : Asks s.names.items (Raise name c.args.floor) (raise i c.args.floor) = rw c.family_of-family.ensures (asks_raise s.names.items name c.args.floor) in
    taken_step d f s (record s { engine = c.raise.new.self; version = c.in-Ok.next }) c.args.number (Raise name c.args.floor) (raise i c.args.floor) asks refl c.requires
    (record {
      works = works;
      halted = works;
      names = refl;
      flush = refl;
      running = done.called.running refl;
      current = done.current;
      one = done.called.one;
      follows = follows_changed i.0 (family_with_floor c.args.floor) (now_of s) _ (λ g. refl) done.raised;
      next = done.called.next;
      same = record { told = ap d.is_told done.called.same.disk; model = ap d.keeps_model done.called.same.disk };
    })
    Done (quiet s.halted (store_next s) Done refl) refl done.called.counted
    (λ m co h. done.tells m co h)
    (λ m co h. done.holds m co c.args.number h)
    (λ m co h. done.moments m co c.args.number h)

pub returns-in-Err : goal.returns-in-Err
returns-in-Err g c =
    let d = g.D.Disk in
    let f = g.D.File.DiskFile in
    let last : IsNowLast d f = record {
      disk = λ x n image left. (g.met.D.Disk g.world.𝓛 g.world.𝓜 g.world.𝓡 ((λ s x. x), (λ x. x), (λ x. x), λ x. x)).only_now x n image left;
      file = λ x image left. (g.met.D.File.DiskFile g.world.𝓛 g.world.𝓜 g.world.𝓡 ((λ s x. x), (λ x. x), (λ x. x), λ x. x)).only_now x image left;
    } in
    let s = c.args.self.now in
    let name = c.args.family.now in
    let i = c.family_of-family.result in
    let act = raise i c.args.floor in
    let works = none_left s.halted c.in_default.not-Some in
    let done = rw c.as_ref.ensures at c.in-Err.ensures in
    let asks : Asks s.names.items (Raise name c.args.floor) act = rw c.family_of-family.ensures (asks_raise s.names.items name c.args.floor) in
    let faulted = faulted_under d f last s c.raise.new.self c.args.number act works c.in-Err.fault (λ m co h. done.tells m co h) done.refused (λ n is. absurd (raise_files _ c.args.floor c.in-Err.fault n done.answers is)) (λ m co h. done.moments m co c.args.number h) done.called in
    subst (λ (r : Reply). IsStep d f s c.refused.new.self c.args.number (Raise name c.args.floor) r) (sym c.refused.ensures.told)
    (fault_step d f last s c.refused.new.self c.raise.new.self c.args.number act works c.requires (Raise name c.args.floor) asks (refuses_raise name i c.args.floor) c.in-Err.fault faulted c.refused.ensures.halted)
