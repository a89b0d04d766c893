use Rattle.std.proofs.Common.{refl, ap, map, subst, sym}
use Rattle.std.specs.Arc.{arc_value}
use Rattle.udt_model.specs.Acts.Act.{write}
use Rattle.udt_model.specs.declared.event.Event.TheVariants.{Write}
use Rattle.udt_model.specs.declared.reply.Reply.{Reply}
use Rattle.udt_model.specs.declared.reply.Reply.TheVariants.{OkAt}
use Rattle.engine_laws.specs.Joints.{IsNowLast}
use Rattle.solo_store.specs.Names.{op_named}
use Rattle.solo_store.specs.Steps.{IsStep}
use Rattle.solo_store.specs.Stores.{now_of, store_next}
use Rattle.solo_store.proofs.Accepted.{holds_written, taken_step, told_written}
use Rattle.solo_store.proofs.Asking.{Asks, asks_write}
use Rattle.solo_store.proofs.Following.{follows_written}
use Rattle.solo_store.proofs.Events.{write_wants}
use Rattle.solo_store.proofs.Faults.{fault_step, faulted_under, refuses_write}
use Rattle.solo_store.proofs.Files.{write_files}
use Rattle.solo_store.proofs.Stepping.{quiet}
use Rattle.solo_store.proofs.Naming.{named_batch}
use Rattle.solo_store.proofs.store.Store.take.Goals as goal

pub batch_of-requires-clause-batch : goal.batch_of-requires-clause-batch
batch_of-requires-clause-batch g c =
    let d = g.D.Disk in
    let f = g.D.File.DiskFile in
    let last : IsNowLast d f = record {
      disk = λ x n image left. (g.met.D.Disk g.world.𝓛 g.world.𝓜 g.world.𝓡 ((λ s x. x), (λ x. x), (λ x. x), λ x. x)).only_now x n image left;
      file = λ x image left. (g.met.D.File.DiskFile g.world.𝓛 g.world.𝓜 g.world.𝓡 ((λ s x. x), (λ x. x), (λ x. x), λ x. x)).only_now x image left;
    } in
    let s = c.args.self.now in
    rw c.deref.ensures.value (named_batch s.names.items c.args.ops.now c.requires.some c.requires.within c.requires.stamped)

pub returns-in_default : goal.returns-in_default
returns-in_default g c =
    let d = g.D.Disk in
    let f = g.D.File.DiskFile in
    let last : IsNowLast d f = record {
      disk = λ x n image left. (g.met.D.Disk g.world.𝓛 g.world.𝓜 g.world.𝓡 ((λ s x. x), (λ x. x), (λ x. x), λ x. x)).only_now x n image left;
      file = λ x image left. (g.met.D.File.DiskFile g.world.𝓛 g.world.𝓜 g.world.𝓡 ((λ s x. x), (λ x. x), (λ x. x), λ x. x)).only_now x image left;
    } in
    write_wants d f last c.args.self.now c.requires.ready c.args.number c.args.ops.now c.args.sync

pub returns-in-Ok-write : goal.returns-in-Ok-write
returns-in-Ok-write g c =
    let d = g.D.Disk in
    let f = g.D.File.DiskFile in
    let last : IsNowLast d f = record {
      disk = λ x n image left. (g.met.D.Disk g.world.𝓛 g.world.𝓜 g.world.𝓡 ((λ s x. x), (λ x. x), (λ x. x), λ x. x)).only_now x n image left;
      file = λ x image left. (g.met.D.File.DiskFile g.world.𝓛 g.world.𝓜 g.world.𝓡 ((λ s x. x), (λ x. x), (λ x. x), λ x. x)).only_now x image left;
    } in
    let s = c.args.self.now in
    let ops = map (op_named c.deref.result.now) c.args.ops.now in
    let act = write ops c.args.sync in
    let done = rw (c.as_ref.ensures, c.in-Ok.ensures) at c.in-Ok-write.ensures in
    let next = arc_value c.in-Ok-write.next in
    let engine = c.write.new.self in
    let asks : Asks s.names.items (Write c.args.ops.now c.args.sync) act = rw c.deref.ensures.value (asks_write s.names.items c.args.ops.now c.args.sync) in
    rw c.as_ref-in-Ok-write.ensures
    (taken_step d f s (record s { engine = engine; version = c.in-Ok-write.next }) c.args.number (Write c.args.ops.now c.args.sync) act asks refl c.requires.ready
    (record {
      works = c.requires.works;
      halted = c.requires.works;
      names = refl;
      flush = refl;
      running = done.called.running refl;
      current = done.current;
      one = done.called.one;
      follows = follows_written ops (now_of s) next done.written.adds;
      next = done.called.next;
      same = record { told = ap d.is_told done.called.same.disk; model = ap d.keeps_model done.called.same.disk };
    })
    (OkAt next.last.0) (quiet s.halted (store_next s) (OkAt next.last.0) refl) refl done.called.counted
    (λ m co h. told_written d f engine next m co c.args.number ops c.args.sync (done.holds m co c.args.number h) (done.tells m co h))
    (λ m co h. holds_written d f engine next m co c.args.number ops c.args.sync (done.holds m co c.args.number h))
    (λ m co h. done.moments m co c.args.number h))

pub returns : goal.returns
returns g c =
    let d = g.D.Disk in
    let f = g.D.File.DiskFile in
    let last : IsNowLast d f = record {
      disk = λ x n image left. (g.met.D.Disk g.world.𝓛 g.world.𝓜 g.world.𝓡 ((λ s x. x), (λ x. x), (λ x. x), λ x. x)).only_now x n image left;
      file = λ x image left. (g.met.D.File.DiskFile g.world.𝓛 g.world.𝓜 g.world.𝓡 ((λ s x. x), (λ x. x), (λ x. x), λ x. x)).only_now x image left;
    } in
    let s = c.args.self.now in
    let ops = map (op_named c.deref.result.now) c.args.ops.now in
    let act = write ops c.args.sync in
    let done = rw (c.as_ref.ensures, c.in-Ok.ensures) at c.in-Err.ensures in
    let asks : Asks s.names.items (Write c.args.ops.now c.args.sync) act = rw c.deref.ensures.value (asks_write s.names.items c.args.ops.now c.args.sync) in
    let faulted = faulted_under d f last s c.write.new.self c.args.number act c.requires.works c.in-Err.fault (λ m co h. done.tells m co h) done.refused (λ n is. absurd (write_files (now_of s) ops c.in-Err.fault n done.answers is)) (λ m co h. done.moments m co c.args.number h) done.called in
    subst (λ (r : Reply). IsStep d f s c.refused.new.self c.args.number (Write c.args.ops.now c.args.sync) r) (sym c.refused.ensures.told)
    (fault_step d f last s c.refused.new.self c.write.new.self c.args.number act c.requires.works c.requires.ready (Write c.args.ops.now c.args.sync) asks (refuses_write c.args.ops.now ops c.args.sync) c.in-Err.fault faulted c.refused.ensures.halted)
