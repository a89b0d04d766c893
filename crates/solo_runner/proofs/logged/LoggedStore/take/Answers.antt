use Rattle.std.proofs.Common.{◌≡◌, ℕ, Option, ap, sym, subst, ◌∙◌}
use Rattle.std.specs.Prelude.{Ok, Err, Some, IfSome}
use Rattle.udt_disk.specs.Crash.{Image}
use Rattle.gate_log.specs.declared.fault.LogFault.TheVariants as faults
use Rattle.udt_model.specs.State.{State}
use Rattle.solo_runner.specs.Adding.{IsWriteRefusal}
use Rattle.solo_runner.specs.Named.{reply_of_write}
use Rattle.solo_runner.specs.LoggedStores.{store_state, wal_of}
use Rattle.solo_runner.proofs.StepLemmas.{added_batch, added_last, added_within, is_added, is_logged, logs_failed, logs_nothing, logs_taken, refused_same, refused_told, step_refused}
use Rattle.solo_runner.proofs.logged.LoggedStore.take.Goals as goal

pub log_behind-requires-clause-batch : goal.log_behind-requires-clause-batch
log_behind-requires-clause-batch g c κs within =
    let found = c.in-Ok-None in
    let added = is_added c.args.self.now.plain c.admit.new.self c.count-count.result c.args.ops.now found.field-0 found.field-0-is found.ensures.ok c.count-count.ensures in
    added_batch c.args.self.now.plain c.admit.new.self c.count-count.result c.args.ops.now added c.requires.some c.requires.within c.requires.stamped

pub log_behind-requires-clause-last : goal.log_behind-requires-clause-last
log_behind-requires-clause-last g c κs within =
    let found = c.in-Ok-None in
    let added = is_added c.args.self.now.plain c.admit.new.self c.count-count.result c.args.ops.now found.field-0 found.field-0-is found.ensures.ok c.count-count.ensures in
    added_last c.args.self.now.plain c.admit.new.self c.count-count.result c.args.ops.now added (found.ensures.room (ap Ok found.field-0-is))

pub log_behind-requires-clause-families : goal.log_behind-requires-clause-families
log_behind-requires-clause-families g c κs within =
    let found = c.in-Ok-None in
    let added = is_added c.args.self.now.plain c.admit.new.self c.count-count.result c.args.ops.now found.field-0 found.field-0-is found.ensures.ok c.count-count.ensures in
    added_within c.args.self.now.plain c.admit.new.self c.count-count.result _ c.args.ops.now added c.requires.in_step.sizes (sym found.ensures.refusal ∙ found.field-0-is)

pub returns-in-Ok : goal.returns-in-Ok
returns-in-Ok g c =
    let s = c.args.self.now in
    let found = c.in-Ok-None in
    let logs = is_logged g.F.DiskFile (wal_of s) c.log_behind.new.wal s.plain c.admit.new.self s.halted c.count-count.result c.args.ops.now found.field-0 c.args.sync c.log_behind.result (Ok tt)
    c.requires.works found.ensures.works found.field-0-is found.ensures.ok found.ensures.refusal c.count-count.ensures c.in-Ok.is c.log_behind.ensures c.requires.in_step in
    logs_taken g.F.DiskFile (wal_of s) c.log_behind.new.wal (store_state s) s.plain c.admit.new.self c.number.new.self _ c.count-count.result c.args.number c.args.ops.now c.args.sync c.number.result logs
    c.number.ensures.last c.number.ensures.reply (ap (λ (h : Option ℕ). let m : State = record c.number.new.self { halted = h } in m) c.requires.works)

pub returns-in-Err-NoMemory : goal.returns-in-Err-NoMemory
returns-in-Err-NoMemory g c =
    let only_now = λ (x : g.row.F.Denot) (image : Image) (left : g.F.DiskFile.left_since x (g.F.DiskFile.moment x) image). (g.met.F.DiskFile g.world.𝓛 g.world.𝓜 g.world.𝓡 ((λ s x. x), (λ x. x), (λ x. x), λ x. x)).only_now x image left in
    let s = c.args.self.now in
    let found = c.in-Ok-None in
    let logs = is_logged g.F.DiskFile (wal_of s) c.log_behind.new.wal s.plain c.admit.new.self s.halted c.count-count.result c.args.ops.now found.field-0 c.args.sync c.log_behind.result (Err faults.NoMemory)
    c.requires.works found.ensures.works found.field-0-is found.ensures.ok found.ensures.refusal c.count-count.ensures (c.in-Err-NoMemory.is ∙ ap Err c.in-Err-NoMemory.field-0-is) c.log_behind.ensures c.requires.in_step in
    logs_nothing g.F.DiskFile only_now (wal_of s) c.log_behind.new.wal (store_state s) s.plain c.admit.new.self c.take_back.new.self _ c.count-count.result c.args.number c.args.ops.now c.args.sync logs
    c.take_back.ensures (ap (λ (h : Option ℕ). let m : State = record c.take_back.new.self { halted = h } in m) c.requires.works)

pub returns-in-Err-DiskFault : goal.returns-in-Err-DiskFault
returns-in-Err-DiskFault g c =
    let s = c.args.self.now in
    let found = c.in-Ok-None in
    let back = c.take_back-in-Err-DiskFault in
    let logs = is_logged g.F.DiskFile (wal_of s) c.log_behind.new.wal s.plain c.admit.new.self s.halted c.count-count.result c.args.ops.now found.field-0 c.args.sync c.log_behind.result (Err faults.DiskFault)
    c.requires.works found.ensures.works found.field-0-is found.ensures.ok found.ensures.refusal c.count-count.ensures (c.in-Err-DiskFault.is ∙ ap Err c.in-Err-DiskFault.field-0-is) c.log_behind.ensures c.requires.in_step in
    logs_failed g.F.DiskFile (wal_of s) c.log_behind.new.wal (store_state s) s.plain c.admit.new.self back.new.self c.count-count.result c.args.number c.args.ops.now c.args.sync logs back.ensures

pub returns-in-Ok-Some : goal.returns-in-Ok-Some
returns-in-Ok-Some g c =
    let only_now = λ (x : g.row.F.Denot) (image : Image) (left : g.F.DiskFile.left_since x (g.F.DiskFile.moment x) image). (g.met.F.DiskFile g.world.𝓛 g.world.𝓜 g.world.𝓡 ((λ s x. x), (λ x. x), (λ x. x), λ x. x)).only_now x image left in
    let s = c.args.self.now in
    let found = c.in-Ok-Some in
    let works : s.plain.halted ≡ _ = found.ensures.works in
    let back : c.admit.new.self ≡ s.plain = refused_same s.plain c.admit.new.self c.args.ops.now found.field-0 found.refusal found.field-0-is found.ensures.ok in
    let state : store_state s ≡ s.plain = ap (λ (h : Option ℕ). let m : State = record s.plain { halted = h } in m) (c.requires.works ∙ sym works) in
    let told = ap (λ (m : State). reply_of_write m c.args.ops.now) (sym state) in
    step_refused g.F.DiskFile only_now (wal_of s) (store_state s) _ c.args.number c.args.ops.now c.args.sync found.refusal
    (ap (λ (m : State). let n : State = record m { halted = s.halted } in n) back)
    c.requires.in_step
    (refused_told s.plain c.args.ops.now found.field-0 found.refusal works found.ensures.refusal found.field-0-is ∙ told)
    (subst (λ (f : Option _). IfSome f IsWriteRefusal) found.field-0-is found.ensures.built)
