use Rattle.std.proofs.Common.{refl}
use Rattle.std.specs.Prelude.{Ok}
use Rattle.super_version.specs.Changes.{family_with_seal}
use Rattle.engine_laws.specs.Joints.{IsNowLast}
use Rattle.store_engine.specs.declared.seal.Sealed.TheVariants.{Rolled, Waiting}
use Rattle.solo_store.specs.Stores.{now_of}
use Rattle.solo_store.specs.declared.store.Store.{Store}
use Rattle.solo_store.proofs.Following.{follows_changed}
use Rattle.solo_store.proofs.Starting.{start_absent, start_busy, start_fault, start_halted, start_nothing, start_runs, start_started}
use Rattle.solo_store.proofs.store.Store.start_flush.Goals as goal

pub returns-in_default-clause-step : goal.returns-in_default-clause-step
returns-in_default-clause-step g c =
    let d = g.D.Disk in
    let f = g.D.File.DiskFile in
    let last : IsNowLast d f = record {
      disk = λ x n image left. (g.met.D.Disk g.world.𝓛 g.world.𝓜 g.world.𝓡 ((λ s x. x), (λ x. x), (λ x. x), λ x. x)).only_now x n image left;
      file = λ x image left. (g.met.D.File.DiskFile g.world.𝓛 g.world.𝓜 g.world.𝓡 ((λ s x. x), (λ x. x), (λ x. x), λ x. x)).only_now x image left;
    } in
    let s = c.args.self.now in
    let i = c.family_of-family.result in
    let name = c.args.family.now in
    let is_family = c.family_of-family.ensures in
    start_absent d f last s c.requires c.args.number name i is_family (rw c.as_ref.ensures at c.in_default.ensures)

pub returns-in-Some-halted-clause-step : goal.returns-in-Some-halted-clause-step
returns-in-Some-halted-clause-step g c =
    let d = g.D.Disk in
    let f = g.D.File.DiskFile in
    let last : IsNowLast d f = record {
      disk = λ x n image left. (g.met.D.Disk g.world.𝓛 g.world.𝓜 g.world.𝓡 ((λ s x. x), (λ x. x), (λ x. x), λ x. x)).only_now x n image left;
      file = λ x image left. (g.met.D.File.DiskFile g.world.𝓛 g.world.𝓜 g.world.𝓡 ((λ s x. x), (λ x. x), (λ x. x), λ x. x)).only_now x image left;
    } in
    let s = c.args.self.now in
    let i = c.family_of-family.result in
    let name = c.args.family.now in
    let is_family = c.family_of-family.ensures in
    let state = c.in-Some.state.now in
    let found = rw c.as_ref.ensures at c.in-Some.ensures in
    start_halted d f last s c.requires c.args.number name i is_family state found c.in-Some-halted.since c.in-Some-halted.is

pub returns-in-Some-flush-clause-step : goal.returns-in-Some-flush-clause-step
returns-in-Some-flush-clause-step g c =
    let d = g.D.Disk in
    let f = g.D.File.DiskFile in
    let last : IsNowLast d f = record {
      disk = λ x n image left. (g.met.D.Disk g.world.𝓛 g.world.𝓜 g.world.𝓡 ((λ s x. x), (λ x. x), (λ x. x), λ x. x)).only_now x n image left;
      file = λ x image left. (g.met.D.File.DiskFile g.world.𝓛 g.world.𝓜 g.world.𝓡 ((λ s x. x), (λ x. x), (λ x. x), λ x. x)).only_now x image left;
    } in
    let s = c.args.self.now in
    let i = c.family_of-family.result in
    let name = c.args.family.now in
    let is_family = c.family_of-family.ensures in
    let state = c.in-Some.state.now in
    let found = rw c.as_ref.ensures at c.in-Some.ensures in
    let works = c.in_default-halted.is in
    start_busy d f last s c.requires c.args.number name i is_family state found works c.in-Some-flush.flush c.in-Some-flush.is

pub returns-in-Ok-Nothing-clause-step : goal.returns-in-Ok-Nothing-clause-step
returns-in-Ok-Nothing-clause-step g c =
    let d = g.D.Disk in
    let f = g.D.File.DiskFile in
    let last : IsNowLast d f = record {
      disk = λ x n image left. (g.met.D.Disk g.world.𝓛 g.world.𝓜 g.world.𝓡 ((λ s x. x), (λ x. x), (λ x. x), λ x. x)).only_now x n image left;
      file = λ x image left. (g.met.D.File.DiskFile g.world.𝓛 g.world.𝓜 g.world.𝓡 ((λ s x. x), (λ x. x), (λ x. x), λ x. x)).only_now x image left;
    } in
    let s = c.args.self.now in
    let i = c.family_of-family.result in
    let name = c.args.family.now in
    let is_family = c.family_of-family.ensures in
    let state = c.in-Some.state.now in
    let found = rw c.as_ref.ensures at c.in-Some.ensures in
    let works = c.in_default-halted.is in
    let idle = c.in_default-flush.is in
    let done = rw (c.as_ref-2.ensures, c.in-Ok-Nothing.field-0-is) at c.in-Ok-Nothing.ensures in
    start_nothing d f last s c.requires c.args.number name i is_family state found works idle c.seal.new.self (done.still refl) (λ m co h none. done.tells m co h none)

pub returns-in-Ok-Waiting-clause-step : goal.returns-in-Ok-Waiting-clause-step
returns-in-Ok-Waiting-clause-step g c =
    let d = g.D.Disk in
    let f = g.D.File.DiskFile in
    let last : IsNowLast d f = record {
      disk = λ x n image left. (g.met.D.Disk g.world.𝓛 g.world.𝓜 g.world.𝓡 ((λ s x. x), (λ x. x), (λ x. x), λ x. x)).only_now x n image left;
      file = λ x image left. (g.met.D.File.DiskFile g.world.𝓛 g.world.𝓜 g.world.𝓡 ((λ s x. x), (λ x. x), (λ x. x), λ x. x)).only_now x image left;
    } in
    let s = c.args.self.now in
    let i = c.family_of-family.result in
    let name = c.args.family.now in
    let is_family = c.family_of-family.ensures in
    let state = c.in-Some.state.now in
    let found = rw c.as_ref.ensures at c.in-Some.ensures in
    let works = c.in_default-halted.is in
    let idle = c.in_default-flush.is in
    let done = rw (c.as_ref-2.ensures, c.in-Ok-Waiting.field-0-is) at c.in-Ok-Waiting.ensures in
    let mid : Store g.row.D.Denot g.row.D-File.Denot f = record s { engine = c.seal.new.self } in
    start_runs d f last s c.requires c.args.number name i is_family state found works idle mid c.note_flush.new.self (Ok Waiting) refl refl refl refl
    (λ m co h none. done.tells m co h none) (λ m co h none. done.holds m co c.args.number h none) (λ m co h. done.moments m co h) done.current refl done.called
    c.note_flush.result c.note_flush.ensures.told c.note_flush.ensures.runs

pub returns-in-Ok-Waiting-clause-started : goal.returns-in-Ok-Waiting-clause-started
returns-in-Ok-Waiting-clause-started g c =
    let d = g.D.Disk in
    let f = g.D.File.DiskFile in
    let last : IsNowLast d f = record {
      disk = λ x n image left. (g.met.D.Disk g.world.𝓛 g.world.𝓜 g.world.𝓡 ((λ s x. x), (λ x. x), (λ x. x), λ x. x)).only_now x n image left;
      file = λ x image left. (g.met.D.File.DiskFile g.world.𝓛 g.world.𝓜 g.world.𝓡 ((λ s x. x), (λ x. x), (λ x. x), λ x. x)).only_now x image left;
    } in
    let s = c.args.self.now in
    let i = c.family_of-family.result in
    let name = c.args.family.now in
    let is_family = c.family_of-family.ensures in
    let state = c.in-Some.state.now in
    let found = rw c.as_ref.ensures at c.in-Some.ensures in
    let works = c.in_default-halted.is in
    let idle = c.in_default-flush.is in
    let done = rw (c.as_ref-2.ensures, c.in-Ok-Waiting.field-0-is) at c.in-Ok-Waiting.ensures in
    let mid : Store g.row.D.Denot g.row.D-File.Denot f = record s { engine = c.seal.new.self } in
    start_started d f last s c.requires c.args.number name i is_family state found works idle mid c.note_flush.new.self (Ok Waiting) refl refl refl refl
    (λ m co h none. done.tells m co h none) (λ m co h none. done.holds m co c.args.number h none) (λ m co h. done.moments m co h) done.current refl done.called
    c.note_flush.result c.note_flush.ensures.told c.note_flush.ensures.runs

pub returns-in-Ok-Rolled-clause-step : goal.returns-in-Ok-Rolled-clause-step
returns-in-Ok-Rolled-clause-step g c =
    let d = g.D.Disk in
    let f = g.D.File.DiskFile in
    let last : IsNowLast d f = record {
      disk = λ x n image left. (g.met.D.Disk g.world.𝓛 g.world.𝓜 g.world.𝓡 ((λ s x. x), (λ x. x), (λ x. x), λ x. x)).only_now x n image left;
      file = λ x image left. (g.met.D.File.DiskFile g.world.𝓛 g.world.𝓜 g.world.𝓡 ((λ s x. x), (λ x. x), (λ x. x), λ x. x)).only_now x image left;
    } in
    let s = c.args.self.now in
    let i = c.family_of-family.result in
    let name = c.args.family.now in
    let is_family = c.family_of-family.ensures in
    let state = c.in-Some.state.now in
    let found = rw c.as_ref.ensures at c.in-Some.ensures in
    let works = c.in_default-halted.is in
    let idle = c.in_default-flush.is in
    let done = rw (c.as_ref-2.ensures, c.in-Ok-Rolled.field-0-is) at c.in-Ok-Rolled.ensures in
    let mid : Store g.row.D.Denot g.row.D-File.Denot f = record s { engine = c.seal.new.self; version = c.in-Ok-Rolled.version } in
    let changes = done.shown.changes in
    start_runs d f last s c.requires c.args.number name i is_family state found works idle mid c.note_flush-in-Ok-Rolled.new.self (Ok (Rolled c.in-Ok-Rolled.version c.in-Ok-Rolled.field-0-1)) refl refl changes.last
    (follows_changed i.0 family_with_seal (now_of s) _ (λ x. refl) changes).count
    (λ m co h none. done.tells m co h none) (λ m co h none. done.holds m co c.args.number h none) (λ m co h. done.moments m co h) done.current refl done.called
    c.note_flush-in-Ok-Rolled.result c.note_flush-in-Ok-Rolled.ensures.told c.note_flush-in-Ok-Rolled.ensures.runs

pub returns-in-Ok-Rolled-clause-started : goal.returns-in-Ok-Rolled-clause-started
returns-in-Ok-Rolled-clause-started g c =
    let d = g.D.Disk in
    let f = g.D.File.DiskFile in
    let last : IsNowLast d f = record {
      disk = λ x n image left. (g.met.D.Disk g.world.𝓛 g.world.𝓜 g.world.𝓡 ((λ s x. x), (λ x. x), (λ x. x), λ x. x)).only_now x n image left;
      file = λ x image left. (g.met.D.File.DiskFile g.world.𝓛 g.world.𝓜 g.world.𝓡 ((λ s x. x), (λ x. x), (λ x. x), λ x. x)).only_now x image left;
    } in
    let s = c.args.self.now in
    let i = c.family_of-family.result in
    let name = c.args.family.now in
    let is_family = c.family_of-family.ensures in
    let state = c.in-Some.state.now in
    let found = rw c.as_ref.ensures at c.in-Some.ensures in
    let works = c.in_default-halted.is in
    let idle = c.in_default-flush.is in
    let done = rw (c.as_ref-2.ensures, c.in-Ok-Rolled.field-0-is) at c.in-Ok-Rolled.ensures in
    let mid : Store g.row.D.Denot g.row.D-File.Denot f = record s { engine = c.seal.new.self; version = c.in-Ok-Rolled.version } in
    let changes = done.shown.changes in
    start_started d f last s c.requires c.args.number name i is_family state found works idle mid c.note_flush-in-Ok-Rolled.new.self (Ok (Rolled c.in-Ok-Rolled.version c.in-Ok-Rolled.field-0-1)) refl refl changes.last
    (follows_changed i.0 family_with_seal (now_of s) _ (λ x. refl) changes).count
    (λ m co h none. done.tells m co h none) (λ m co h none. done.holds m co c.args.number h none) (λ m co h. done.moments m co h) done.current refl done.called
    c.note_flush-in-Ok-Rolled.result c.note_flush-in-Ok-Rolled.ensures.told c.note_flush-in-Ok-Rolled.ensures.runs

pub returns-clause-step : goal.returns-clause-step
returns-clause-step g c =
    let d = g.D.Disk in
    let f = g.D.File.DiskFile in
    let last : IsNowLast d f = record {
      disk = λ x n image left. (g.met.D.Disk g.world.𝓛 g.world.𝓜 g.world.𝓡 ((λ s x. x), (λ x. x), (λ x. x), λ x. x)).only_now x n image left;
      file = λ x image left. (g.met.D.File.DiskFile g.world.𝓛 g.world.𝓜 g.world.𝓡 ((λ s x. x), (λ x. x), (λ x. x), λ x. x)).only_now x image left;
    } in
    let s = c.args.self.now in
    let i = c.family_of-family.result in
    let name = c.args.family.now in
    let is_family = c.family_of-family.ensures in
    let state = c.in-Some.state.now in
    let found = rw c.as_ref.ensures at c.in-Some.ensures in
    let works = c.in_default-halted.is in
    let idle = c.in_default-flush.is in
    let done = rw c.as_ref-2.ensures at c.in-Err.ensures in
    start_fault d f last s c.requires c.args.number name i is_family state found works idle c.seal.new.self c.refused.new.self c.in-Err.fault c.refused.result
    (λ m co h none. done.tells m co h none) done.refused (λ m co h. done.moments m co h) done.answers done.called c.refused.ensures.told c.refused.ensures.halted
