use Rattle.std.proofs.Common.{◌≤◌, subst, sym}
use Rattle.std.specs.Arc.{arc_value}
use Rattle.ts_key.specs.declared.numbers.Ts.{Ts}
use Rattle.engine_laws.specs.Joints.{IsNowLast}
use Rattle.store_engine.specs.Installing.{IsFlushEnded, floor_over_now}
use Rattle.store_engine.proofs.FlushEnded.{ended_called, ended_current, ended_fault, ended_installed, ended_now, ended_ran, ended_refused, ended_shown, ended_tells, over_floor}
use Rattle.store_engine.proofs.engine.Engine.install_flush.Goals as goal

pub returns-clause-tells : goal.returns-clause-tells
returns-clause-tells g c m co job h by =
    let d = g.D.Disk in
    let f = g.D.File.DiskFile in
    let last : IsNowLast d f = record {
      disk = λ x n image left. (g.met.D.Disk g.world.𝓛 g.world.𝓜 g.world.𝓡 ((λ s x. x), (λ x. x), (λ x. x), λ x. x)).only_now x n image left;
      file = λ x image left. (g.met.D.File.DiskFile g.world.𝓛 g.world.𝓜 g.world.𝓡 ((λ s x. x), (λ x. x), (λ x. x), λ x. x)).only_now x image left;
    } in
    let self = c.args.self.now in
    let new = c.end_flush.new.self in
    let now = c.args.now.now in
    let family = c.args.family in
    let gone = c.args.gone in
    let through = c.args.through in
    let number = c.args.number in
    let given = c.args.file in
    let out = c.args.out in
    let run : IsFlushEnded d f arc_value now (record { family = family; gone = gone; through = through; number = number; floor = floor_over_now now family out.floor }) out.table given self new c.end_flush.result =
    subst (λ (floor : Ts). IsFlushEnded d f arc_value now (record { family = family; gone = gone; through = through; number = number; floor = floor }) out.table given self new c.end_flush.result) c.floor_behind.ensures c.end_flush.ensures in
    ended_tells d f last self new now family gone through number given out c.requires.running c.requires.current c.requires.may m co 0 job h by arc_value c.end_flush.result run

pub returns-clause-holds : goal.returns-clause-holds
returns-clause-holds g c m co event job h by =
    let d = g.D.Disk in
    let f = g.D.File.DiskFile in
    let last : IsNowLast d f = record {
      disk = λ x n image left. (g.met.D.Disk g.world.𝓛 g.world.𝓜 g.world.𝓡 ((λ s x. x), (λ x. x), (λ x. x), λ x. x)).only_now x n image left;
      file = λ x image left. (g.met.D.File.DiskFile g.world.𝓛 g.world.𝓜 g.world.𝓡 ((λ s x. x), (λ x. x), (λ x. x), λ x. x)).only_now x image left;
    } in
    let self = c.args.self.now in
    let new = c.end_flush.new.self in
    let now = c.args.now.now in
    let family = c.args.family in
    let gone = c.args.gone in
    let through = c.args.through in
    let number = c.args.number in
    let given = c.args.file in
    let out = c.args.out in
    let run : IsFlushEnded d f arc_value now (record { family = family; gone = gone; through = through; number = number; floor = floor_over_now now family out.floor }) out.table given self new c.end_flush.result =
    subst (λ (floor : Ts). IsFlushEnded d f arc_value now (record { family = family; gone = gone; through = through; number = number; floor = floor }) out.table given self new c.end_flush.result) c.floor_behind.ensures c.end_flush.ensures in
    ended_now d f last self new now family gone through number given out c.requires.running c.requires.current c.requires.may m co event job h by arc_value c.end_flush.result run

pub returns-clause-moments : goal.returns-clause-moments
returns-clause-moments g c m co event job h by =
    let d = g.D.Disk in
    let f = g.D.File.DiskFile in
    let last : IsNowLast d f = record {
      disk = λ x n image left. (g.met.D.Disk g.world.𝓛 g.world.𝓜 g.world.𝓡 ((λ s x. x), (λ x. x), (λ x. x), λ x. x)).only_now x n image left;
      file = λ x image left. (g.met.D.File.DiskFile g.world.𝓛 g.world.𝓜 g.world.𝓡 ((λ s x. x), (λ x. x), (λ x. x), λ x. x)).only_now x image left;
    } in
    let self = c.args.self.now in
    let new = c.end_flush.new.self in
    let now = c.args.now.now in
    let family = c.args.family in
    let gone = c.args.gone in
    let through = c.args.through in
    let number = c.args.number in
    let given = c.args.file in
    let out = c.args.out in
    let run : IsFlushEnded d f arc_value now (record { family = family; gone = gone; through = through; number = number; floor = floor_over_now now family out.floor }) out.table given self new c.end_flush.result =
    subst (λ (floor : Ts). IsFlushEnded d f arc_value now (record { family = family; gone = gone; through = through; number = number; floor = floor }) out.table given self new c.end_flush.result) c.floor_behind.ensures c.end_flush.ensures in
    ended_ran d f last self new now family gone through number given out c.requires.running c.requires.current c.requires.may m co event job h by arc_value c.end_flush.result run

pub returns-clause-refused : goal.returns-clause-refused
returns-clause-refused g c =
    let d = g.D.Disk in
    let f = g.D.File.DiskFile in
    let last : IsNowLast d f = record {
      disk = λ x n image left. (g.met.D.Disk g.world.𝓛 g.world.𝓜 g.world.𝓡 ((λ s x. x), (λ x. x), (λ x. x), λ x. x)).only_now x n image left;
      file = λ x image left. (g.met.D.File.DiskFile g.world.𝓛 g.world.𝓜 g.world.𝓡 ((λ s x. x), (λ x. x), (λ x. x), λ x. x)).only_now x image left;
    } in
    let self = c.args.self.now in
    let new = c.end_flush.new.self in
    let now = c.args.now.now in
    let family = c.args.family in
    let gone = c.args.gone in
    let through = c.args.through in
    let number = c.args.number in
    let given = c.args.file in
    let out = c.args.out in
    let run : IsFlushEnded d f arc_value now (record { family = family; gone = gone; through = through; number = number; floor = floor_over_now now family out.floor }) out.table given self new c.end_flush.result =
    subst (λ (floor : Ts). IsFlushEnded d f arc_value now (record { family = family; gone = gone; through = through; number = number; floor = floor }) out.table given self new c.end_flush.result) c.floor_behind.ensures c.end_flush.ensures in
    ended_refused d f last self new now family gone through number given out c.requires.running c.requires.current c.requires.may arc_value c.end_flush.result run

pub returns-clause-current : goal.returns-clause-current
returns-clause-current g c =
    let d = g.D.Disk in
    let f = g.D.File.DiskFile in
    let last : IsNowLast d f = record {
      disk = λ x n image left. (g.met.D.Disk g.world.𝓛 g.world.𝓜 g.world.𝓡 ((λ s x. x), (λ x. x), (λ x. x), λ x. x)).only_now x n image left;
      file = λ x image left. (g.met.D.File.DiskFile g.world.𝓛 g.world.𝓜 g.world.𝓡 ((λ s x. x), (λ x. x), (λ x. x), λ x. x)).only_now x image left;
    } in
    let self = c.args.self.now in
    let new = c.end_flush.new.self in
    let now = c.args.now.now in
    let family = c.args.family in
    let gone = c.args.gone in
    let through = c.args.through in
    let number = c.args.number in
    let given = c.args.file in
    let out = c.args.out in
    let run : IsFlushEnded d f arc_value now (record { family = family; gone = gone; through = through; number = number; floor = floor_over_now now family out.floor }) out.table given self new c.end_flush.result =
    subst (λ (floor : Ts). IsFlushEnded d f arc_value now (record { family = family; gone = gone; through = through; number = number; floor = floor }) out.table given self new c.end_flush.result) c.floor_behind.ensures c.end_flush.ensures in
    ended_current d f last self new now family gone through number given out c.requires.running c.requires.current c.requires.may arc_value c.end_flush.result run

pub returns-clause-shown : goal.returns-clause-shown
returns-clause-shown g c =
    let d = g.D.Disk in
    let f = g.D.File.DiskFile in
    let last : IsNowLast d f = record {
      disk = λ x n image left. (g.met.D.Disk g.world.𝓛 g.world.𝓜 g.world.𝓡 ((λ s x. x), (λ x. x), (λ x. x), λ x. x)).only_now x n image left;
      file = λ x image left. (g.met.D.File.DiskFile g.world.𝓛 g.world.𝓜 g.world.𝓡 ((λ s x. x), (λ x. x), (λ x. x), λ x. x)).only_now x image left;
    } in
    let self = c.args.self.now in
    let new = c.end_flush.new.self in
    let now = c.args.now.now in
    let family = c.args.family in
    let gone = c.args.gone in
    let through = c.args.through in
    let number = c.args.number in
    let given = c.args.file in
    let out = c.args.out in
    let run : IsFlushEnded d f arc_value now (record { family = family; gone = gone; through = through; number = number; floor = floor_over_now now family out.floor }) out.table given self new c.end_flush.result =
    subst (λ (floor : Ts). IsFlushEnded d f arc_value now (record { family = family; gone = gone; through = through; number = number; floor = floor }) out.table given self new c.end_flush.result) c.floor_behind.ensures c.end_flush.ensures in
    ended_shown d f last self new now family gone through number given out c.requires.running c.requires.current c.requires.may arc_value c.end_flush.result run

pub returns-clause-installed : goal.returns-clause-installed
returns-clause-installed g c =
    let d = g.D.Disk in
    let f = g.D.File.DiskFile in
    let last : IsNowLast d f = record {
      disk = λ x n image left. (g.met.D.Disk g.world.𝓛 g.world.𝓜 g.world.𝓡 ((λ s x. x), (λ x. x), (λ x. x), λ x. x)).only_now x n image left;
      file = λ x image left. (g.met.D.File.DiskFile g.world.𝓛 g.world.𝓜 g.world.𝓡 ((λ s x. x), (λ x. x), (λ x. x), λ x. x)).only_now x image left;
    } in
    let self = c.args.self.now in
    let new = c.end_flush.new.self in
    let now = c.args.now.now in
    let family = c.args.family in
    let gone = c.args.gone in
    let through = c.args.through in
    let number = c.args.number in
    let given = c.args.file in
    let out = c.args.out in
    let run : IsFlushEnded d f arc_value now (record { family = family; gone = gone; through = through; number = number; floor = floor_over_now now family out.floor }) out.table given self new c.end_flush.result =
    subst (λ (floor : Ts). IsFlushEnded d f arc_value now (record { family = family; gone = gone; through = through; number = number; floor = floor }) out.table given self new c.end_flush.result) c.floor_behind.ensures c.end_flush.ensures in
    ended_installed d f last self new now family gone through number given out c.requires.running c.requires.current c.requires.may arc_value c.end_flush.result run

pub returns-clause-called : goal.returns-clause-called
returns-clause-called g c =
    let d = g.D.Disk in
    let f = g.D.File.DiskFile in
    let last : IsNowLast d f = record {
      disk = λ x n image left. (g.met.D.Disk g.world.𝓛 g.world.𝓜 g.world.𝓡 ((λ s x. x), (λ x. x), (λ x. x), λ x. x)).only_now x n image left;
      file = λ x image left. (g.met.D.File.DiskFile g.world.𝓛 g.world.𝓜 g.world.𝓡 ((λ s x. x), (λ x. x), (λ x. x), λ x. x)).only_now x image left;
    } in
    let self = c.args.self.now in
    let new = c.end_flush.new.self in
    let now = c.args.now.now in
    let family = c.args.family in
    let gone = c.args.gone in
    let through = c.args.through in
    let number = c.args.number in
    let given = c.args.file in
    let out = c.args.out in
    let run : IsFlushEnded d f arc_value now (record { family = family; gone = gone; through = through; number = number; floor = floor_over_now now family out.floor }) out.table given self new c.end_flush.result =
    subst (λ (floor : Ts). IsFlushEnded d f arc_value now (record { family = family; gone = gone; through = through; number = number; floor = floor }) out.table given self new c.end_flush.result) c.floor_behind.ensures c.end_flush.ensures in
    ended_called d f last self new now family gone through number given out c.requires.running c.requires.current c.requires.may arc_value c.end_flush.result run

pub returns-clause-fault : goal.returns-clause-fault
returns-clause-fault g c =
    let d = g.D.Disk in
    let f = g.D.File.DiskFile in
    let last : IsNowLast d f = record {
      disk = λ x n image left. (g.met.D.Disk g.world.𝓛 g.world.𝓜 g.world.𝓡 ((λ s x. x), (λ x. x), (λ x. x), λ x. x)).only_now x n image left;
      file = λ x image left. (g.met.D.File.DiskFile g.world.𝓛 g.world.𝓜 g.world.𝓡 ((λ s x. x), (λ x. x), (λ x. x), λ x. x)).only_now x image left;
    } in
    let self = c.args.self.now in
    let new = c.end_flush.new.self in
    let now = c.args.now.now in
    let family = c.args.family in
    let gone = c.args.gone in
    let through = c.args.through in
    let number = c.args.number in
    let given = c.args.file in
    let out = c.args.out in
    let run : IsFlushEnded d f arc_value now (record { family = family; gone = gone; through = through; number = number; floor = floor_over_now now family out.floor }) out.table given self new c.end_flush.result =
    subst (λ (floor : Ts). IsFlushEnded d f arc_value now (record { family = family; gone = gone; through = through; number = number; floor = floor }) out.table given self new c.end_flush.result) c.floor_behind.ensures c.end_flush.ensures in
    ended_fault d f last self new now family gone through number given out c.requires.running c.requires.current c.requires.may arc_value c.end_flush.result run

pub end_flush-requires-clause-floor : goal.end_flush-requires-clause-floor
end_flush-requires-clause-floor g c κs within state here = subst (λ (floor : Ts). state.floor.0 ≤ floor.0) (sym c.floor_behind.ensures) (over_floor c.args.now.now c.args.family c.args.out.floor state here)
