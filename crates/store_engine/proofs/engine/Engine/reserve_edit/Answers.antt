use Rattle.std.proofs.Common.{refl}
use Rattle.store_engine.proofs.Together.{together_reserved}
use Rattle.store_engine.proofs.engine.Engine.reserve_edit.Goals as goal

pub returns-in-Ok : goal.returns-in-Ok
returns-in-Ok g c =
    let e = c.in-Ok.ensures in
    record { disk = refl; wal = refl; next = refl; older = refl; file = e.file; fold = e.fold; rests = e.rests; reserved = e.reserved; running = record { together = together_reserved g.D.File.DiskFile c.args.self.now.manifest c.reserve.new.self c.args.self.now.wal c.args.self.now.next c.requires.together e.fold (e.ready c.requires.together.edits); runs = c.requires.runs }; fault = tt }

pub returns-in-Err : goal.returns-in-Err
returns-in-Err g c =
    let e = c.in-Err.ensures in
    record { disk = refl; wal = refl; next = refl; older = refl; file = e.file; fold = e.fold; rests = e.rests; reserved = tt; running = record { together = together_reserved g.D.File.DiskFile c.args.self.now.manifest c.reserve.new.self c.args.self.now.wal c.args.self.now.next c.requires.together e.fold (e.ready c.requires.together.edits); runs = c.requires.runs }; fault = refl }
