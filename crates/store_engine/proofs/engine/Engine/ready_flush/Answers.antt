use Rattle.std.proofs.Common.{refl}
use Rattle.store_engine.proofs.engine.Engine.ready_flush.Goals as goal

pub returns-in-Err-clause-refused : goal.returns-in-Err-clause-refused
returns-in-Err-clause-refused g c edit = record { disk = refl; wal = refl; next = refl; older = refl; file = refl; fold = refl; rests = λ rests. rests; reserved = tt; running = c.requires; fault = refl }

pub returns-in-Err-reserve_edit-clause-refused : goal.returns-in-Err-reserve_edit-clause-refused
returns-in-Err-reserve_edit-clause-refused g c edit =
    let e = c.in-Err-reserve_edit.ensures in
    record { disk = e.disk; wal = e.wal; next = e.next; older = e.older; file = e.file; fold = e.fold; rests = e.rests; reserved = tt; running = e.running; fault = e.fault }
