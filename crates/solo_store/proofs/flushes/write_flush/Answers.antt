use Rattle.std.proofs.Common.{List, sym, subst}
use Rattle.memtable.specs.Memtables.{Memtable}
use Rattle.flush_job.specs.Flushes.{AreFlushable}
use Rattle.flush_job.specs.Walks.{versions_of_all}
use Rattle.solo_store.proofs.Writing.{written_flush}
use Rattle.solo_store.proofs.flushes.write_flush.Goals as goal

pub returns-in-Ok-true : goal.returns-in-Ok-true
returns-in-Ok-true g c =
    let f = g.F.DiskFile in
    let state = c.in-Some.state.now in
    let flushable = subst (λ (mems : List Memtable). AreFlushable c.args.flush.family (versions_of_all mems)) c.as_slice-mems.ensures (c.in-Ok-true.ensures c.in-Ok-true.field-0-test) in
    written_flush f c.args.version.now c.args.flush state c.args.file.now c.run_flush.new.file c.run_flush.result (sym c.in-Some.ensures) flushable
    ((rw c.as_slice-mems.ensures at c.run_flush.ensures) c.args.flush.family flushable)
