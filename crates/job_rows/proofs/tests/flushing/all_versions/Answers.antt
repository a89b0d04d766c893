use Rattle.std.proofs.Common.{List, ◌++◌, map, take, ap, sym, ◌∙◌, arith}
use Rattle.std.specs.Arc.{arc_value}
use Rattle.ts_key.specs.declared.version.Version.{Version}
use Rattle.memtable.specs.Memtables.{versions_of_memtable}
use Rattle.flush_job.specs.Walks.{versions_of_all}
use Rattle.flush_job.proofs.Walking.{flat_more}
use Rattle.job_rows.proofs.tests.flushing.all_versions.Goals as goal

pub loop-mem-preserved : goal.loop-mem-preserved
loop-mem-preserved c =
    let ms = c.args.mems.now in
    let i = c.loop-mem.mem-index in
    let old = versions_of_all (map arc_value (take i ms)) in
    c.in_ok-append.ensures.items
    ∙ ap (λ (vs : List Version). vs ++ c.in_ok-versions.versions.items) c.loop-mem.invariant
    ∙ ap (λ (vs : List Version). old ++ vs) (c.in_ok-versions.ensures.versions ∙ ap versions_of_memtable c.as_ref.ensures)
    ∙ sym (flat_more arc_value versions_of_memtable ms i c.mem-item.result (omega arith) c.mem-item.is)
