use Rattle.std.proofs.Common.{max, ap, ◌∙◌, arith}
use Rattle.std.specs.Arc.{arc_value}
use Rattle.sorted_run.specs.Runs.{latest_of}
use Rattle.memtable.specs.Memtables.{Memtable, versions_of_memtable}
use Rattle.super_version.specs.Contents.{items_of_memtable}
use Rattle.store_engine.proofs.Latests.{latest_is, latest_more}
use Rattle.store_engine.proofs.latest.latest_in_mems.Goals as goal

pub loop-mem-preserved : goal.loop-mem-preserved
loop-mem-preserved c =
    latest_more arc_value items_of_memtable c.args.mems.now c.loop-mem.mem-index c.mem-item.result c.loop-mem.latest c.max-latest.result (omega arith) c.mem-item.is c.loop-mem.invariant
    (c.max-latest.ensures ∙ ap (max c.loop-mem.latest) (c.latest.ensures ∙ ap (λ (m : Memtable). latest_of (versions_of_memtable m)) c.as_ref.ensures ∙ latest_is (versions_of_memtable (arc_value c.mem-item.result))))
