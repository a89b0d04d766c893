use Rattle.std.proofs.Common.{max, ap, ◌∙◌, arith}
use Rattle.std.specs.Arc.{arc_value}
use Rattle.super_version.specs.Contents.{items_of_table}
use Rattle.super_version.specs.Live.{Live}
use Rattle.store_engine.specs.Admission.{latest_stamp}
use Rattle.store_engine.proofs.Latests.{latest_more}
use Rattle.store_engine.proofs.latest.latest_in_level.Goals as goal

pub loop-table-preserved : goal.loop-table-preserved
loop-table-preserved c =
    latest_more arc_value items_of_table c.args.tables.now c.loop-table.table-index c.table-item.result c.loop-table.latest c.max-latest.result (omega arith) c.table-item.is c.loop-table.invariant
    (c.max-latest.ensures ∙ ap (max c.loop-table.latest) (c.latest.ensures ∙ ap (λ (t : Live). latest_stamp (items_of_table t)) c.as_ref.ensures))
