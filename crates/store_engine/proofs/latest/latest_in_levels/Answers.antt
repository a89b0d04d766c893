use Rattle.std.proofs.Common.{List, max, ap, ◌∙◌, arith}
use Rattle.std.specs.Arc.{arc_value}
use Rattle.super_version.specs.Contents.{items_of_level}
use Rattle.super_version.specs.Live.{Live}
use Rattle.store_engine.specs.Admission.{latest_stamp}
use Rattle.store_engine.proofs.Latests.{latest_more}
use Rattle.store_engine.proofs.latest.latest_in_levels.Goals as goal

pub loop-tables-preserved : goal.loop-tables-preserved
loop-tables-preserved c =
    latest_more arc_value items_of_level c.args.levels.now c.loop-tables.tables-index c.tables-item.result c.loop-tables.latest c.max-latest.result (omega arith) c.tables-item.is c.loop-tables.invariant
    (c.max-latest.ensures ∙ ap (max c.loop-tables.latest) (c.latest_in_level.ensures ∙ ap (λ (l : List Live). latest_stamp (items_of_level l)) (c.as_slice.ensures ∙ c.as_ref.ensures)))
