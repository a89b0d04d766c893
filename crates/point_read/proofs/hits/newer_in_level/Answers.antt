use Rattle.std.proofs.Common.{ap, ◌∙◌, arith}
use Rattle.std.specs.Prelude.{Option}
use Rattle.std.specs.Arc.{arc_value}
use Rattle.ts_key.specs.Items.{Item, found}
use Rattle.ts_key.specs.Visible.{newer_item, visible_item}
use Rattle.super_version.specs.Live.{Live}
use Rattle.super_version.specs.Contents.{items_of_table}
use Rattle.point_read.proofs.Newer.{one_more}
use Rattle.point_read.proofs.hits.newer_in_level.Goals as goal

pub loop-table-preserved : goal.loop-table-preserved
loop-table-preserved c =
    let key = c.args.key.now in
    let best : Option Item = found key c.loop-table.newest in
    one_more arc_value items_of_table key c.args.t.0 c.args.s.0 (found key c.args.best) c.args.tables.now c.loop-table.table-index c.table-item.result best (found key c.newer_in_table-newest.result) (omega arith) c.table-item.is c.loop-table.invariant
    (c.newer_in_table-newest.ensures ∙ ap (λ (m : Live). newer_item best (visible_item (items_of_table m) key c.args.t.0 c.args.s.0)) (c.as_ref.ensures))
