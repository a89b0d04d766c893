use Rattle.std.proofs.Common.{List, ap, ◌∙◌, arith}
use Rattle.std.specs.Prelude.{Option}
use Rattle.std.specs.Arc.{arc_value}
use Rattle.ts_key.specs.Items.{Item, found}
use Rattle.ts_key.specs.Visible.{newer_item, visible_item}
use Rattle.super_version.specs.Live.{Live}
use Rattle.super_version.specs.Contents.{items_of_level}
use Rattle.point_read.proofs.Newer.{one_more}
use Rattle.point_read.proofs.hits.newer_in_levels.Goals as goal

pub loop-tables-preserved : goal.loop-tables-preserved
loop-tables-preserved c =
    let key = c.args.key.now in
    let best : Option Item = found key c.loop-tables.newest in
    one_more arc_value items_of_level key c.args.t.0 c.args.s.0 (found key c.args.best) c.args.levels.now c.loop-tables.tables-index c.tables-item.result best (found key c.newer_in_level-newest.result) (omega arith) c.tables-item.is c.loop-tables.invariant
    (c.newer_in_level-newest.ensures ∙ ap (λ (m : (List Live)). newer_item best (visible_item (items_of_level m) key c.args.t.0 c.args.s.0)) (c.as_slice.ensures ∙ c.as_ref.ensures))
