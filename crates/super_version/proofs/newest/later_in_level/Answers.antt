use Rattle.std.proofs.Common.{ℕ, ap, ◌∙◌, arith}
use Rattle.std.specs.Prelude.{Option, option_map}
use Rattle.std.specs.Arc.{arc_value}
use Rattle.ts_key.specs.Visible.{newest_ts}
use Rattle.memtable.specs.Memtables.{greater}
use Rattle.super_version.specs.Contents.{items_of_table}
use Rattle.super_version.specs.Live.{Live}
use Rattle.super_version.proofs.Greatest.{one_more}
use Rattle.super_version.proofs.newest.later_in_level.Goals as goal

pub loop-table-preserved : goal.loop-table-preserved
loop-table-preserved c =
    let key = c.args.key.now in
    let best : Option ℕ = option_map (λ ts. ts.0) c.loop-table.later in
    one_more arc_value items_of_table key (option_map (λ ts. ts.0) c.args.best) c.args.tables.now c.loop-table.table-index c.table-item.result best (option_map (λ ts. ts.0) c.later_in_table-later.result) (omega arith) c.table-item.is c.loop-table.invariant
    (c.later_in_table-later.ensures ∙ ap (λ (m : Live). greater best (newest_ts (items_of_table m) key)) (c.as_ref.ensures))
