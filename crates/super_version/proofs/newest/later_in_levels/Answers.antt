use Rattle.std.proofs.Common.{ℕ, List, ap, ◌∙◌, arith}
use Rattle.std.specs.Prelude.{Option, option_map}
use Rattle.std.specs.Arc.{arc_value}
use Rattle.ts_key.specs.Visible.{newest_ts}
use Rattle.memtable.specs.Memtables.{greater}
use Rattle.super_version.specs.Contents.{items_of_level}
use Rattle.super_version.specs.Live.{Live}
use Rattle.super_version.proofs.Greatest.{one_more}
use Rattle.super_version.proofs.newest.later_in_levels.Goals as goal

pub loop-tables-preserved : goal.loop-tables-preserved
loop-tables-preserved c =
    let key = c.args.key.now in
    let best : Option ℕ = option_map (λ ts. ts.0) c.loop-tables.later in
    one_more arc_value items_of_level key (option_map (λ ts. ts.0) c.args.best) c.args.levels.now c.loop-tables.tables-index c.tables-item.result best (option_map (λ ts. ts.0) c.later_in_level-later.result) (omega arith) c.tables-item.is c.loop-tables.invariant
    (c.later_in_level-later.ensures ∙ ap (λ (m : (List Live)). greater best (newest_ts (items_of_level m) key)) (c.as_slice.ensures ∙ c.as_ref.ensures))
