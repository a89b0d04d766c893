use Rattle.std.proofs.Common.{map, ap, ◌∙◌, arith}
use Rattle.std.specs.Arc.{arc_value}
use Rattle.super_version.specs.Levels.{placed_on_level}
use Rattle.super_version.proofs.Placing.{placed_more}
use Rattle.super_version.proofs.levels.place_all.Goals as goal

pub loop-table-preserved : goal.loop-table-preserved
loop-table-preserved c =
    let level = c.args.level in
    let t = c.table-item.result in
    c.in_ok-more.ensures
    ∙ ap (λ xs. placed_on_level level t (map arc_value xs)) c.deref.ensures.value
    ∙ ap (placed_on_level level t) c.loop-table.invariant
    ∙ placed_more level c.args.added.now c.loop-table.table-index t c.args.tables.now (omega arith) c.table-item.is
