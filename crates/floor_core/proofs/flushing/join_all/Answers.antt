use Rattle.std.proofs.Common.{List, ap, sym, ◌∙◌}
use Rattle.udt_model.specs.State.{LiveTable, with_tables}
use Rattle.floor_core.proofs.Ending.{tables_more}
use Rattle.floor_core.proofs.flushing.join_all.Goals as goal

pub loop-table-preserved : goal.loop-table-preserved
loop-table-preserved c =
    let less : List LiveTable = c.pop.new.self.items in
    let tables : List LiveTable = c.loop-table.tables.items in
    let t : LiveTable = c.in-Some.table in
    ap (with_tables less) c.in_ok-join.ensures.ok
    ∙ sym (tables_more less t tables)
    ∙ ap (λ (z : List LiveTable). with_tables z tables) (sym c.in-Some.ensures.items)
    ∙ c.loop-table.invariant
