use Rattle.std.proofs.Common.{List, ap, sym, ◌∙◌}
use Rattle.udt_model.specs.State.{Compaction, LiveTable, changed_at}
use Rattle.floor_core.specs.contracts.machine.Core.{the_view}
use Rattle.floor_core.specs.declared.event.CoreEvent.TheVariants.{CompactEnd}
use Rattle.floor_core.specs.Cores.{CoreState}
use Rattle.floor_core.specs.Machine.{changed_by}
use Rattle.floor_core.specs.Steps.{holding_tables, tables_behind}
use Rattle.floor_core.proofs.Ending.{end_left_by}
use Rattle.floor_core.proofs.machine.Core.end_compaction.Goals as goal

pub returns-clause-left : goal.returns-clause-left
returns-clause-left c =
    let v : CoreState = the_view c.self.inside in
    let job : Compaction = c.in-Some.job in
    let pieces = c.args.pieces.now in
    let fs = c.self.inside.families.items in
    end_left_by v job pieces c.in-Some-2.tables c.set_tables.new.families.items
    (c.set_tables.ensures.set
    ∙ ap (λ n. changed_at n (holding_tables c.into_vec.result.items) fs) (ap (λ (j : Compaction). j.family.0) c.job.view_is)
    ∙ ap (λ (z : List LiveTable). changed_at job.family.0 (holding_tables z) fs) c.into_vec.ensures)
    (sym c.if-is_some.false ∙ c.is_some.ensures) (sym c.in-Some.is) (sym c.in-Some-2.is ∙ c.in_ok-tables.ensures ∙ ap (λ (z : CoreState). tables_behind z.store job pieces) (sym c.self.view_is))
    ∙ ap (λ (z : CoreState). changed_by z (CompactEnd pieces)) c.self.view_is
