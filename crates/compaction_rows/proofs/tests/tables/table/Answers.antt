use Rattle.std.proofs.Common.{sym, subst}
use Rattle.block_table.specs.Held.{Held}
use Rattle.compaction_rows.specs.Inputs.{IsOfFirst}
use Rattle.compaction_rows.proofs.tests.tables.table.Goals as goal

pub returns : goal.returns
returns c = subst (λ (t : Held). IsOfFirst (record { number = c.args.number; table = t })) (sym c.in_ok-new.ensures.ok) (c.in_ok-table.ensures c.args.number)
