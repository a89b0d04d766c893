use Rattle.block_table.proofs.Unique.{tables_once}
use Rattle.block_table.proofs.laws.tables_are_unique.Goals as goal

pub returns : goal.returns
returns c = tables_once
