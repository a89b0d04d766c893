use Rattle.data_block.proofs.Joins.{sorted_join}
use Rattle.data_block.proofs.laws.coming_after_sorts.Goals as goal

pub returns : goal.returns
returns c = sorted_join
