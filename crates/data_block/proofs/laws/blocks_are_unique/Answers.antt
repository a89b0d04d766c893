use Rattle.data_block.proofs.Faulting.{blocks_unique}
use Rattle.data_block.proofs.laws.blocks_are_unique.Goals as goal

pub returns : goal.returns
returns c = blocks_unique
