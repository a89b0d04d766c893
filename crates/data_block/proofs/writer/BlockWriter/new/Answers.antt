use Rattle.std.proofs.Common.{refl}
use Rattle.data_block.proofs.Written.{nothing_written}
use Rattle.data_block.proofs.writer.BlockWriter.new.Goals as goal

pub returns-clause-written : goal.returns-clause-written
returns-clause-written c = nothing_written _ c.new.ensures.items c.new-2.ensures.items refl c.new-3.ensures.items
