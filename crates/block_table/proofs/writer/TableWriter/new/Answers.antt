use Rattle.std.proofs.Common.{arith}
use Rattle.block_table.proofs.Pushing.{nothing_written}
use Rattle.block_table.proofs.writer.TableWriter.new.Goals as goal

pub invariant_of-result-clause-room : goal.invariant_of-result-clause-room
invariant_of-result-clause-room c = omega (arith, nothing_written c.in_ok-block.block c.in_ok-block.ensures.written)
