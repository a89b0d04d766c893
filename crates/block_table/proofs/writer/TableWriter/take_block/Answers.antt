use Rattle.std.proofs.Common.{ap, length, arith}
use Rattle.data_block.specs.Written.{Written}
use Rattle.block_table.proofs.Pushing.{nothing_written}
use Rattle.block_table.proofs.writer.TableWriter.take_block.Goals as goal

pub invariant_of-self-clause-room : goal.invariant_of-self-clause-room
invariant_of-self-clause-room c = omega (arith, ap (λ (b : Written). length b.entries) c.replace.ensures.after, nothing_written c.in_ok-empty.empty c.in_ok-empty.ensures.written)
