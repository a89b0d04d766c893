use Rattle.std.proofs.Common.{arith}
use Rattle.data_block.proofs.Ends.{too_many}
use Rattle.data_block.proofs.tail.entries_end.Goals as goal

pub returns-then-front-count : goal.returns-then-front-count
returns-then-front-count c =
    too_many c.args.image.now c.split_at.result.1.now c.u32_of-count.result (omega arith) c.split_at.ensures.back c.u32_of-count.ensures (omega arith) (omega (arith, c.split_at.ensures.front_len))
