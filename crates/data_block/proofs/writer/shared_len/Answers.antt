use Rattle.std.proofs.Common.{arith}
use Rattle.std.specs.Prelude.{nat_eq}
use Rattle.std.proofs.lemmas.List.Sums.{common_prefix_len-le}
use Rattle.data_block.proofs.writer.shared_len.Goals as goal

pub returns-clause-within : goal.returns-clause-within
returns-clause-within c = let le = common_prefix_len-le nat_eq c.args.last.now c.args.key.now in omega (arith, le.1, c.common_prefix.ensures)
