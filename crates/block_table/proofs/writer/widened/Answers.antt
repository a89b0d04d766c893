use Rattle.std.proofs.Common.{subst}
use Rattle.block_table.specs.Ranges.{IsRangeOf}
use Rattle.block_table.proofs.Pushing.{range_wider, range_first}
use Rattle.block_table.proofs.writer.widened.Goals as goal

pub returns-in-Some : goal.returns-in-Some
returns-in-Some c = λ vs v h k. range_wider vs v c.in-Some.r c.in_ok-greatest.greatest c.args.key.now (subst (λ o. IsRangeOf o vs) c.in-Some.is h) c.in_ok-greatest.ensures k

pub returns-in_ok-least-in-None : goal.returns-in_ok-least-in-None
returns-in_ok-least-in-None c = λ vs v h k. range_first vs v c.in_ok-least-in-None.least c.in_ok-greatest.greatest c.args.key.now (subst (λ o. IsRangeOf o vs) c.in-None.is h) c.in_ok-least-in-None.ensures c.in_ok-greatest.ensures k
