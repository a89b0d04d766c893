use Rattle.std.proofs.Common.{length, ap, arith}
use Rattle.data_block.specs.Written.{Written}
use Rattle.data_block.proofs.Sizes.{size_is}
use Rattle.data_block.proofs.writer.BlockWriter.size.Goals as goal

pub returns-clause-value : goal.returns-clause-value
returns-clause-value c = λ vs h.
    let entries = ap (λ (y : Written). length y.entries) c.self.view_is in
    let restarts = ap (λ (y : Written). length y.restarts) c.self.view_is in
    omega (arith, entries, restarts, c.len.ensures, c.len-2.ensures, c.self.inside.out.ok.0, c.self.inside.restarts.ok.0, size_is c.args.self.now vs h)
