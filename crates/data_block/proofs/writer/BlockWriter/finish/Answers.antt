use Rattle.std.proofs.Common.{length, ap, arith}
use Rattle.data_block.specs.Written.{Written}
use Rattle.data_block.proofs.Written.{is_block}
use Rattle.data_block.proofs.writer.BlockWriter.finish.Goals as goal

pub returns-in_err-put_numbers-clause-readable : goal.returns-in_err-put_numbers-clause-readable
returns-in_err-put_numbers-clause-readable c = λ vs.
    let i = c.self.invariant in
    let entries = ap (λ (y : Written). length y.entries) c.self.view_is in
    let restarts = ap (λ (y : Written). length y.restarts) c.self.view_is in
    let count = ap (λ (y : Written). y.count) c.self.view_is in
    is_block c.args.self vs (omega (arith, entries, i.0)) (omega (arith, restarts, count, i.1)) (omega (arith, entries, count, i.2))

pub returns-clause-readable : goal.returns-clause-readable
returns-clause-readable c = λ vs.
    let i = c.self.invariant in
    let entries = ap (λ (y : Written). length y.entries) c.self.view_is in
    let restarts = ap (λ (y : Written). length y.restarts) c.self.view_is in
    let count = ap (λ (y : Written). y.count) c.self.view_is in
    is_block c.args.self vs (omega (arith, entries, i.0)) (omega (arith, restarts, count, i.1)) (omega (arith, entries, count, i.2))
