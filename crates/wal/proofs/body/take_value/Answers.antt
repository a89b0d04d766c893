use Rattle.std.proofs.Common.{arith}
use Rattle.wal.proofs.Fronts.{hands_on}
use Rattle.wal.proofs.Operations.{long_value, IsValue, value_short, value_too_long, value_cut}
use Rattle.wal.proofs.body.take_value.Goals as goal

pub returns-in_err-take : goal.returns-in_err-take
returns-in_err-take c =
    hands_on long_value IsValue _ _ _ c.from_residual.result c.in_err-take.field-0.0 c.from_residual.ensures.1 (λ _. value_short c.args.reader.now.left.now c.in_err-take.ensures.1)

pub returns-then-len-gt-VALUE_LIMIT : goal.returns-then-len-gt-VALUE_LIMIT
returns-then-len-gt-VALUE_LIMIT c =
    value_too_long c.u32_of-len.result c.in_ok-take.field-0.now c.take.new.reader.left.now c.args.reader.now.left.now c.u32_of-len.ensures c.in_ok-take.ensures.0 (omega arith) (omega arith)

pub returns-in_err-take-2 : goal.returns-in_err-take-2
returns-in_err-take-2 c =
    hands_on long_value IsValue _ _ _ c.from_residual-in_err-take-2.result c.in_err-take-2.field-0.0 c.from_residual-in_err-take-2.ensures.1
    (λ _. value_cut c.u32_of-len.result c.in_ok-take.field-0.now c.take.new.reader.left.now c.args.reader.now.left.now c.u32_of-len.ensures c.in_ok-take.ensures.0 (omega arith) c.in_err-take-2.ensures.1)
