use Rattle.wal.specs.Heads.{op_head_bytes, IsAllowedOpHead}
use Rattle.wal.proofs.Fronts.{hands_on}
use Rattle.wal.proofs.Operations.{op_head_short, op_head_refused}
use Rattle.wal.proofs.body.take_op_head.Goals as goal

pub returns-in_err-take : goal.returns-in_err-take
returns-in_err-take c =
    hands_on op_head_bytes (IsAllowedOpHead c.args.families) _ _ _ c.from_residual.result c.in_err-take.field-0.0 c.from_residual.ensures.1 (λ _. op_head_short c.args.families c.args.reader.now.left.now c.in_err-take.ensures.1)

pub returns-else-is_allowed : goal.returns-else-is_allowed
returns-else-is_allowed c =
    op_head_refused c.args.families c.of-head.result c.in_ok-take.field-0.now c.take.new.reader.left.now c.args.reader.now.left.now c.requires c.of-head.ensures.fits c.of-head.ensures.spelled c.in_ok-take.ensures.0 c.if-is_allowed.ensures.refused
