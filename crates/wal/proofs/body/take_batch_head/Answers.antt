use Rattle.wal.specs.Heads.{batch_head_bytes, IsAllowedBatchHead}
use Rattle.wal.proofs.Fronts.{hands_on}
use Rattle.wal.proofs.Batches.{batch_head_short, batch_head_none, batch_head_refused}
use Rattle.wal.proofs.body.take_batch_head.Goals as goal

pub returns-in_err-take : goal.returns-in_err-take
returns-in_err-take c =
    hands_on batch_head_bytes IsAllowedBatchHead _ _ _ c.from_residual.result c.in_err-take.field-0.0 c.from_residual.ensures.1 (λ _. batch_head_short c.args.reader.now.left.now c.in_err-take.ensures.1)

pub returns-in_default : goal.returns-in_default
returns-in_default c =
    batch_head_none c.in_ok-take.field-0.now c.take.new.reader.left.now c.args.reader.now.left.now c.in_ok-take.ensures.1 c.in_ok-take.ensures.0 c.in_default.ensures

pub returns-else-is_allowed : goal.returns-else-is_allowed
returns-else-is_allowed c =
    batch_head_refused c.in-Some.head c.in_ok-take.field-0.now c.take.new.reader.left.now c.args.reader.now.left.now c.in-Some.ensures.1 c.in-Some.ensures.0 c.in_ok-take.ensures.0 c.if-is_allowed.ensures.refused
