use Rattle.std.specs.List.{flat_map}
use Rattle.wal.specs.Heads.{batch_head_bytes, IsAllowedBatchHead}
use Rattle.wal.specs.Records.{op_bytes, batch_bytes, IsLoggedBatch}
use Rattle.wal.proofs.Fronts.{hands_on, none_there}
use Rattle.wal.proofs.Batches.{batch_without_head, batch_without_ops}
use Rattle.wal.proofs.body.take_batch.Goals as goal

pub returns-in_err-head : goal.returns-in_err-head
returns-in_err-head c =
    hands_on batch_bytes (IsLoggedBatch c.args.families) _ _ _ c.from_residual.result c.in_err-head.field-0.0 c.from_residual.ensures.1 (λ is. batch_without_head c.args.families c.args.reader.now.left.now (none_there batch_head_bytes IsAllowedBatchHead _ _ c.in_err-head.ensures is))

pub returns-in_err-ops : goal.returns-in_err-ops
returns-in_err-ops c =
    hands_on batch_bytes (IsLoggedBatch c.args.families) _ _ _ c.from_residual-in_err-ops.result c.in_err-ops.field-0.0 c.from_residual-in_err-ops.ensures.1
    (λ is. batch_without_ops c.args.families c.in_ok-head.head c.take_batch_head.new.reader.left.now c.args.reader.now.left.now c.in_ok-head.ensures.0 c.in_ok-head.ensures.1 (none_there (flat_map op_bytes) _ _ _ c.in_err-ops.ensures is))
