use Rattle.std.proofs.Common.{List, ℕ, ◌≡◌, length}
use Rattle.wal.specs.Heads.{op_head_bytes, IsAllowedOpHead}
use Rattle.wal.specs.Records.{op_bytes, value_bytes, IsLoggedOp}
use Rattle.wal.proofs.Fronts.{hands_on, none_there}
use Rattle.wal.proofs.Operations.{op_without_head, op_without_key, op_without_value}
use Rattle.wal.proofs.body.take_op.Goals as goal

pub returns-in_err-head : goal.returns-in_err-head
returns-in_err-head c =
    hands_on op_bytes (IsLoggedOp c.args.families) _ _ _ c.from_residual.result c.in_err-head.field-0.0 c.from_residual.ensures.1 (λ is. op_without_head c.args.families c.args.reader.now.left.now (none_there op_head_bytes (IsAllowedOpHead c.args.families) _ _ c.in_err-head.ensures is))

pub returns-in_err-key : goal.returns-in_err-key
returns-in_err-key c =
    hands_on op_bytes (IsLoggedOp c.args.families) _ _ _ c.from_residual-in_err-key.result c.in_err-key.field-0.0 c.from_residual-in_err-key.ensures.1
    (λ is. op_without_key c.args.families c.in_ok-head.head c.take_op_head.new.reader.left.now c.args.reader.now.left.now c.requires c.in_ok-head.ensures.0 c.in_ok-head.ensures.1 (none_there (λ (key : List ℕ). key) (λ (key : List ℕ). length key ≡ c.in_ok-head.head.key_len) _ _ c.in_err-key.ensures is))

pub returns-in_err-op : goal.returns-in_err-op
returns-in_err-op c =
    hands_on op_bytes (IsLoggedOp c.args.families) _ _ _ c.from_residual-in_err-op.result c.in_err-op.field-0.0 c.from_residual-in_err-op.ensures.1
    (λ is. op_without_value c.args.families c.in_ok-head.head c.in_ok-key.key c.take_op_head.new.reader.left.now c.take_key.new.reader.left.now c.args.reader.now.left.now c.requires c.in_ok-head.ensures.0 c.in_ok-head.ensures.1 c.in_ok-key.ensures.0 c.in_ok-key.ensures.1 (none_there value_bytes _ _ _ c.in_err-op.ensures is))
