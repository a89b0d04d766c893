-- What a writer leaves.
use Rattle.std.specs.Prelude.{◌≤◌, length}
use Rattle.wal.specs.Records.{IsShortValue}
use Rattle.ts_key.specs.declared.batch.WriteOp.{WriteOp}
use Rattle.ts_key.specs.declared.limits.TheConstants.{KEY_LIMIT}

-- the key and the value are within their limits
pub record IsShortOp (op : WriteOp) : Type 0 where
  pub key : length op.key ≤ KEY_LIMIT
  pub value : IsShortValue op.op
