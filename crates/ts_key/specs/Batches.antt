-- Which operations are a batch, and why others are none.
use Rattle.std.specs.Prelude.{◌≡◌, ℕ, ◌-◌, ◌^◌, ◌<◌, ◌≤◌, ◌==◌, List, [], length, All, Option, Some, position}
use Rattle.ts_key.specs.declared.limits.TheConstants.{BATCH_LIMIT, STAMP_LIMIT}
use Rattle.ts_key.specs.declared.batch.WriteOp.{WriteOp}
use Rattle.ts_key.specs.declared.batch.BatchFault.{BatchFault}
use Rattle.ts_key.specs.declared.batch.BatchFault.TheVariants.{Empty, TooMany, BadStamp}

-- the timestamp can be a version's: it isn't the greatest number
abbrev pub IsStamped : WriteOp → Type 0
IsStamped op = op.ts.0 ≤ STAMP_LIMIT

-- the index of the first operation whose timestamp is the greatest number
abbrev pub first_bad_stamp : List WriteOp → Option ℕ
first_bad_stamp ops = position (λ op. op.ts.0 == 2 ^ 64 - 1) ops

-- 1 to BATCH_LIMIT operations, each stamped
pub record IsBatch (ops : List WriteOp) : Type 0 where
  pub some : 0 < length ops
  pub within : length ops ≤ BATCH_LIMIT
  pub stamped : All IsStamped ops

-- a stamp is the first cause, at the operation of this number, counted from 1
pub record IsBadStamp (ops : List WriteOp) (op : ℕ) : Type 0 where
  pub some : 0 < length ops
  pub within : length ops ≤ BATCH_LIMIT
  pub counted : 0 < op
  pub first : first_bad_stamp ops ≡ Some (op - 1)

-- operations may be refused so
abbrev pub IsBatchFault : List WriteOp → BatchFault → Type 0
IsBatchFault ops Empty = ops ≡ []
IsBatchFault ops (TooMany count) = (BATCH_LIMIT < length ops) × (count ≡ length ops)
IsBatchFault ops (BadStamp op) = IsBadStamp ops op
