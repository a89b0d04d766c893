-- The heads of records, as they are read: their bytes, and which are allowed.
use Rattle.std.specs.Prelude.{ℕ, ◌+◌, ◌^◌, ◌<◌, ◌≤◌, List}
use Rattle.wal.specs.Records.{op_head, batch_head}
use Rattle.wal.specs.declared.head.OpHead.{OpHead}
use Rattle.wal.specs.declared.head.BatchHead.{BatchHead}
use Rattle.ts_key.specs.declared.limits.TheConstants.{BATCH_LIMIT, KEY_LIMIT, SEQUENCE_LIMIT, STAMP_LIMIT}

abbrev pub op_head_bytes : OpHead → List ℕ
op_head_bytes head = op_head head.family head.kind head.ts head.key_len

abbrev pub batch_head_bytes : BatchHead → List ℕ
batch_head_bytes head = batch_head head.first head.count

-- an operation with this head may stand in a log of this many families
pub record IsAllowedOpHead (families : ℕ) (head : OpHead) : Type 0 where
  pub family : head.family < families
  pub kind : head.kind ≤ 1
  pub stamp : head.ts ≤ STAMP_LIMIT
  pub key : head.key_len ≤ KEY_LIMIT

-- a batch with this head may stand in a log
pub record IsAllowedBatchHead (head : BatchHead) : Type 0 where
  pub some : 1 ≤ head.count
  pub within : head.count ≤ BATCH_LIMIT
  pub first : 1 ≤ head.first
  pub last : head.first + head.count ≤ SEQUENCE_LIMIT + 1

-- the numbers fit their bytes
pub record FitsOpHead (head : OpHead) : Type 0 where
  pub family : head.family < 2 ^ 32
  pub stamp : head.ts < 2 ^ 64
  pub key : head.key_len < 2 ^ 16

pub record FitsBatchHead (head : BatchHead) : Type 0 where
  pub first : head.first < 2 ^ 64
