-- The records of a log file: which values are allowed, and the bytes that spell them. Numbers are little-endian.
use Rattle.std.specs.Prelude.{ℕ, ◌+◌, ◌<◌, ◌≤◌, List, [], ◌∷◌, ◌++◌, length, All, ⊤}
use Rattle.std.specs.List.{flat_map}
use Rattle.ts_key.specs.Numbers.{number_bytes}
use Rattle.ts_key.specs.Batches.{IsStamped}
use Rattle.ts_key.specs.declared.batch.WriteOp.{WriteOp}
use Rattle.ts_key.specs.declared.version.Op.{Op}
use Rattle.ts_key.specs.declared.version.Op.TheVariants.{Put, Del}
use Rattle.wal.specs.declared.numbered.Numbered.{Numbered}
use Rattle.ts_key.specs.declared.limits.TheConstants.{BATCH_LIMIT, KEY_LIMIT, SEQUENCE_LIMIT, VALUE_LIMIT}

-- the byte of an operation's kind
abbrev pub kind_code : Op → ℕ
kind_code (Put value) = 1
kind_code Del = 0

-- the value's length and bytes, where there is a value
abbrev pub value_bytes : Op → List ℕ
value_bytes (Put value) = number_bytes 4 (length value) ++ value
value_bytes Del = []

-- what stands before the key: the family, the kind, the timestamp, the length of the key
abbrev pub op_head : ℕ → ℕ → ℕ → ℕ → List ℕ
op_head family kind ts key_len = number_bytes 4 family ++ kind ∷ (number_bytes 8 ts ++ number_bytes 2 key_len)

abbrev pub op_bytes : WriteOp → List ℕ
op_bytes op = op_head op.family.0 (kind_code op.op) op.ts.0 (length op.key) ++ (op.key ++ value_bytes op.op)

-- what stands before the operations: the tag 2, the first sequence, the number of operations
abbrev pub batch_head : ℕ → ℕ → List ℕ
batch_head first count = 2 ∷ (number_bytes 8 first ++ count ∷ [])

abbrev pub batch_bytes : Numbered → List ℕ
batch_bytes numbered = batch_head numbered.first.0 (length numbered.batch) ++ flat_map op_bytes numbered.batch

-- each family's number and size, from this number on
abbrev pub families_bytes : ℕ → List ℕ → List ℕ
families_bytes family [] = []
families_bytes family (size ∷ sizes) = (number_bytes 4 family ++ size ∷ []) ++ families_bytes (family + 1) sizes

-- the size record: the tag 1, the number of families, and each family's number and size
abbrev pub sizes_bytes : List ℕ → List ℕ
sizes_bytes sizes = 1 ∷ (number_bytes 4 (length sizes) ++ families_bytes 0 sizes)

-- a value has at most so many bytes
abbrev pub IsShortValue : Op → Type 0
IsShortValue (Put value) = length value ≤ VALUE_LIMIT
IsShortValue Del = ⊤

-- the operation may stand in a log of this many families
pub record IsLoggedOp (families : ℕ) (op : WriteOp) : Type 0 where
  pub family : op.family.0 < families
  pub stamp : IsStamped op
  pub key : length op.key ≤ KEY_LIMIT
  pub value : IsShortValue op.op

-- The batch may stand in a log of this many families: it has operations that may, and sequences from 1 to the greatest.
pub record IsLoggedBatch (families : ℕ) (numbered : Numbered) : Type 0 where
  pub some : 1 ≤ length numbered.batch
  pub within : length numbered.batch ≤ BATCH_LIMIT
  pub ops : All (IsLoggedOp families) numbered.batch
  pub first : 1 ≤ numbered.first.0
  pub last : numbered.first.0 + length numbered.batch ≤ SEQUENCE_LIMIT + 1
