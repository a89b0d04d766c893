-- The spelling of stored keys.
use Rattle.std.specs.Prelude.{◌≡◌, ℕ, ◌+◌, ◌*◌, ◌≤◌, ◌++◌, List, [], length, Result, Ok, Err}
use Rattle.byteorder.specs.Endian.{little_number}
use Rattle.ts_key.specs.Numbers.{number_bytes}
use Rattle.ts_key.specs.Order.{SortKey, sort_key_of}
use Rattle.ts_key.specs.Items.{Item, IsValue}
use Rattle.ts_key.specs.declared.limits.TheConstants.{KEY_LIMIT, STAMP_LIMIT, SEQUENCE_LIMIT}
use Rattle.ts_key.specs.declared.lent.KeyRef.{KeyRef}
use Rattle.ts_key.specs.declared.version.Kind.{Kind}
use Rattle.ts_key.specs.declared.version.Kind.TheVariants.{Del, Put}
use Rattle.ts_key.specs.declared.version.Form.{Form}
use Rattle.ts_key.specs.declared.version.Form.TheVariants.{Persist, Strip}
use Rattle.ts_key.specs.declared.stored_key.KeyBad.{KeyBad}

abbrev pub kind_number : Kind → ℕ
kind_number Del = 0
kind_number Put = 1

-- the timestamp's bytes
abbrev pub stamp : Form → ℕ → List ℕ
stamp Persist ts = number_bytes 8 ts
stamp Strip ts = []

-- how many bytes follow the user key
abbrev pub tail_len : Form → ℕ
tail_len Persist = 16
tail_len Strip = 8

-- the timestamp in the bytes that follow the user key
abbrev pub stamp_number : Form → List ℕ → ℕ
stamp_number Persist tail = little_number 8 tail
stamp_number Strip tail = 0

-- the user key, the timestamp in form Persist, the trailer
unfoldable pub stored_key : Form → SortKey → Kind → List ℕ
stored_key form k kind = k.key ++ stamp form k.ts ++ number_bytes 8 (k.seq * 256 + kind_number kind)

-- a version may have this timestamp; where timestamps are stripped, it is 0
abbrev pub IsStamp : Form → ℕ → Type 0
IsStamp Persist ts = ts ≤ STAMP_LIMIT
IsStamp Strip ts = ts ≡ 0

-- a version may have this sequence
pub record IsSequence (n : ℕ) : Type 0 where
  pub least : 1 ≤ n
  pub most : n ≤ SEQUENCE_LIMIT

-- what has a spelling
pub record IsStored (form : Form) (k : SortKey) : Type 0 where
  pub key : length k.key ≤ KEY_LIMIT
  pub stamp : IsStamp form k.ts
  pub sequence : IsSequence k.seq

-- the version may stand in a table of this form
pub record IsItem (form : Form) (v : Item) : Type 0 where
  pub spelled : IsStored form v.sort_key
  pub value : IsValue v.kind v.value

-- the bytes spell what was found; where nothing was, they spell nothing
abbrev pub DecodesKey : Form → List ℕ → Result (KeyRef × Kind) KeyBad → Type 0
DecodesKey form bytes (Ok found) = IsStored form (sort_key_of found.0) × (bytes ≡ stored_key form (sort_key_of found.0) found.1)
DecodesKey form bytes (Err e) = (k : SortKey) (kind : Kind) → IsStored form k → bytes ≡ stored_key form k kind → ⊥
