-- The parts of an entry.
use Rattle.std.specs.Prelude.{◌≡◌, ℕ, ◌^◌, ◌<◌, List, ◌++◌, length, Option, Some, None}
use Rattle.ts_key.specs.Numbers.{number_bytes}
use Rattle.data_block.specs.declared.fields.Fields.{Fields}

-- how many bytes are shared, the other bytes of the key, and the value
abbrev pub fields : ℕ → List ℕ → List ℕ → List ℕ
fields shared key value = number_bytes 2 shared ++ number_bytes 2 (length key) ++ number_bytes 4 (length value) ++ key ++ value

-- parts whose numbers fit
pub record Fit (s : ℕ) (k v : List ℕ) : Type 0 where
  pub shared : s < 2 ^ 16
  pub key : length k < 2 ^ 16
  pub value : length v < 2 ^ 32

abbrev pub bytes_of_fields : Fields → List ℕ
bytes_of_fields f = fields f.shared f.key.now f.value.now ++ f.rest.now

abbrev pub IsFit : Fields → Type 0
IsFit f = Fit f.shared f.key.now f.value.now

-- these parts stand at the front; where none were found, none do
abbrev pub ReadsFields : List ℕ → Option Fields → Type 0
ReadsFields bytes (Some f) = IsFit f × (bytes ≡ bytes_of_fields f)
ReadsFields bytes None = (s : ℕ) (k v rest : List ℕ) → Fit s k v → bytes ≡ fields s k v ++ rest → ⊥
