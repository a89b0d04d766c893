-- How long entries are.
use Rattle.std.proofs.Common.{◌≡◌, ℕ, ◌+◌, ◌-◌, ◌%◌, ◌≤◌, inl, inr, List, length, length-append, length-drop, arith}
use Rattle.std.specs.Prelude.{◌==◌}
use Rattle.std.proofs.lemmas.Bool.{cases_Bool}
use Rattle.ts_key.proofs.NumberBytes.{length-number_bytes}
use Rattle.data_block.specs.Grammar.{entry, restart}
use Rattle.data_block.specs.Fields.{fields}

pub length-entry : (s : ℕ) (key value : List ℕ) → length (entry s key value) ≡ 8 + (length key - s) + length value
length-entry s key value = simp (length-append, length-number_bytes, length-drop) (omega arith)

pub length-fields : (s : ℕ) (key value : List ℕ) → length (fields s key value) ≡ 8 + length key + length value
length-fields s key value = simp (length-append, length-number_bytes) (omega arith)

pub length-restart : (n at : ℕ) → length (restart n at) ≤ 1
length-restart n at = elim (cases_Bool (n % 16 == 0)) [
  | inl y ↦ rw y (omega arith)
  | inr y ↦ rw y (omega arith)
]
