-- Bytes that are read piece by piece from the front.
use Rattle.std.specs.Prelude.{◌≡◌, ◌⊎◌, ◌≢◌, ℕ, ◌+◌, ◌<◌, ◌≤◌, List, ◌++◌, length, drop, slice_index, ⊤}
use Rattle.gate_log.specs.Reads.{IsWhole}
use Rattle.gate_log.specs.declared.image.Next.{Next}
use Rattle.gate_log.specs.declared.image.Next.TheVariants.{Shut, Frame, Bad}

-- the bytes stand at the front of all
pub record IsFrontOf (bytes all : List ℕ) : Type 0 where
  pub behind : List ℕ
  pub is : all ≡ bytes ++ behind

-- so many of all bytes were read, or all
pub record IsReadTo (want : ℕ) (bytes all : List ℕ) : Type 0 where
  pub front : IsFrontOf bytes all
  pub far : (want ≤ length bytes) ⊎ (bytes ≡ all)

-- what stands at this offset of all bytes
abbrev pub TellsNext : Next → ℕ → List ℕ → Type 0
TellsNext Shut at all = (at < length all) × (slice_index all at ≢ 165)
TellsNext (Frame n) at all = (at < length all) × (slice_index all at ≡ 165) × IsWhole n (drop (at + 1) all)
TellsNext Bad at all = (length all ≤ at) ⊎ ((at < length all) × (slice_index all at ≡ 165) × ((n : ℕ) → IsWhole n (drop (at + 1) all) → ⊥))

-- the frame there was read whole
abbrev pub HasBody : Next → ℕ → List ℕ → Type 0
HasBody Shut at bytes = ⊤
HasBody (Frame n) at bytes = at + n + 6 ≤ length bytes
HasBody Bad at bytes = ⊤
