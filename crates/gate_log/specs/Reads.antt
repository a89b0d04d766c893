-- What reading a log gives: its frames with their places, or the place where it is no log.
use Rattle.std.specs.Prelude.{◌≡◌, ℕ, ◌+◌, ◌≤◌, List, [], ◌∷◌, ◌++◌, length, drop, map}
use Rattle.gate_log.specs.declared.frame.TheConstants.{FRAME_LIMIT}
use Rattle.std.specs.Int.{w32, to_le_bytes}
use Rattle.gate_log.specs.Placed.{Placed}
use Rattle.gate_log.specs.Frames.{framed, AreBodies}

-- behind an open gate stand the length n and n bytes more, and then at least the next gate
pub record IsWhole (n : ℕ) (rest : List ℕ) : Type 0 where
  pub some : 1 ≤ n
  pub short : n ≤ FRAME_LIMIT
  pub size : rest ≡ to_le_bytes w32 n ++ drop 4 rest
  pub there : n + 5 ≤ length rest

-- bodies with the places of their frames, of which the first stands at this offset
abbrev pub placed : ℕ → List (List ℕ) → List Placed
placed at [] = []
placed at (body ∷ bodies) = record { at = at; bytes = body } ∷ placed (at + (length body + 5)) bodies

abbrev pub body_of : Placed → List ℕ
body_of frame = frame.bytes

-- the frames stand from the front of the bytes up to this offset
pub record IsFront (frames : List Placed) (at : ℕ) (bytes : List ℕ) : Type 0 where
  pub is : bytes ≡ framed (map body_of frames) ++ drop at bytes
  pub end : at ≡ length (framed (map body_of frames))
  pub fit : AreBodies (map body_of frames)
  pub places : frames ≡ placed 0 (map body_of frames)

-- no frame goes on here, and no log ends here: there is nothing at all, or an open gate before a frame that isn't whole
abbrev pub IsTorn : List Placed → List ℕ → Type 0
IsTorn frames [] = frames ≡ []
IsTorn frames (gate ∷ rest) = (gate ≡ 165) × ((n : ℕ) → IsWhole n rest → ⊥)

-- the bytes are no log: behind these frames something else stands at this offset
pub record IsBad (before : List Placed) (at : ℕ) (bytes : List ℕ) : Type 0 where
  pub front : IsFront before at bytes
  pub torn : IsTorn before (drop at bytes)
