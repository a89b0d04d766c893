-- The grammar of a log of frames: which bytes are a log of which bodies.
use Rattle.std.specs.Prelude.{◌≡◌, ◌≢◌, ◌⊎◌, ℕ, ◌≤◌, List, [], ◌∷◌, ◌++◌, length, Some, None}
use Rattle.gate_log.specs.declared.frame.TheConstants.{FRAME_LIMIT}
use Rattle.std.specs.Int.{w32, to_le_bytes}
use Rattle.udt_disk.specs.Bytes.{overwritten}
use Rattle.udt_disk.specs.Crash.{Image}

-- a frame: an open gate, the length of the body as u32, and the body
abbrev pub frame : List ℕ → List ℕ
frame body = 165 ∷ (to_le_bytes w32 (length body) ++ body)

-- frames one after another
abbrev pub framed : List (List ℕ) → List ℕ
framed [] = []
framed (body ∷ bodies) = frame body ++ framed bodies

-- what stands behind a closed gate once a frame is written there: all of the frame but its gate, and the next gate, closed
abbrev pub staged : List ℕ → List ℕ
staged body = to_le_bytes w32 (length body) ++ body ++ 90 ∷ []

-- bytes with a frame written over them at an offset, and the next gate, closed
unfoldable pub with_frame : List ℕ → ℕ → List ℕ → List ℕ
with_frame bytes at body = overwritten bytes at (165 ∷ staged body)

-- what the body of a frame may be
pub record IsBody (body : List ℕ) : Type 0 where
  pub some : 1 ≤ length body
  pub short : length body ≤ FRAME_LIMIT

abbrev pub AreBodies : List (List ℕ) → Type 0
AreBodies [] = Unit {0}
AreBodies (body ∷ bodies) = IsBody body × AreBodies bodies

-- the bytes are a log of these bodies: their frames, then a gate that isn't open, and then anything
pub record IsLog (bodies : List (List ℕ)) (bytes : List ℕ) : Type 0 where
  pub gate : ℕ
  pub rest : List ℕ
  pub shut : gate ≢ 165
  pub is : bytes ≡ framed bodies ++ gate ∷ rest
  pub fit : AreBodies bodies

-- a crash left a log of these bodies
abbrev pub IsLogImage : List (List ℕ) → Image → Type 0
IsLogImage bodies None = ⊥
IsLogImage bodies (Some bytes) = IsLog bodies bytes

-- a log of these bodies, or of these and one more
abbrev pub IsWithOrWithout : List (List ℕ) → List ℕ → Image → Type 0
IsWithOrWithout bodies body image = IsLogImage bodies image ⊎ IsLogImage (bodies ++ body ∷ []) image
