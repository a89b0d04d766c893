-- What reading a log answers.
use Rattle.std.specs.Prelude.{◌≡◌, ℕ, List, map, ⊤}
use Rattle.gate_log.specs.Placed.{Placed}
use Rattle.gate_log.specs.Frames.{IsLog}
use Rattle.gate_log.specs.Reads.{placed, body_of, IsBad}
use Rattle.gate_log.specs.declared.fault.FramesFault.{FramesFault}
use Rattle.gate_log.specs.declared.fault.FramesFault.TheVariants.{BadFrame, DiskFault, NoMemory}

-- the bytes are a log of these frames, each at its place, and of no others
pub record IsReading (frames : List Placed) (bytes : List ℕ) : Type 0 where
  pub log : IsLog (map body_of frames) bytes
  pub places : frames ≡ placed 0 (map body_of frames)
  pub only : (others : List (List ℕ)) → IsLog others bytes → others ≡ map body_of frames

-- the bytes may be refused so: a bad frame where they are no log, else for want of memory or a fault of the file
abbrev pub IsFramesFault : FramesFault → List ℕ → Type 0
IsFramesFault (BadFrame at before) bytes = IsBad before.items at bytes × ((bodies : List (List ℕ)) → IsLog bodies bytes → ⊥)
IsFramesFault DiskFault bytes = ⊤
IsFramesFault NoMemory bytes = ⊤

-- a bad frame has one place, and one list of frames before it
abbrev pub IsOnlyPlace : FramesFault → List ℕ → Type 0
IsOnlyPlace (BadFrame at before) bytes = (others : List Placed) (place : ℕ) → IsBad others place bytes → (others ≡ before.items) × (place ≡ at)
IsOnlyPlace DiskFault bytes = ⊤
IsOnlyPlace NoMemory bytes = ⊤

-- the part of `IsFramesFault` that says where they are bad
abbrev pub IsFrontFault : FramesFault → List ℕ → Type 0
IsFrontFault (BadFrame at before) bytes = IsBad before.items at bytes
IsFrontFault DiskFault bytes = ⊤
IsFrontFault NoMemory bytes = ⊤
