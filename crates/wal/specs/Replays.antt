-- Which batches a log file holds, and where it is outside of its grammar.
use Rattle.std.specs.Prelude.{◌≡◌, ◌⊎◌, ℕ, ◌<◌, Bool, true, false, List, [], ◌∷◌, ◌++◌, length, drop, map, Some, None, Vec, Result, Ok, Err, ⊤}
use Rattle.std.specs.declared.alloc.Global.{Global}
use Rattle.udt_disk.specs.Crash.{Image}
use Rattle.gate_log.specs.Placed.{Placed}
use Rattle.gate_log.specs.Frames.{frame, IsBody, IsLog}
use Rattle.gate_log.specs.Reads.{body_of, IsFront, IsTorn}
use Rattle.wal.specs.Bodies.{HoldsBatches}
use Rattle.wal.specs.declared.numbered.Numbered.{Numbered}
use Rattle.wal.specs.declared.fault.FrameFault.{FrameFault}
use Rattle.wal.specs.declared.fault.FrameFault.TheVariants as frames
use Rattle.wal.specs.declared.fault.ReplayFault.{ReplayFault}
use Rattle.wal.specs.declared.fault.ReplayFault.TheVariants.{BadLog, DiskFault, NoMemory}

-- the bytes are a log of these batches
pub record LogHolds (sizes : List ℕ) (batches : List Numbered) (bytes : List ℕ) : Type 0 where
  pub bodies : List (List ℕ)
  pub log : IsLog bodies bytes
  pub held : HoldsBatches sizes bodies batches

-- a crash left a log of these batches
abbrev pub ReadsAs : List ℕ → List Numbered → Image → Type 0
ReadsAs sizes batches None = ⊥
ReadsAs sizes batches (Some bytes) = LogHolds sizes batches bytes

-- a log of these batches, or of these and of all that wait
abbrev pub IsBeforeOrAfter : List ℕ → List Numbered → List Numbered → Image → Type 0
IsBeforeOrAfter sizes batches waiting image = ReadsAs sizes batches image ⊎ ReadsAs sizes (batches ++ waiting) image

-- No log goes on with this body behind those.
abbrev pub IsStrange : List ℕ → List (List ℕ) → List ℕ → Type 0
IsStrange sizes bodies body = (batches : List Numbered) → HoldsBatches sizes (bodies ++ body ∷ []) batches → ⊥

-- of these frames the one at this offset is the first whose body isn't in the grammar
pub record IsBadFrame (sizes : List ℕ) (frames : List Placed) (at : ℕ) : Type 0 where
  pub before : List Placed
  pub bad : Placed
  pub behind : List Placed
  pub parts : frames ≡ before ++ bad ∷ behind
  pub place : at ≡ bad.at
  pub batches : List Numbered
  pub held : HoldsBatches sizes (map body_of before) batches
  pub strange : IsStrange sizes (map body_of before) bad.bytes

-- a whole frame stands here, and its body isn't in the grammar
pub record IsStrangeFrame (sizes : List ℕ) (bodies : List (List ℕ)) (bytes : List ℕ) : Type 0 where
  pub body : List ℕ
  pub rest : List ℕ
  pub is : bytes ≡ frame body ++ rest
  pub fits : IsBody body
  pub gate : 0 < length rest
  pub strange : IsStrange sizes bodies body

-- The frames before this offset are a log of batches; the frame that stands there isn't whole or its body isn't in the
-- grammar, or the file is empty.
pub record IsBadLogAt (sizes : List ℕ) (bytes : List ℕ) (at : ℕ) : Type 0 where
  pub before : List Placed
  pub front : IsFront before at bytes
  pub batches : List Numbered
  pub held : HoldsBatches sizes (map body_of before) batches
  pub bad : IsTorn before (drop at bytes) ⊎ IsStrangeFrame sizes (map body_of before) (drop at bytes)

-- what reading the bodies of frames gives
abbrev pub ReadsFrames : List ℕ → List Placed → Result (Vec Numbered Global) FrameFault → Type 0
ReadsFrames sizes list (Ok batches) = HoldsBatches sizes (map body_of list) batches.items
ReadsFrames sizes list (Err (frames.Bad at)) = IsBadFrame sizes list at
ReadsFrames sizes list (Err frames.NoMemory) = ⊤

-- a log with this number may be refused so
abbrev pub IsReplayFault : List ℕ → ℕ → List ℕ → ReplayFault → Type 0
IsReplayFault sizes number bytes (BadLog n at) = (n ≡ number) × IsBadLogAt sizes bytes at × ((batches : List Numbered) → LogHolds sizes batches bytes → ⊥)
IsReplayFault sizes number bytes DiskFault = ⊤
IsReplayFault sizes number bytes NoMemory = ⊤

-- the fault is the disk's
abbrev pub is_replay_disk_fault : ReplayFault → Bool
is_replay_disk_fault (BadLog n at) = false
is_replay_disk_fault DiskFault = true
is_replay_disk_fault NoMemory = false

-- what is told of a log, by what is wrong with the bodies of its frames
abbrev pub log_fault_of : ℕ → FrameFault → ReplayFault
log_fault_of number (frames.Bad at) = BadLog number at
log_fault_of number frames.NoMemory = NoMemory
