-- What the file of a manifest means.
use Rattle.std.specs.Prelude.{◌≡◌, ℕ, List, [], Some, None, map}
use Rattle.udt_disk.specs.Crash.{Image}
use Rattle.gate_log.specs.Placed.{Placed}
use Rattle.gate_log.specs.Frames.{IsLog}
use Rattle.gate_log.specs.Reads.{placed, body_of, IsBad}
use Rattle.head_manifest.specs.declared.fold.Folded.{Folded}
use Rattle.head_manifest.specs.Folds.{IsManifest, AreSoundFrames, IsOutside}

-- the bytes are a log of these frames, each at its place
pub record AreFrames (frames : List Placed) (bytes : List ℕ) : Type 0 where
  pub log : IsLog (map body_of frames) bytes
  pub places : frames ≡ placed 0 (map body_of frames)

-- the bytes are no manifest, and what is wrong with them stands first at this offset
pub data IsBadManifestAt (bytes : List ℕ) (at : ℕ) : Type 0 where
  -- a frame of a log
  in_log : (frames : List Placed) → AreFrames frames bytes → IsOutside frames at → IsBadManifestAt bytes at
  -- a frame that stands before the place where the bytes are no log
  before_torn : (frames : List Placed) (place : ℕ) → IsBad frames place bytes → IsOutside frames at → IsBadManifestAt bytes at
  -- that place itself
  torn : (frames : List Placed) → IsBad frames at bytes → AreSoundFrames (map body_of frames) → IsBadManifestAt bytes at
  -- there is no frame
  no_frame : IsLog [] bytes → at ≡ 0 → IsBadManifestAt bytes at

-- the file has this fold
abbrev pub HasFold : Image → Folded → Type 0
HasFold None fold = ⊥
HasFold (Some bytes) fold = (bodies : List (List ℕ)) × IsLog bodies bytes × IsManifest bodies fold

-- the file is missing, or bad at this offset
abbrev pub IsBadFile : Image → ℕ → Type 0
IsBadFile None at = at ≡ 0
IsBadFile (Some bytes) at = IsBadManifestAt bytes at
