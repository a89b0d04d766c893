-- What the parts of a reader answer, and what a fault has for its cause.
use Rattle.std.specs.Prelude.{◌≡◌, ◌⊎◌, Bool, true, false, ⊤, List, [], map, Option, Some, None, Result, Ok, Err}
use Rattle.udt_disk.specs.Crash.{Image}
use Rattle.gate_log.specs.Placed.{Placed}
use Rattle.gate_log.specs.Reads.{body_of}
use Rattle.manifest.specs.declared.fault.ManifestFault.{ManifestFault}
use Rattle.manifest.specs.declared.fault.ManifestFault.TheVariants.{BadManifest, DiskFault, NoMemory}
use Rattle.manifest_fold.specs.declared.fold.Folded.{Folded}
use Rattle.manifest.specs.Folds.{IsManifest, IsOutside}
use Rattle.manifest.specs.Files.{IsBadFile}

-- the fold of these frames, None where there is none, or the first frame outside the grammar
abbrev pub Folds : List Placed → Result (Option Folded) ManifestFault → Type 0
Folds frames (Ok None) = frames ≡ []
Folds frames (Ok (Some fold)) = IsManifest (map body_of frames) fold
Folds frames (Err (BadManifest at)) = IsOutside frames at
Folds frames (Err DiskFault) = ⊥
Folds frames (Err NoMemory) = ⊤

-- the file may be refused so
abbrev pub IsRefusal : Image → ManifestFault → Type 0
IsRefusal image (BadManifest at) = IsBadFile image at
IsRefusal image DiskFault = ⊤
IsRefusal image NoMemory = ⊤

-- the fault is the disk's
abbrev pub is_manifest_disk_fault : ManifestFault → Bool
is_manifest_disk_fault (BadManifest at) = false
is_manifest_disk_fault DiskFault = true
is_manifest_disk_fault NoMemory = false

-- what is wrong with the frames of a whole log
abbrev pub IsFoldFault : List Placed → ManifestFault → Type 0
IsFoldFault frames (BadManifest at) = IsOutside frames at ⊎ ((frames ≡ []) × (at ≡ 0))
IsFoldFault frames DiskFault = ⊥
IsFoldFault frames NoMemory = ⊤
