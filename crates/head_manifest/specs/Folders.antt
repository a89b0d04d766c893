-- What a folder says of a store.
use Rattle.std.specs.Prelude.{◌≡◌, ◌≢◌, ℕ, ◌==◌, if◌then◌else◌, [], ◌∷◌, Option, Some, None, Result, Ok, Err}
use Rattle.udt_disk.specs.Crash.{Image}
use Rattle.udt_disk.specs.Joint.{Folder}
use Rattle.udt_disk.specs.declared.name.FileName.{FileName}
use Rattle.udt_disk.specs.declared.name.FileName.TheVariants.{Manifest0, Manifest1, Current, Made}
use Rattle.head_manifest.specs.declared.fault.ManifestFault.{ManifestFault}
use Rattle.head_manifest.specs.declared.fault.ManifestFault.TheVariants as faults
use Rattle.head_manifest.specs.declared.fold.Folded.{Folded}
use Rattle.head_manifest.specs.Files.{HasFold, IsBadFile}

-- the manifest that this `CURRENT` chooses: `MANIFEST-1` where its first byte is 0xA5
abbrev pub chosen_by : Image → FileName
chosen_by None = Manifest0
chosen_by (Some []) = Manifest0
chosen_by (Some (byte ∷ bytes)) = if byte == 165 then Manifest1 else Manifest0

-- the chosen manifest of a folder
abbrev pub chosen : Folder → FileName
chosen folder = chosen_by (folder Current)

pub data Meaning : Type 0 where
  no_store : Meaning
  store : Folded → Meaning
  bad_at : ℕ → Meaning

-- There is no store exactly where `MADE` is missing. Else the chosen manifest has a fold, or is bad at an offset.
abbrev pub Means : Folder → Meaning → Type 0
Means folder no_store = folder Made ≡ None
Means folder (store fold) = (folder Made ≢ None) × HasFold (folder (chosen folder)) fold
Means folder (bad_at at) = (folder Made ≢ None) × IsBadFile (folder (chosen folder)) at

-- the meaning that a fault tells: none where the disk failed or memory ran out
abbrev pub told_by_fault : ManifestFault → Option Meaning
told_by_fault (faults.BadManifest at) = Some (bad_at at)
told_by_fault faults.DiskFault = None
told_by_fault faults.NoMemory = None

-- the meaning that a reader's answer tells
abbrev pub told_by : {X : Type 0} → Result (Option (X × Folded)) ManifestFault → Option Meaning
told_by (Ok None) = Some no_store
told_by (Ok (Some (manifest, fold))) = Some (store fold)
told_by (Err fault) = told_by_fault fault
