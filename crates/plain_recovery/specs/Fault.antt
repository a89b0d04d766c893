-- Why a folder isn't opened as a store, or no store is made in it.
use Rattle.std.specs.Prelude.{◌≡◌, ℕ, ⊤, Bool, true, false, List, [], ◌∷◌, Some, None}
use Rattle.udt_disk.specs.Crash.{Image}
use Rattle.udt_disk.specs.Joint.{Folder}
use Rattle.udt_disk.specs.declared.name.FileName.TheVariants.{Log}
use Rattle.wal.specs.declared.numbered.Numbered.{Numbered}
use Rattle.wal.specs.Replays.{IsBadLogAt, LogHolds}
use Rattle.head_manifest.specs.declared.fold.Folded.{Folded}
use Rattle.head_manifest.specs.Folders.{Means}
use Rattle.head_manifest.specs.Folders.Meaning.{no_store, bad_at, store}
use Rattle.plain_recovery.specs.Stores.{sizes_of}
use Rattle.plain_recovery.specs.declared.fault.OpenFault.{OpenFault}
use Rattle.plain_recovery.specs.declared.fault.OpenFault.TheVariants.{NoStore, BadManifest, BadLog, DiskFault, NoMemory}
use Rattle.plain_recovery.specs.declared.fault.InitFault.{InitFault}
use Rattle.plain_recovery.specs.declared.fault.InitFault.TheVariants as inits

-- the file of a log is missing, or outside of its grammar: what is wrong with it stands first at this offset
abbrev pub IsBadLogFile : List ℕ → Image → ℕ → Type 0
IsBadLogFile sizes None at = at ≡ 0
IsBadLogFile sizes (Some bytes) at = IsBadLogAt sizes bytes at × ((batches : List Numbered) → LogHolds sizes batches bytes → ⊥)

-- the manifest is whole, and the live log of this number is bad at this offset
pub record IsBadLog (folder : Folder) (number at : ℕ) : Type 0 where
  pub fold : Folded
  pub means : Means folder (store fold)
  pub live : fold.logs ≡ number ∷ []
  pub bad : IsBadLogFile (sizes_of fold) (folder (Log number)) at

-- the folder may be refused so
abbrev pub RefusesOpening : Folder → OpenFault → Type 0
RefusesOpening folder NoStore = Means folder no_store
RefusesOpening folder (BadManifest at) = Means folder (bad_at at)
RefusesOpening folder (BadLog number at) = IsBadLog folder number at
RefusesOpening folder DiskFault = ⊤
RefusesOpening folder NoMemory = ⊤

-- the fault is the disk's
abbrev pub is_open_disk_fault : OpenFault → Bool
is_open_disk_fault DiskFault = true
is_open_disk_fault fault = false

-- ---- making

-- in this folder a store isn't made for this reason
abbrev pub RefusesMaking : Folder → InitFault → Type 0
RefusesMaking folder inits.StoreExists = (fold : Folded) × Means folder (store fold)
RefusesMaking folder (inits.BadManifest at) = Means folder (bad_at at)
RefusesMaking folder inits.DiskFault = ⊤
RefusesMaking folder inits.NoMemory = ⊤

-- the fault tells what the folder means, so that nothing was made
abbrev pub IsMakingRefusal : InitFault → Type 0
IsMakingRefusal inits.StoreExists = ⊤
IsMakingRefusal (inits.BadManifest at) = ⊤
IsMakingRefusal inits.DiskFault = ⊥
IsMakingRefusal inits.NoMemory = ⊥

abbrev pub is_init_disk_fault : InitFault → Bool
is_init_disk_fault inits.DiskFault = true
is_init_disk_fault fault = false
