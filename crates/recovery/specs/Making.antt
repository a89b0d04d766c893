-- What making a store leaves of a folder, and why none is made.
use Rattle.std.specs.Prelude.{◌≡◌, ◌⊎◌, ⊤, Bool, true, false, List}
use Rattle.udt_disk.specs.Crash.{Image}
use Rattle.udt_disk.specs.Joint.{Folder}
use Rattle.udt_disk.specs.declared.name.FileName.{FileName}
use Rattle.udt_disk.specs.declared.name.FileName.TheVariants.{Log}
use Rattle.udt_disk.specs.declared.disk.Disk as disk
use Rattle.udt_model.specs.declared.line.FamilyHead.{FamilyHead}
use Rattle.manifest_fold.specs.declared.fold.Folded.{Folded}
use Rattle.manifest.specs.Folds.{fold_of}
use Rattle.manifest.specs.Folders.{Means}
use Rattle.manifest.specs.Folders.Meaning.{bad_at, no_store, store}
use Rattle.manifest.specs.Making.{IsStoreName}
use Rattle.engine_laws.specs.Standing.{FolderStands, new_state}
use Rattle.recovery.specs.Tables.{ReadsAsTable}
use Rattle.recovery.specs.declared.fault.InitFault.{InitFault}
use Rattle.recovery.specs.declared.fault.InitFault.TheVariants.{BadManifest, DiskFault, NoMemory, StoreExists}

-- the names that making a store touches
abbrev pub IsMakingName : FileName → Type 0
IsMakingName n = IsStoreName n ⊎ (n ≡ Log 1)

-- every other name stands as it did, and a crash leaves no more there
pub record KeepsOthers {D F : Type 0} (d : disk.Ghosts D F) (old new : D) : Type 0 where
  pub stands : (n : FileName) → ¬ IsMakingName n → d.stands new n ≡ d.stands old n
  pub no_more : (n : FileName) (c : Image) → ¬ IsMakingName n → d.may_leave new n c → d.may_leave old n c

-- the store of these families in which nothing was written, and whose file numbers are all to come but the first log's
pub record IsNewStore (families : List FamilyHead) (folder : Folder) : Type 0 where
  pub means : Means folder (store (fold_of families))
  pub stands : FolderStands ReadsAsTable folder (new_state families)

-- there is no store, or the new one of these families
abbrev pub IsNoneOrNew : List FamilyHead → Folder → Type 0
IsNoneOrNew families folder = Means folder no_store ⊎ IsNewStore families folder

-- in this folder a store isn't made for this reason
abbrev pub RefusesMaking : Folder → InitFault → Type 0
RefusesMaking folder StoreExists = (fold : Folded) × Means folder (store fold)
RefusesMaking folder (BadManifest at) = Means folder (bad_at at)
RefusesMaking folder DiskFault = ⊤
RefusesMaking folder NoMemory = ⊤

-- the fault tells what the folder means, so that nothing was made
abbrev pub IsMakingRefusal : InitFault → Type 0
IsMakingRefusal StoreExists = ⊤
IsMakingRefusal (BadManifest at) = ⊤
IsMakingRefusal DiskFault = ⊥
IsMakingRefusal NoMemory = ⊥

-- the fault is the disk's
abbrev pub is_init_disk_fault : InitFault → Bool
is_init_disk_fault StoreExists = false
is_init_disk_fault (BadManifest at) = false
is_init_disk_fault DiskFault = true
is_init_disk_fault NoMemory = false
