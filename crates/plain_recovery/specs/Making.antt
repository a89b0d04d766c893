-- What making a store leaves of a folder.
use Rattle.std.specs.Prelude.{◌≡◌, ◌⊎◌, List, [], None}
use Rattle.udt_disk.specs.Crash.{Image}
use Rattle.udt_disk.specs.Joint.{Folder}
use Rattle.udt_disk.specs.declared.name.FileName.{FileName}
use Rattle.udt_disk.specs.declared.name.FileName.TheVariants.{Log}
use Rattle.udt_disk.specs.declared.disk.Disk as disk
use Rattle.udt_model.specs.declared.line.FamilyHead.{FamilyHead}
use Rattle.udt_model.specs.State.{State, unflushed}
use Rattle.head_manifest.specs.Folders.{Means}
use Rattle.head_manifest.specs.Folders.Meaning.{no_store}
use Rattle.head_manifest.specs.Making.{IsStoreName}
use Rattle.plain_recovery.specs.Stores.{FolderStands}

-- the state of a store of these families in which nothing was written
abbrev pub new_state : List FamilyHead → State
new_state families = unflushed families [] (record { 0 = 0 }) None

-- the names that making a store touches
abbrev pub IsMakingName : FileName → Type 0
IsMakingName n = IsStoreName n ⊎ (n ≡ Log 1)

-- every other name stands as it did, and a crash leaves no more there
pub record KeepsOthers {D F : Type 0} (d : disk.Ghosts D F) (old new : D) : Type 0 where
  pub stands : (n : FileName) → ¬ IsMakingName n → d.stands new n ≡ d.stands old n
  pub no_more : (n : FileName) (c : Image) → ¬ IsMakingName n → d.may_leave new n c → d.may_leave old n c

-- there is no store, or the one of these families in which nothing was written
abbrev pub IsNoneOrNew : List FamilyHead → Folder → Type 0
IsNoneOrNew families folder = Means folder no_store ⊎ FolderStands folder (new_state families)
