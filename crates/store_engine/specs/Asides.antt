-- Calls on the disk beside the two files that an engine holds.
use Rattle.std.specs.Prelude.{◌≡◌, ◌⊎◌, List, [], ◌∷◌, Contains, IsTrue, None}
use Rattle.udt_disk.specs.Causes.{Rose, plus_faults}
use Rattle.udt_disk.specs.Crash.{NoMore}
use Rattle.udt_disk.specs.Touches.{Touches}
use Rattle.udt_disk.specs.declared.name.FileName.{FileName}
use Rattle.udt_disk.specs.declared.disk.Disk as disk
use Rattle.udt_disk.specs.declared.file.DiskFile as file
use Rattle.store_engine.specs.Engines.{has_failed}
use Rattle.store_engine.specs.declared.engine.Engine.{Engine}

-- Calls on the disk under these names, and nothing else.
pub record IsAside {D F : Type 0} (d : disk.Ghosts D F) {f : file.Ghosts F} (names : List FileName) (old new : Engine D F f) : Type 0 where
  pub wal : new.wal ≡ old.wal
  pub manifest : new.manifest ≡ old.manifest
  pub next : new.next ≡ old.next
  pub older : new.older ≡ old.older
  pub failed : has_failed new ≡ has_failed old
  pub touches : Touches d (Contains names) old.disk new.disk

-- the file was given back to the disk
pub record IsGivenBack {D F : Type 0} (d : disk.Ghosts D F) (f : file.Ghosts F) (given : F) (old new : Engine D F f) : Type 0 where
  pub aside : IsAside d (f.name given ∷ []) old new
  pub crash : NoMore (f.may_leave given) (d.may_leave new.disk (f.name given))
  pub faults : d.faults new.disk ≡ plus_faults (d.faults old.disk) (f.faults given)

-- no file stands under these names, where the disk tells
abbrev pub AreAbsent : {D F : Type 0} (d : disk.Ghosts D F) → List FileName → D → Type 0
AreAbsent d names now = (name : FileName) → Contains names name → IsTrue (d.is_told now) → d.stands now name ≡ None

-- the files of these names are gone and the count of faults is as it was, or the disk failed
abbrev pub IsRemoval : {D F : Type 0} (d : disk.Ghosts D F) → List FileName → D → D → Type 0
IsRemoval d names old new = (AreAbsent d names new × (d.faults new ≡ d.faults old)) ⊎ Rose (d.faults old) (d.faults new)

-- files of these names were removed, or stay where the disk failed
pub record AreRemoved {D F : Type 0} (d : disk.Ghosts D F) {f : file.Ghosts F} (names : List FileName) (old new : Engine D F f) : Type 0 where
  pub aside : IsAside d names old new
  pub gone : IsRemoval d names old.disk new.disk
