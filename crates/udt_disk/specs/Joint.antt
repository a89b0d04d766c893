-- A folder after a crash, where some of its files are held beside it, and runs of calls on all of them.
use Rattle.std.specs.Prelude.{◌≡◌, ◌≢◌, ◌⊎◌, List, [], ◌∷◌}
use Rattle.udt_disk.specs.Crash.{Image}
use Rattle.udt_disk.specs.declared.name.FileName.{FileName}
use Rattle.udt_disk.specs.declared.file.DiskFile as file
use Rattle.udt_disk.specs.declared.disk.Disk as disk

abbrev pub Folder : Type 0
Folder = FileName → Image

-- a file is one of these
abbrev pub IsHeld : {F : Type 0} → List F → F → Type 0
IsHeld [] x = ⊥
IsHeld (y ∷ files) x = (y ≡ x) ⊎ IsHeld files x

-- a disk, and the files of it that are held
pub record Joint (D F : Type 0) : Type 0 where
  pub disk : D
  pub files : List F

module _ {D F : Type 0} (d : disk.Ghosts D F) (f : file.Ghosts F) where
  -- no held file has the name
  abbrev pub IsFree : Joint D F → FileName → Type 0
  IsFree j n = (x : F) → IsHeld j.files x → n ≢ f.name x

  -- What a crash may leave now: each held file an image of its own, and the disk one of each other name.
  pub record IsImage (j : Joint D F) (folder : Folder) : Type 0 where
    pub held : (x : F) → IsHeld j.files x → f.may_leave x (folder (f.name x))
    pub others : (n : FileName) → IsFree j n → d.may_leave j.disk n (folder n)

  -- What a crash may leave between two such states, one call or one file's run of calls apart. A file that is held before and
  -- after tells its moments, and so does the disk of the names that nobody holds. One that is taken or given back leaves
  -- what it may leave before or after.
  pub record IsBetween (j k : Joint D F) (folder : Folder) : Type 0 where
    pub held : (x y : F) → IsHeld j.files x → IsHeld k.files y → f.name y ≡ f.name x → f.left_since y (f.moment x) (folder (f.name x))
    pub others : (n : FileName) → IsFree j n → IsFree k n → d.left_since k.disk (d.moment j.disk) n (folder n)
    pub given : (x : F) → IsHeld j.files x → IsFree k (f.name x) → f.may_leave x (folder (f.name x)) ⊎ d.may_leave k.disk (f.name x) (folder (f.name x))
    pub taken : (y : F) → IsHeld k.files y → IsFree j (f.name y) → d.may_leave j.disk (f.name y) (folder (f.name y)) ⊎ f.may_leave y (folder (f.name y))

  -- a crash now leaves only folders that have P
  abbrev pub LeavesNow : (Folder → Type 0) → Joint D F → Type 0
  LeavesNow P j = (folder : Folder) → IsImage j folder → P folder

-- A run of calls, at each moment of which every image that a crash may leave has P.
pub data Ran {D F : Type 0} (d : disk.Ghosts D F) (f : file.Ghosts F) (P : Folder → Type 0) (old : Joint D F) : Joint D F → Type 0 where
  rests : LeavesNow d f P old → Ran d f P old old
  then_to : (mid new : Joint D F) → Ran d f P old mid → ((folder : Folder) → IsBetween d f mid new folder → P folder) → LeavesNow d f P new → Ran d f P old new
