-- Runs of calls on a disk and on the files of it that an engine holds.
use Rattle.std.specs.Prelude.{◌≡◌, ◌⊎◌, List}
use Rattle.udt_disk.specs.Joint.{IsHeld}
use Rattle.udt_disk.specs.declared.file.DiskFile as file
use Rattle.udt_disk.specs.declared.disk.Disk as disk
use Rattle.udt_disk.specs.Crash.{Image}
use Rattle.udt_disk.specs.declared.name.FileName.{FileName}

-- a crash at the moment of the last call leaves what one now does, of a disk and of its files
pub record IsNowLast {D F : Type 0} (d : disk.Ghosts D F) (f : file.Ghosts F) : Type 0 where
  pub disk : (x : D) (n : FileName) (c : Image) → d.left_since x (d.moment x) n c → d.may_leave x n c
  pub file : (x : F) (c : Image) → f.left_since x (f.moment x) c → f.may_leave x c

-- one of the held files ran on, and the others are held as they were
pub record OneRan {F : Type 0} (f : file.Ghosts F) (before after : List F) (a b : F) : Type 0 where
  pub held : IsHeld before a
  pub ran : IsHeld after b
  pub name : f.name b ≡ f.name a
  pub stay : (x : F) → IsHeld before x → (a ≡ x) ⊎ IsHeld after x
  pub back : (x : F) → IsHeld after x → (b ≡ x) ⊎ IsHeld before x
