-- What stands under the names of a folder, and what a crash leaves there, while calls are made on it and on the files of it
-- that are held.
use Rattle.std.specs.Prelude.{◌≡◌, ◌≢◌, List, [], Some, IsTrue}
use Rattle.udt_disk.specs.Crash.{Image}
use Rattle.udt_disk.specs.Joint.{Folder, Joint, IsHeld, IsFree, Ran}
use Rattle.udt_disk.specs.declared.name.FileName.{FileName}
use Rattle.udt_disk.specs.declared.file.DiskFile as file
use Rattle.udt_disk.specs.declared.disk.Disk as disk

-- a disk, and the files of it that are held
abbrev pub holding : {D F : Type 0} → D → List F → Joint D F
holding disk files = record { disk = disk; files = files }

-- a disk of which no file is held
abbrev pub alone : {D F : Type 0} → D → Joint D F
alone disk = holding disk []

module _ {D : Type 0} {F : Type 0} (d : disk.Ghosts D F) where
  -- a crash leaves what stands there, and nothing else
  abbrev pub IsClean : D → Type 0
  IsClean disk = (n : FileName) (c : Image) → d.may_leave disk n c → c ≡ d.stands disk n

  -- a crash may leave this folder
  abbrev pub MayLeaveFolder : D → Folder → Type 0
  MayLeaveFolder disk folder = (n : FileName) → d.may_leave disk n (folder n)

module _ {D F : Type 0} (d : disk.Ghosts D F) (f : file.Ghosts F) where
  -- a crash may leave this under a name: each held file of that name may leave it, and where none is held the disk
  pub record MayLeave (j : Joint D F) (n : FileName) (c : Image) : Type 0 where
    pub held : (x : F) → IsHeld j.files x → f.name x ≡ n → f.may_leave x c
    pub free : IsFree d f j n → d.may_leave j.disk n c

  -- this stands under a name: each held file of that name holds it, and where none is held the disk
  pub record StandsUnder (j : Joint D F) (n : FileName) (c : Image) : Type 0 where
    pub held : (x : F) → IsHeld j.files x → f.name x ≡ n → c ≡ Some (f.seen x)
    pub free : IsFree d f j n → c ≡ d.stands j.disk n

  -- under every name but these a crash leaves what it might have left at the start
  abbrev pub AsAtBut : (FileName → Type 0) → Joint D F → Folder → Type 0
  AsAtBut IsTouched start folder = (n : FileName) → ¬ IsTouched n → MayLeave start n (folder n)

  -- Calls that make, write, sync, give back or remove only files of certain names, and may read others: under every other name
  -- stands what stood there, and a crash leaves nothing new, now and at each moment. The disk goes on telling and keeping what
  -- it did.
  pub record OnlyTouches (IsTouched : FileName → Type 0) (old new : Joint D F) : Type 0 where
    pub stands : IsTrue (d.is_told old.disk) → (n : FileName) (c : Image) → ¬ IsTouched n → StandsUnder new n c → StandsUnder old n c
    pub no_more : (n : FileName) (c : Image) → ¬ IsTouched n → MayLeave new n c → MayLeave old n c
    pub run : Ran d f (AsAtBut IsTouched old) old new
    pub told : d.is_told new.disk ≡ d.is_told old.disk
    pub model : d.keeps_model new.disk ≡ d.keeps_model old.disk

  -- calls that only read
  abbrev pub OnlyReads : Joint D F → Joint D F → Type 0
  OnlyReads old new = OnlyTouches (λ n. ⊥) old new
