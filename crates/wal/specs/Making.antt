-- A log that is being made under its name, beside the files that are held meanwhile.
use Rattle.std.specs.Prelude.{◌≡◌, ◌⊎◌, List, ◌∷◌, Result, Ok, Err}
use Rattle.udt_disk.specs.Crash.{Image, Created}
use Rattle.udt_disk.specs.Joint.{Folder, Joint}
use Rattle.udt_disk.specs.Moments.{AsAtBut}
use Rattle.udt_disk.specs.Runs.{MayTear}
use Rattle.udt_disk.specs.declared.name.FileName.{FileName}
use Rattle.udt_disk.specs.declared.file.DiskFile as file
use Rattle.udt_disk.specs.declared.disk.Disk as disk
use Rattle.gate_log.specs.declared.fault.LogFault.{LogFault}

-- What a crash may leave under the name of a log that is being made: what it might have left there before, or nothing, an
-- empty file, what an emptied file may hold, each but for its first byte.
abbrev pub LeavesUnmade : (Image → Type 0) → Image → Type 0
LeavesUnmade before c = before c ⊎ MayTear 0 1 (Created before) c

module _ {D F : Type 0} (d : disk.Ghosts D F) (f : file.Ghosts F) where
  -- under every other name stands what a crash might have left there before
  pub record IsWhileMade (j : Joint D F) (name : FileName) (folder : Folder) : Type 0 where
    pub others : AsAtBut d f (λ n. n ≡ name) j folder
    pub made : LeavesUnmade (d.may_leave j.disk name) (folder name)

-- the files that are held after a log was made, beside these
abbrev pub held_with : {W F : Type 0} → (W → F) → Result W LogFault → List F → List F
held_with file_of (Ok wal) others = file_of wal ∷ others
held_with file_of (Err fault) others = others
