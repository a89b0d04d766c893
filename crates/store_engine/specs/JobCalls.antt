-- What the calls leave that make the files of jobs and take them back.
use Rattle.std.specs.Prelude.{◌≡◌, ℕ, ◌+◌, ◌<◌, [], ◌∷◌, false, Contains, IfErr, IsTrue, Result, Ok, Err}
use Rattle.udt_disk.specs.Causes.{IsCause, plus_faults}
use Rattle.udt_disk.specs.Crash.{Created, Image}
use Rattle.udt_disk.specs.Touches.{Touches}
use Rattle.udt_disk.specs.declared.disk.Disk as disk
use Rattle.udt_disk.specs.declared.file.DiskFile as file
use Rattle.udt_disk.specs.declared.name.FileName.TheVariants.{Table}
use Rattle.manifest_fold.specs.declared.limits.TheConstants.{FILE_NUMBER_LIMIT}
use Rattle.manifest_fold.specs.Folds.{is_live}
use Rattle.manifest.specs.Manifest.{manifest_folded}
use Rattle.store_engine.specs.Calls.{is_disk_failure}
use Rattle.store_engine.specs.Engines.{IsOneFolder, engine_faults, has_failed}
use Rattle.store_engine.specs.Jobs.{IsJobNumber}
use Rattle.store_engine.specs.Replies.{is_disk_fault}
use Rattle.store_engine.specs.declared.engine.Engine.{Engine}
use Rattle.store_engine.specs.declared.fault.EngineFault.{EngineFault}
use Rattle.store_engine.specs.declared.fault.EngineFault.TheVariants.{DiskFault, FilesFull}

-- the answer for a new file, by the number of the next one
abbrev pub AnswersJobFile : {F : Type 0} → ℕ → Result (ℕ × F) EngineFault → Type 0
AnswersJobFile next (Ok made) = next < FILE_NUMBER_LIMIT
AnswersJobFile next (Err (FilesFull number)) = (number ≡ next) × (next ≡ FILE_NUMBER_LIMIT)
AnswersJobFile next (Err DiskFault) = next < FILE_NUMBER_LIMIT
AnswersJobFile next (Err fault) = ⊥

-- how many files were made
abbrev pub made_count : {F : Type 0} → Result (ℕ × F) EngineFault → ℕ
made_count (Ok made) = 1
made_count (Err fault) = 0

-- An empty file, as a disk makes it, for the table of the number of the next file, which is given then and that of no live table.
pub record IsJobFile {D F : Type 0} (d : disk.Ghosts D F) (f : file.Ghosts F) (old new : Engine D F f) (number : ℕ) (made : F) : Type 0 where
  pub number_is : number ≡ old.next
  pub job : IsJobNumber new number
  pub name : f.name made ≡ Table number
  pub empty : IsTrue (d.is_told old.disk) → f.seen made ≡ []
  pub leaves : (image : Image) → f.may_leave made image → Created (d.may_leave old.disk (Table number)) image
  pub fresh : f.faults made ≡ 0
  pub told : f.is_told made ≡ d.is_told old.disk
  pub model : f.keeps_model made ≡ d.keeps_model old.disk

-- What the call leaves that makes one, whether or not the disk tells what it holds: the same two files, and one folder, in which only the
-- name of the new file was touched; the next number where it was made; nothing touched where there is no number left; and as many
-- faults as before unless the disk failed.
pub record IsJobFileCalled {D F : Type 0} (d : disk.Ghosts D F) (f : file.Ghosts F) (old new : Engine D F f) (result : Result (ℕ × F) EngineFault) : Type 0 where
  pub wal : new.wal ≡ old.wal
  pub manifest : new.manifest ≡ old.manifest
  pub older : new.older ≡ old.older
  pub next : new.next ≡ old.next + made_count result
  pub jobs : (n : ℕ) → IsJobNumber old n → IsJobNumber new n
  pub touches : Touches d (Contains (Table old.next ∷ [])) old.disk new.disk
  pub untouched : IfErr result (λ fault. is_disk_fault fault ≡ false → new ≡ old)
  pub one : IsOneFolder d f old → IsOneFolder d f new
  pub failed : has_failed new ≡ false
  pub counted : IsCause (is_disk_failure result) (engine_faults d f old) (engine_faults d f new)

-- the file has the name of a table that isn't live
abbrev pub IsDeadTable : {D F : Type 0} (f : file.Ghosts F) → Engine D F f → F → Type 0
IsDeadTable f engine given = (number : ℕ) × (f.name given ≡ Table number) × (is_live (manifest_folded engine.manifest).families number ≡ false)

-- What is left behind a file that was given back, whether or not the disk tells what it holds: one folder, the numbers of jobs, and the
-- faults of the file with the others.
pub record IsDiscarded {D F : Type 0} (d : disk.Ghosts D F) (f : file.Ghosts F) (given : F) (old new : Engine D F f) : Type 0 where
  pub one : IsOneFolder d f old → IsOneFolder d f new
  pub jobs : (n : ℕ) → IsJobNumber old n → IsJobNumber new n
  pub counted : engine_faults d f new ≡ plus_faults (engine_faults d f old) (f.faults given)
