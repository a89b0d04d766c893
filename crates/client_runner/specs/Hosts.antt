-- What a command leaves of the files and folders that it doesn't name.
use Rattle.std.specs.Prelude.{◌≡◌, ◌≢◌, ◌⊎◌, ℕ, ◌≤◌, List}
use Rattle.udt_disk.specs.Opens.{Standing, StaysBut, without_source}
use Rattle.udt_disk.specs.OpensFolder.{KeepsFolders, KeepsFoldersBut, LeavesNoMore, LeavesNoMoreBut}
use Rattle.udt_disk.specs.declared.traits.Host.{Ghosts}
use Rattle.udt_model.specs.declared.line.FamilyHead.{FamilyHead}
use Rattle.client_runner.specs.Commands.{IsTryCommand, IsInitCommand, IsRunCommand}

-- the command reads the file under this path
abbrev pub IsFileOf : List (List ℕ) → List ℕ → Type 0
IsFileOf words path = IsTryCommand words path ⊎ ((folder : List ℕ) × IsRunCommand words folder path)

-- the command opens the folder under this path
abbrev pub IsFolderOf : List (List ℕ) → List ℕ → Type 0
IsFolderOf words path = ((families : List FamilyHead) × IsInitCommand words path families) ⊎ ((file : List ℕ) × IsRunCommand words path file)

-- what stands there stays, or is taken out
abbrev pub StaysOrGoes : Standing → Standing → Type 0
StaysOrGoes old new = (new ≡ old) ⊎ (new ≡ without_source old)

-- ---- beside a file and a folder

abbrev pub StaysElsewhere : List ℕ → List ℕ → (List ℕ → Standing) → (List ℕ → Standing) → Type 0
StaysElsewhere file folder old new = (path : List ℕ) → path ≢ file → path ≢ folder → new path ≡ old path

-- where the file isn't under the folder's path, it stays or is taken out
abbrev pub FileStaysOrGoes : List ℕ → List ℕ → (List ℕ → Standing) → (List ℕ → Standing) → Type 0
FileStaysOrGoes file folder old new = file ≢ folder → StaysOrGoes (old file) (new file)

-- ---- one folder of a host

module _ {H D F I : Type 0} (h : Ghosts H D F I) where
  -- A command that uses the folder under this path alone: what stands under other paths, and every source there, stays, a crash
  -- leaves no more there, and the count doesn't fall.
  pub record UsesFolder (path : List ℕ) (old new : H) : Type 0 where
    pub folders : KeepsFoldersBut path (h.folder_at old) (h.folder_at new)
    pub leaves : LeavesNoMoreBut path (h.leaves_at old) (h.leaves_at new)
    pub sources : StaysBut path (h.standing old) (h.standing new)
    pub later : h.faults old ≤ h.faults new

  -- A command that uses the file under this path alone: it stays there or is taken out, what stands under other paths stays, and
  -- so do all folders.
  pub record UsesFile (path : List ℕ) (old new : H) : Type 0 where
    pub others : StaysBut path (h.standing old) (h.standing new)
    pub taken : StaysOrGoes (h.standing old path) (h.standing new path)
    pub folders : KeepsFolders (h.folder_at old) (h.folder_at new)
    pub leaves : LeavesNoMore (h.leaves_at old) (h.leaves_at new)
    pub later : h.faults old ≤ h.faults new
