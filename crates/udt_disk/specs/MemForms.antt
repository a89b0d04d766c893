-- What clauses see of the folders and files in memory beside what the traits tell.
use Rattle.std.specs.Prelude.{ℕ}
use Rattle.udt_disk.specs.Crash.{Image}
use Rattle.udt_disk.specs.AfterCrash.{crash_image}
use Rattle.udt_disk.specs.declared.name.FileName.{FileName}
use Rattle.udt_disk.specs.declared.outcome.Outcome.{Outcome}
use Rattle.udt_disk.specs.declared.mem_disk.MemDisk.{MemDisk}
use Rattle.udt_disk.specs.declared.mem_disk.MemFile.{MemFile}

-- how many calls of the folder found no memory
abbrev pub folder_starved : MemDisk → ℕ
folder_starved disk = disk.starved

-- how many calls of the file found no memory since it was given out
abbrev pub file_starved : MemFile → ℕ
file_starved file = file.data.starved

-- what the outcome leaves under a name
abbrev pub left_by : Outcome → MemDisk → FileName → Image
left_by outcome disk name = crash_image outcome disk.directory name
