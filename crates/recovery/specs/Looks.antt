-- Files that are opened, read and given back, while others may be held.
use Rattle.std.specs.Prelude.{List}
use Rattle.udt_disk.specs.Joint.{IsFree}
use Rattle.udt_disk.specs.Moments.{OnlyReads, holding}
use Rattle.udt_disk.specs.declared.name.FileName.{FileName}
use Rattle.udt_disk.specs.declared.file.DiskFile as file
use Rattle.udt_disk.specs.declared.disk.Disk as disk

-- Only files of these names were opened; they were only read, and given back. Others may be held meanwhile.
abbrev pub Looks : {D F : Type 0} → disk.Ghosts D F → file.Ghosts F → (FileName → Type 0) → D → D → Type 0
Looks {D} {F} d f IsRead old new = (others : List F) → ((n : FileName) → IsRead n → IsFree d f (holding old others) n) → OnlyReads d f (holding old others) (holding new others)
