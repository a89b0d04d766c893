-- Which faults tell nothing of a folder.
use Rattle.std.specs.Prelude.{⊤, Bool, true, false}
use Rattle.recovery.specs.declared.fault.OpenFault.{OpenFault}
use Rattle.recovery.specs.declared.fault.OpenFault.TheVariants.{NoStore, BadManifest, MissingTable, BadTable, BadLog, DiskFault, NoMemory}

-- nothing is told: the disk failed, or memory ran out
abbrev pub IsStop : OpenFault → Type 0
IsStop NoStore = ⊥
IsStop (BadManifest at) = ⊥
IsStop (MissingTable n) = ⊥
IsStop (BadTable n) = ⊥
IsStop (BadLog n at) = ⊥
IsStop DiskFault = ⊤
IsStop NoMemory = ⊤

-- the fault is the disk's
abbrev pub is_open_disk_fault : OpenFault → Bool
is_open_disk_fault NoStore = false
is_open_disk_fault (BadManifest at) = false
is_open_disk_fault (MissingTable n) = false
is_open_disk_fault (BadTable n) = false
is_open_disk_fault (BadLog n at) = false
is_open_disk_fault DiskFault = true
is_open_disk_fault NoMemory = false
