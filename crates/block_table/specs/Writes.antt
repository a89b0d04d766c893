-- What writing a table answers, and what it leaves of the file.
use Rattle.std.specs.Prelude.{◌≡◌, ℕ, List, Result, Ok, Err}
use Rattle.udt_disk.specs.Runs.{WritesSynced}
use Rattle.udt_disk.specs.declared.file.DiskFile.{Ghosts}
use Rattle.udt_disk.specs.declared.traits.Failed.{Failed}
use Rattle.block_table.specs.Contents.{Contents}
use Rattle.block_table.specs.Tables.{IsTable}
use Rattle.block_table.specs.Held.{Held}
use Rattle.block_table.specs.declared.fault.TableWriteFault.{TableWriteFault}
use Rattle.block_table.specs.declared.fault.TableWriteFault.TheVariants.{DiskFault, NoMemory}

-- The table of these contents was written from offset 0 on and synced, and is answered; or a call of the file failed in
-- that; or memory ran out, before any call of the file.
abbrev pub WritesTable : {F : Type 0} (g : Ghosts F) → Contents → F → F → Result Held TableWriteFault → Type 0
WritesTable g t old new (Ok table) = (table.contents ≡ t) × IsTable t table.image × WritesSynced {E = Failed} g 0 table.image old new (Ok tt)
WritesTable g t old new (Err DiskFault) = (image : List ℕ) × (failed : Failed) × (IsTable t image × WritesSynced g 0 image old new (Err failed))
WritesTable g t old new (Err NoMemory) = new ≡ old
