-- What making room for a frame leaves of a log.
use Rattle.std.specs.Prelude.{◌≡◌, ℕ, ◌≤◌, List}
use Rattle.udt_disk.specs.declared.file.DiskFile.{Ghosts}
use Rattle.gate_log.specs.GateLog.{log_file, log_room, IsLogOf}
use Rattle.gate_log.specs.declared.log.GateLog.{GateLog}

-- the log is as it was, but that it may have more room
pub record OnlyReserves {F : Type 0} (g : Ghosts F) (old new : GateLog F g) : Type 0 where
  pub room : log_room old ≤ log_room new
  pub file : log_file new ≡ log_file old
  pub logged : (bodies : List (List ℕ)) → IsLogOf g old bodies → IsLogOf g new bodies
