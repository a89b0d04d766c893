-- What a log shows.
use Rattle.std.specs.Prelude.{◌≡◌, ℕ, ◌-◌, List, length, IsTrue, vec_capacity}
use Rattle.udt_disk.specs.Crash.{Only}
use Rattle.udt_disk.specs.declared.file.DiskFile.{Ghosts}
use Rattle.gate_log.specs.Frames.{framed, IsLog}
use Rattle.gate_log.specs.declared.log.GateLog.{GateLog}

module _ {F : Type 0} {g : Ghosts F} where
  -- the file that the log holds
  abbrev pub log_file : GateLog F g → F
  log_file log = log.file

  -- the offset of the gate behind the last frame
  abbrev pub log_end : GateLog F g → ℕ
  log_end log = log.end

  -- how many bytes the next frame may have without memory
  abbrev pub log_room : GateLog F g → ℕ
  log_room log = vec_capacity log.room - 5

-- what reads of the file give is a log of these bodies, and the log ends where they end
pub record IsLogOf {F : Type 0} (g : Ghosts F) (log : GateLog F g) (bodies : List (List ℕ)) : Type 0 where
  pub told : IsTrue (g.is_told log.file)
  pub file : IsLog bodies (g.seen log.file)
  pub end : log.end ≡ length (framed bodies)

-- the same, and a crash leaves nothing else
pub record IsAtRest {F : Type 0} (g : Ghosts F) (log : GateLog F g) (bodies : List (List ℕ)) : Type 0 where
  pub logged : IsLogOf g log bodies
  pub durable : Only (g.seen log.file) (g.may_leave log.file)

-- where the file tells what it holds, it is a log of some bodies
abbrev pub IsLogReady : {F : Type 0} (g : Ghosts F) → GateLog F g → Type 0
IsLogReady g log = IsTrue (g.is_told log.file) → (bodies : List (List ℕ)) × IsLogOf g log bodies
