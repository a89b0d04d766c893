-- How a fault bears on the file that is handed back.
use Rattle.std.specs.Prelude.{◌≡◌, Bool, true, false, ⊤}
use Rattle.gate_log.specs.declared.fault.LogFault.{LogFault}
use Rattle.gate_log.specs.declared.fault.LogFault.TheVariants as log
use Rattle.gate_log.specs.declared.fault.FramesFault.{FramesFault}
use Rattle.gate_log.specs.declared.fault.FramesFault.TheVariants as frames

-- the fault is the disk's
abbrev pub is_log_disk_fault : LogFault → Bool
is_log_disk_fault log.DiskFault = true
is_log_disk_fault log.NoMemory = false

abbrev pub is_frames_disk_fault : FramesFault → Bool
is_frames_disk_fault (frames.BadFrame at list) = false
is_frames_disk_fault frames.DiskFault = true
is_frames_disk_fault frames.NoMemory = false

-- the same fault of a log that is read
abbrev pub frames_fault : LogFault → FramesFault
frames_fault log.DiskFault = frames.DiskFault
frames_fault log.NoMemory = frames.NoMemory

-- for want of memory a file comes back as it was given
abbrev pub IsUntouched : {F : Type 0} → LogFault → F → F → Type 0
IsUntouched log.DiskFault old new = ⊤
IsUntouched log.NoMemory old new = new ≡ old
