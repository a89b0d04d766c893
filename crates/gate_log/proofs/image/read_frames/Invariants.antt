use Rattle.std.proofs.Common.{◌≡◌, ◌⊎◌, ◌<◌, ◌≤◌, ◌-◌, ◌^◌, length}
use Rattle.std.specs.Prelude.{IsTrue}
use Rattle.udt_disk.specs.Runs.{IsOnlyRead}
use Rattle.gate_log.specs.Reads.{IsFront}
use Rattle.gate_log.specs.Fronts.{IsFrontOf}
use Rattle.gate_log.proofs.image.read_frames.Given as goal

-- The file was only read, what was read of it is its front, and the frames so far stand at the front of it, with a byte behind them
-- where there is one.
abbrev pub invariant-loop-frames : goal.invariant-loop-frames
invariant-loop-frames g l =
    IsOnlyRead g.F.DiskFile l.initial.file l.file
    × (g.F.DiskFile.faults l.file ≡ g.F.DiskFile.faults l.initial.file)
    × (l.at ≤ length l.front.bytes.items)
    × (IsTrue (g.F.DiskFile.is_told l.initial.file) → IsFrontOf l.front.bytes.items (g.F.DiskFile.seen l.initial.file))
    × (IsTrue (g.F.DiskFile.is_told l.initial.file) → IsFront l.frames.items l.at (g.F.DiskFile.seen l.initial.file))
    × (IsTrue (g.F.DiskFile.is_told l.initial.file) → (l.at ≡ 0) ⊎ (l.at < length (g.F.DiskFile.seen l.initial.file)))

abbrev pub decreases-loop-frames : goal.decreases-loop-frames
decreases-loop-frames g l = 2 ^ 64 - l.at
