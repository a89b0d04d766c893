use Rattle.std.proofs.Common.{◌≡◌, ◌≤◌, ◌-◌, length, vec_len}
use Rattle.std.specs.Prelude.{IsTrue}
use Rattle.udt_disk.specs.Runs.{IsOnlyRead}
use Rattle.gate_log.specs.Fronts.{IsFrontOf}
use Rattle.gate_log.proofs.image.read_to.Given as goal

-- the file was only read, and what was read of it is its front
abbrev pub invariant-loop-file : goal.invariant-loop-file
invariant-loop-file g l =
    IsOnlyRead g.F.DiskFile l.initial.file l.file
    × (g.F.DiskFile.faults l.file ≡ g.F.DiskFile.faults l.initial.file)
    × (length l.initial.front.bytes.items ≤ length l.front.bytes.items)
    × (IsTrue (g.F.DiskFile.is_told l.initial.file) → IsFrontOf l.front.bytes.items (g.F.DiskFile.seen l.initial.file))

abbrev pub decreases-loop-file : goal.decreases-loop-file
decreases-loop-file g l = l.want - length l.front.bytes.items
