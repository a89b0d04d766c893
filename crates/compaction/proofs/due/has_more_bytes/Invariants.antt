use Rattle.std.proofs.Common.{◌≡◌, drop}
use Rattle.std.specs.Prelude.{nat_lt}
use Rattle.compaction.specs.Plans.{file_bytes, of_level}
use Rattle.compaction.proofs.due.has_more_bytes.Given as goal

abbrev pub invariant-loop-t : goal.invariant-loop-t
invariant-loop-t l = nat_lt l.left (file_bytes (of_level l.level (drop l.t-index l.tables))) ≡ nat_lt l.limit (file_bytes (of_level l.level l.tables))
