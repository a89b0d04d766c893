use Rattle.std.proofs.Common.{◌≡◌, map, take}
use Rattle.std.specs.Arc.{arc_value}
use Rattle.flush_job.specs.Walks.{versions_of_all}
use Rattle.job_rows.proofs.tests.flushing.all_versions.Given as goal

abbrev pub invariant-loop-mem : goal.invariant-loop-mem
invariant-loop-mem l = l.all.items ≡ versions_of_all (map arc_value (take l.mem-index l.mems))
