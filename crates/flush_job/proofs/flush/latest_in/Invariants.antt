use Rattle.std.proofs.Common.{◌≡◌, map, take}
use Rattle.std.specs.Arc.{arc_value}
use Rattle.sorted_run.specs.Runs.{latest_of}
use Rattle.flush_job.specs.Walks.{versions_of_all}
use Rattle.flush_job.proofs.flush.latest_in.Given as goal

abbrev pub invariant-loop-mem : goal.invariant-loop-mem
invariant-loop-mem l = l.latest ≡ latest_of (versions_of_all (map arc_value (take l.mem-index l.mems)))
