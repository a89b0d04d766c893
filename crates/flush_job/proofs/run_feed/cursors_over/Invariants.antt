use Rattle.std.proofs.Common.{◌≡◌, map, take}
use Rattle.std.specs.Prelude.{All}
use Rattle.std.specs.List.{flat_map}
use Rattle.std.specs.Arc.{arc_value}
use Rattle.flush_job.specs.Walks.{runs_of}
use Rattle.flush_job.proofs.run_feed.cursors_over.Given as goal

abbrev pub invariant-loop-mem : goal.invariant-loop-mem
invariant-loop-mem l = record {
  first : All (λ c. c.place ≡ 1) l.cursors.items;
  runs : runs_of l.cursors.items ≡ flat_map (λ m. m.runs) (map arc_value (take l.mem-index l.mems));
}
