use Rattle.std.proofs.Common.{◌≡◌, ◌++◌, take}
use Rattle.std.specs.Prelude.{All}
use Rattle.flush_job.specs.Walks.{runs_of}
use Rattle.flush_job.proofs.run_feed.push_runs.Given as goal

abbrev pub invariant-loop-index : goal.invariant-loop-index
invariant-loop-index l = record {
  first : All (λ c. c.place ≡ 1) l.cursors.items;
  runs : runs_of l.cursors.items ≡ runs_of l.initial.cursors.items ++ take l.index l.mem.runs;
}
