use Rattle.std.proofs.Common.{◌≡◌}
use Rattle.flush_job.specs.Keeping.{all_of, kept_of, left_of}
use Rattle.compaction.proofs.Outputs.{Making, steps_left}
use Rattle.compaction.proofs.run.make_outputs.Given as goal

abbrev pub invariant-loop-next : goal.invariant-loop-next
invariant-loop-next g l = record {
  all : all_of g.S.Feed l.kept ≡ all_of g.S.Feed l.initial.kept;
  kept : kept_of g.S.Feed l.kept ≡ kept_of g.S.Feed l.initial.kept;
  making : Making g.S.Feed g.J.JobFiles g.J.File.DiskFile l.initial.family l.initial.form l.initial.floor (g.J.JobFiles.is_told l.initial.files) (g.J.JobFiles.keeps_model l.initial.files) l.kept l.initial.files l.files l.outs.items l.next;
}

abbrev pub decreases-loop-next : goal.decreases-loop-next
decreases-loop-next g l = steps_left l.next (left_of g.S.Feed l.kept)
