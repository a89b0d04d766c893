use Rattle.std.proofs.Common.{◌≡◌, List}
use Rattle.ts_key.specs.declared.version.Version.{Version}
use Rattle.block_table.specs.Contents.{Contents}
use Rattle.block_table.specs.Pushed.{HasPushed}
use Rattle.flush_job.specs.Writing.{and_versions}
use Rattle.flush_job.specs.Keeping.{Keeps, all_of, kept_of, left_of}
use Rattle.flush_job.proofs.writing.write_kept.Given as goal

abbrev pub invariant-loop-version : goal.invariant-loop-version
invariant-loop-version g l = record {
  form : l.writer.form ≡ l.initial.writer.form;
  all : all_of g.S.Feed l.kept ≡ all_of g.S.Feed l.initial.kept;
  kept : kept_of g.S.Feed l.kept ≡ kept_of g.S.Feed l.initial.kept;
  state : (given : List Version) × (Keeps g.S.Feed l.kept given × ((t : Contents) → HasPushed l.initial.writer t → HasPushed l.writer (and_versions t given)));
}

abbrev pub decreases-loop-version : goal.decreases-loop-version
decreases-loop-version g l = left_of g.S.Feed l.kept
