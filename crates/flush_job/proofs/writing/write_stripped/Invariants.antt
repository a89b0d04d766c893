use Rattle.std.proofs.Common.{◌≡◌, ◌++◌, List}
use Rattle.ts_key.specs.declared.version.Version.{Version}
use Rattle.udt_model.specs.Collecting.{stripped}
use Rattle.block_table.specs.Contents.{Contents}
use Rattle.block_table.specs.Pushed.{HasPushed}
use Rattle.flush_job.specs.Writing.{and_versions}
use Rattle.flush_job.specs.Keeping.{Keeps, all_of, kept_of, left_of}
use Rattle.flush_job.proofs.Stripping.{IsCut}
use Rattle.flush_job.proofs.writing.write_stripped.Given as goal

abbrev pub invariant-loop-of_key : goal.invariant-loop-of_key
invariant-loop-of_key g l = record {
  form : l.writer.form ≡ l.initial.writer.form;
  all : all_of g.S.Feed l.kept ≡ all_of g.S.Feed l.initial.kept;
  kept : kept_of g.S.Feed l.kept ≡ kept_of g.S.Feed l.initial.kept;
  state : (done : List Version) × (Keeps g.S.Feed l.kept (done ++ l.of_key.items) × (IsCut done l.of_key.items × ((t : Contents) → HasPushed l.initial.writer t → HasPushed l.writer (and_versions t (stripped done)))));
}

abbrev pub decreases-loop-of_key : goal.decreases-loop-of_key
decreases-loop-of_key g l = left_of g.S.Feed l.kept
