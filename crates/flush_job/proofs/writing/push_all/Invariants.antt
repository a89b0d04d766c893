use Rattle.std.proofs.Common.{◌≡◌, take}
use Rattle.block_table.specs.Contents.{Contents}
use Rattle.block_table.specs.Pushed.{HasPushed}
use Rattle.flush_job.specs.Writing.{and_versions}
use Rattle.flush_job.proofs.writing.push_all.Given as goal

abbrev pub invariant-loop-version : goal.invariant-loop-version
invariant-loop-version l = record {
  form : l.writer.form ≡ l.initial.writer.form;
  pushed : (t : Contents) → HasPushed l.initial.writer t → HasPushed l.writer (and_versions t (take l.version-index l.versions));
}
