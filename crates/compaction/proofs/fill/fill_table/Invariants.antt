use Rattle.std.proofs.Common.{◌≡◌, ◌≤◌, ◌++◌, List, [], ◌∷◌}
use Rattle.ts_key.specs.declared.version.Version.{Version}
use Rattle.flush_job.specs.Keeping.{Keeps, all_of, kept_of, left_of}
use Rattle.compaction.proofs.Growing.{Filling}
use Rattle.compaction.proofs.fill.fill_table.Given as goal

abbrev pub invariant-loop-last : goal.invariant-loop-last
invariant-loop-last g l = record {
  form : l.writer.form ≡ l.fn.form;
  all : all_of g.S.Feed l.kept ≡ all_of g.S.Feed l.initial.kept;
  kept : kept_of g.S.Feed l.kept ≡ kept_of g.S.Feed l.initial.kept;
  left : left_of g.S.Feed l.kept ≤ left_of g.S.Feed l.initial.kept;
  state : (given : List Version) → Keeps g.S.Feed l.initial.kept (given ++ l.fn.first ∷ []) → Filling g.S.Feed l.fn.family l.fn.form l.fn.floor l.kept l.writer given l.fn.first l.last;
}

abbrev pub decreases-loop-last : goal.decreases-loop-last
decreases-loop-last g l = left_of g.S.Feed l.kept
