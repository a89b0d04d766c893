use Rattle.std.proofs.Common.{◌≡◌, ◌≤◌, List}
use Rattle.ts_key.specs.declared.version.Version.{Version}
use Rattle.flush_job.specs.Keeping.{Keeps, all_of, kept_of, left_of, steps_of}
use Rattle.flush_job.proofs.kept.Kept.next.Given as goal

abbrev pub invariant-loop-self : goal.invariant-loop-self
invariant-loop-self g l = record {
  given : (given : List Version) → Keeps g.S.Feed l.initial.self given → Keeps g.S.Feed l.self given;
  all : all_of g.S.Feed l.self ≡ all_of g.S.Feed l.initial.self;
  kept : kept_of g.S.Feed l.self ≡ kept_of g.S.Feed l.initial.self;
  left : left_of g.S.Feed l.self ≤ left_of g.S.Feed l.initial.self;
}

abbrev pub decreases-loop-self : goal.decreases-loop-self
decreases-loop-self g l = steps_of g.S.Feed l.self
