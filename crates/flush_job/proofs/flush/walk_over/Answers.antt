use Rattle.std.proofs.Common.{map, ap, ◌∙◌}
use Rattle.std.specs.Arc.{arc_value}
use Rattle.flush_job.specs.Walks.{runs_of}
use Rattle.flush_job.proofs.Walking.{place_one, walked_of}
use Rattle.flush_job.proofs.flush.walk_over.Goals as goal

pub returns-clause-first : goal.returns-clause-first
returns-clause-first c = place_one c.new.result.before _ c.new.ensures.first c.new.ensures.none

pub returns-clause-walked : goal.returns-clause-walked
returns-clause-walked c =
    walked_of c.new.result.children.items (map arc_value c.args.mems.now) (ap (λ (v : _). runs_of v.items) c.new.ensures.children ∙ c.in_ok-cursors.ensures.runs)
