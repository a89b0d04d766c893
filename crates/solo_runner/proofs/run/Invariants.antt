use Rattle.std.specs.Prelude.{◌≤◌, vec_capacity}
use Rattle.solo_runner.proofs.SoloLemmas.{RanSoFar}
use Rattle.solo_runner.proofs.run.Given as goal

abbrev pub invariant-loop-command : goal.invariant-loop-command
invariant-loop-command l = RanSoFar l.fn.store l.store l.yielded l.lines.items l.last × (vec_capacity l.fn.lines ≤ vec_capacity l.lines)
