use Rattle.std.proofs.Common.{◌≡◌, ◌-◌, drop, length}
use Rattle.floor_core.specs.Steps.{span_of_some}
use Rattle.floor_core.proofs.compacting.span_of_all.Given as goal

abbrev pub invariant-loop-i : goal.invariant-loop-i
invariant-loop-i l = l.span ≡ span_of_some (drop (length l.versions - l.i) l.versions)
