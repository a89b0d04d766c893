use Rattle.std.proofs.Common.{◌≡◌, None, drop}
use Rattle.floor_core.specs.Steps.{hull_from}
use Rattle.floor_core.proofs.compacting.hull_of_all.Given as goal

abbrev pub invariant-loop-span : goal.invariant-loop-span
invariant-loop-span l = hull_from l.hull (drop l.span-index l.spans) ≡ hull_from None l.spans
