use Rattle.std.proofs.Common.{◌≡◌, drop}
use Rattle.udt_model.specs.Jobs.{is_ascending}
use Rattle.floor_core.proofs.Plans.{ascends_from}
use Rattle.floor_core.proofs.compacting.is_ascending.Given as goal

abbrev pub invariant-loop-number : goal.invariant-loop-number
invariant-loop-number l = ascends_from l.last (drop l.number-index l.numbers) ≡ is_ascending l.numbers
