use Rattle.std.proofs.Common.{◌≡◌, drop}
use Rattle.udt_model.specs.Refusals.{unknown}
use Rattle.floor_core.proofs.machine.Core.has_unknown.Given as goal

abbrev pub invariant-loop-op : goal.invariant-loop-op
invariant-loop-op l = unknown l.self.store (drop l.op-index l.ops) ≡ unknown l.self.store l.ops
