use Rattle.std.proofs.Common.{◌≡◌, take}
use Rattle.std.specs.Prelude.{option_map}
use Rattle.store_engine.specs.Admission.{latest_at}
use Rattle.store_engine.proofs.admission.latest_at.Given as goal

abbrev pub invariant-loop-op : goal.invariant-loop-op
invariant-loop-op l = option_map (λ ts. ts.0) l.latest ≡ latest_at l.fn.family l.key (take l.op-index l.ops)
