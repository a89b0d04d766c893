use Rattle.std.proofs.Common.{rules, refl}
use Rattle.sv_gate.specs.declared.rule.Content.TheVariants.{Front}
use Rattle.sv_gate.proofs.steps.take_front.Goals as goal

pub exchange-content-requires : goal.exchange-content-requires
exchange-content-requires g c = let taken = c.lock_front.ensures.taken in (
  search rules,
  (Front taken.front, rw taken.is refl),
)
