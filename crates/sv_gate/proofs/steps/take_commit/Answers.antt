use Rattle.std.proofs.Common.{rules, refl}
use Rattle.sv_gate.specs.declared.rule.Content.TheVariants.{Commit}
use Rattle.sv_gate.proofs.steps.take_commit.Goals as goal

pub exchange-content-requires : goal.exchange-content-requires
exchange-content-requires g c = let taken = c.lock_commit.ensures.taken in (
  search rules,
  (Commit taken.commit, rw taken.is refl),
)
