use Rattle.std.proofs.Common.{◌≡◌, map, take}
use Rattle.udt_model.specs.State.{unflushed_family}
use Rattle.floor_core.specs.Cores.{new_head}
use Rattle.floor_core.proofs.parts.fresh_families.Given as goal

abbrev pub invariant-loop-form : goal.invariant-loop-form
invariant-loop-form l = l.families.items ≡ map unflushed_family (map new_head (take l.form-index l.forms))
