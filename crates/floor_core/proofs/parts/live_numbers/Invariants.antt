use Rattle.std.proofs.Common.{◌≡◌, take}
use Rattle.std.specs.Prelude.{flat_map}
use Rattle.udt_model.specs.State.{numbers_of}
use Rattle.floor_core.proofs.parts.live_numbers.Given as goal

abbrev pub invariant-loop-f : goal.invariant-loop-f
invariant-loop-f l = l.live.items ≡ flat_map (λ f. numbers_of f.tables) (take l.f-index l.families)
