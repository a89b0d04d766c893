use Rattle.std.proofs.Common.{map, reverse, ap, ◌∙◌}
use Rattle.std.specs.Arc.{arc_value}
use Rattle.store_engine.proofs.SealedVersion.{map_reverse}
use Rattle.store_engine.proofs.seal.from_last.Goals as goal

pub returns : goal.returns
returns g c = ap (map arc_value) c.reverse.ensures.items ∙ map_reverse arc_value c.in_ok-out.out.items ∙ ap reverse c.in_ok-out.ensures
