use Rattle.std.proofs.Common.{◌≡◌, map, take}
use Rattle.manifest.specs.Folds.{family_fold}
use Rattle.manifest.proofs.fold.new_families.Given as goal

abbrev pub invariant-loop-family : goal.invariant-loop-family
invariant-loop-family l = l.folds.items ≡ map family_fold (take l.family-index l.families)
