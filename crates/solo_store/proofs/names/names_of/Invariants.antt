use Rattle.std.proofs.Common.{◌≡◌, map, take}
use Rattle.manifest_fold.specs.declared.fold.FamilyFold.{FamilyFold}
use Rattle.solo_store.proofs.names.names_of.Given as goal

abbrev pub invariant-loop-family : goal.invariant-loop-family
invariant-loop-family l = l.names.items ≡ map (λ (f : FamilyFold). f.name) (take l.family-index l.families)
