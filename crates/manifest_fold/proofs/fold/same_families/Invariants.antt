use Rattle.std.proofs.Common.{◌≡◌, take}
use Rattle.manifest_fold.proofs.fold.same_families.Given as goal

abbrev pub invariant-loop-family : goal.invariant-loop-family
invariant-loop-family l = l.copied.items ≡ take l.family-index l.families
