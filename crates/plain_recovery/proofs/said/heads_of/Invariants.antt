use Rattle.std.proofs.Common.{◌≡◌, map, take}
use Rattle.plain_recovery.specs.Stores.{head_of}
use Rattle.plain_recovery.proofs.said.heads_of.Given as goal

abbrev pub invariant-loop-family : goal.invariant-loop-family
invariant-loop-family l = l.heads.items ≡ map head_of (take l.family-index l.families)
