use Rattle.std.proofs.Common.{◌≡◌, take}
use Rattle.plain_recovery.specs.Stores.{versions_of}
use Rattle.plain_recovery.proofs.said.versions_of.Given as goal

abbrev pub invariant-loop-numbered : goal.invariant-loop-numbered
invariant-loop-numbered l = l.versions.items ≡ versions_of (take l.numbered-index l.batches)
