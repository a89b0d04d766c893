use Rattle.std.proofs.Common.{◌≡◌, ◌++◌, take}
use Rattle.engine_laws.specs.Logs.{versions_of}
use Rattle.recovery.specs.Replayed.{above_through}
use Rattle.recovery.proofs.gathered.push_batches.Given as goal

abbrev pub invariant-loop-numbered : goal.invariant-loop-numbered
invariant-loop-numbered l = l.versions.items ≡ l.initial.versions.items ++ above_through l.families (versions_of (take l.numbered-index l.batches))
