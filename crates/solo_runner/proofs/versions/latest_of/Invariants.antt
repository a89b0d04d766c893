use Rattle.std.proofs.Common.{take}
use Rattle.solo_runner.specs.VersionLists.{IsBound}
use Rattle.solo_runner.proofs.versions.latest_of.Given as goal

abbrev pub invariant-loop-version : goal.invariant-loop-version
invariant-loop-version l = IsBound l.latest (take l.version-index l.versions)
