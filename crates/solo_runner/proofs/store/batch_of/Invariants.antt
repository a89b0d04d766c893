use Rattle.std.proofs.Common.{◌≡◌, map, take}
use Rattle.solo_runner.specs.Adding.{op_of_version}
use Rattle.solo_runner.proofs.store.batch_of.Given as goal

abbrev pub invariant-loop-version : goal.invariant-loop-version
invariant-loop-version l = l.ops.items ≡ map op_of_version (take l.version-index l.versions)
