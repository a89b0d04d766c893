use Rattle.std.proofs.Common.{◌≡◌, take}
use Rattle.super_version.specs.Writes.{of_family}
use Rattle.recovery.proofs.version.own_versions.Given as goal

abbrev pub invariant-loop-version : goal.invariant-loop-version
invariant-loop-version l = l.own.items ≡ of_family l.family (take l.version-index l.versions)
