use Rattle.std.proofs.Common.{◌≡◌, take}
use Rattle.udt_model.specs.Versions.{logged}
use Rattle.super_version.specs.Writes.{of_family}
use Rattle.super_version.proofs.writing.versions_of.Given as goal

abbrev pub invariant-loop-i : goal.invariant-loop-i
invariant-loop-i l = l.versions.items ≡ of_family l.family (logged l.first (take l.i l.ops))
