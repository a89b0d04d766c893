use Rattle.std.proofs.Common.{◌≡◌, ◌++◌, drop}
use Rattle.floor_core.specs.Machine.{kept_families}
use Rattle.floor_core.proofs.machine.Core.pinned_families.Given as goal

abbrev pub invariant-loop-i : goal.invariant-loop-i
invariant-loop-i l = l.kept.items ++ kept_families l.self.store l.i (drop l.i l.self.store.families) ≡ kept_families l.self.store 0 l.self.store.families
