use Rattle.std.proofs.Common.{◌≡◌, ◌++◌, take}
use Rattle.udt_model.specs.Versions.{logged}
use Rattle.plain_recovery.proofs.said.add_batch.Given as goal

abbrev pub invariant-loop-i : goal.invariant-loop-i
invariant-loop-i l = record {
  first_is : l.first ≡ l.numbered.first.0;
  added : l.versions.items ≡ l.initial.versions.items ++ logged l.first (take l.i l.op-items);
}
