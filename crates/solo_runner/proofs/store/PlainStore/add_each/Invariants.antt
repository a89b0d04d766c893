use Rattle.std.proofs.Common.{◌≡◌}
use Rattle.solo_runner.proofs.Adding.{AddedSoFar}
use Rattle.solo_runner.proofs.store.PlainStore.add_each.Given as goal

abbrev pub invariant-loop-i : goal.invariant-loop-i
invariant-loop-i l = record {
  last_is : l.last ≡ l.fn.self.last.0;
  added : AddedSoFar l.fn.self l.ops l.i l.self;
}
