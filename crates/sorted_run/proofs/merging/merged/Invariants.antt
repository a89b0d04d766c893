use Rattle.std.proofs.Common.{◌≡◌, ◌≤◌, ◌+◌, ◌-◌, ◌++◌, length, drop}
use Rattle.sorted_run.specs.Sorts.{sorted}
use Rattle.sorted_run.proofs.merging.merged.Given as goal

abbrev pub invariant-loop-i : goal.invariant-loop-i
invariant-loop-i l = record {
  i_in : l.i ≤ length l.a;
  j_in : l.j ≤ length l.b;
  so_far : l.out.items ++ sorted (drop l.i l.a ++ drop l.j l.b) ≡ sorted (l.a ++ l.b);
}

abbrev pub decreases-loop-i : goal.decreases-loop-i
decreases-loop-i l = (length l.a - l.i) + (length l.b - l.j)
