use Rattle.std.proofs.Common.{◌≡◌, ◌++◌, take}
use Rattle.sorted_run.proofs.merging.copy_all.Given as goal

abbrev pub invariant-loop-v : goal.invariant-loop-v
invariant-loop-v l = l.out.items ≡ l.initial.out.items ++ take l.v-index l.versions
