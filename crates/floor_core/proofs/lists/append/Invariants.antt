use Rattle.std.proofs.Common.{◌≡◌, ◌++◌, take}
use Rattle.floor_core.proofs.lists.append.Given as goal

abbrev pub invariant-loop-v : goal.invariant-loop-v
invariant-loop-v l = l.list.items ≡ l.initial.list.items ++ take l.v-index l.versions
