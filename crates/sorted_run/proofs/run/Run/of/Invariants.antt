use Rattle.std.proofs.Common.{◌≡◌, max, take, drop}
use Rattle.sorted_run.specs.Runs.{stamps_of, latest_of}
use Rattle.sorted_run.proofs.run.Run.of.Given as goal

abbrev pub invariant-loop-v : goal.invariant-loop-v
invariant-loop-v l = record {
  stamps : l.stamps.items ≡ stamps_of (take l.v-index l.v-items);
  latest : max l.latest (latest_of (drop l.v-index l.v-items)) ≡ latest_of l.v-items;
}
