use Rattle.std.proofs.Common.{◌≡◌, ◌<◌, ◌^◌, take, All}
use Rattle.data_block.proofs.tail.narrowed.Given as goal

abbrev pub invariant-loop-n : goal.invariant-loop-n
invariant-loop-n l = record {
  short : All (λ n. n < 2 ^ 32) (take l.n-index l.ns);
  same : l.out.items ≡ take l.n-index l.ns;
}
