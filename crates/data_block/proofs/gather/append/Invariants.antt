use Rattle.std.proofs.Common.{◌≡◌, ◌++◌, length, take}
use Rattle.std.specs.Prelude.{map}
use Rattle.data_block.proofs.Rebased.{rebased}
use Rattle.data_block.proofs.gather.append.Given as goal

abbrev pub invariant-loop-e : goal.invariant-loop-e
invariant-loop-e l = record {
  pushed : l.entries.items ≡ l.fn.entries.items ++ map (rebased l.base l.from) (take l.e-index l.x.entries.items);
  source : l.e-items ≡ l.x.entries.items;
  keys : l.keys.items ≡ l.fn.keys.items ++ l.x.keys.items;
  base : l.base ≡ length l.fn.keys.items;
}
