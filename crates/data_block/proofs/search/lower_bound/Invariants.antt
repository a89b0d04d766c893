use Rattle.std.proofs.Common.{◌≡◌, ℕ, ◌-◌, ◌<◌, ◌≤◌, length, get_or, true, false}
use Rattle.ts_key.specs.Order.{is_before, sort_key_of}
use Rattle.data_block.specs.declared.index.Entry.{Entry}
use Rattle.data_block.specs.Index.{sort_key_at}
use Rattle.data_block.proofs.search.lower_bound.Given as goal

abbrev pub invariant-loop-low : goal.invariant-loop-low
invariant-loop-low l = record {
  order : l.low ≤ l.high;
  within : l.high ≤ length l.entries;
  before : (k : ℕ) (d : Entry) → k < l.low → is_before (sort_key_at l.keys (get_or l.entries k d)) (sort_key_of l.to) ≡ true;
  from : (k : ℕ) (d : Entry) → l.high ≤ k → k < length l.entries → is_before (sort_key_at l.keys (get_or l.entries k d)) (sort_key_of l.to) ≡ false;
}

abbrev pub decreases-loop-low : goal.decreases-loop-low
decreases-loop-low l = l.high - l.low
