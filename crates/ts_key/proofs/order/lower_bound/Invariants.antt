use Rattle.std.proofs.Common.{◌≡◌, ℕ, ◌<◌, ◌≤◌, ◌-◌, length, get_or, true, false}
use Rattle.ts_key.specs.Order.{sort_key_of, is_before}
use Rattle.ts_key.specs.Items.{item_of}
use Rattle.ts_key.proofs.order.lower_bound.Given as goal

abbrev pub invariant-loop-low : goal.invariant-loop-low
invariant-loop-low l = record {
  order : l.low ≤ l.high;
  inside : l.high ≤ length l.versions;
  before : (k : ℕ) (d : _) → k < l.low → is_before (item_of (get_or l.versions k d)).sort_key (sort_key_of l.to) ≡ true;
  from : (k : ℕ) (d : _) → l.high ≤ k → k < length l.versions → is_before (item_of (get_or l.versions k d)).sort_key (sort_key_of l.to) ≡ false;
}

abbrev pub decreases-loop-low : goal.decreases-loop-low
decreases-loop-low l = l.high - l.low
