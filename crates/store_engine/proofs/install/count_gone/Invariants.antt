use Rattle.std.proofs.Common.{◌≡◌, ◌⊎◌, ℕ, ◌-◌, ◌<◌, true, Some, length, map}
use Rattle.std.specs.Prelude.{slice_get}
use Rattle.std.specs.Arc.{arc_value}
use Rattle.store_engine.specs.Dropping.{lets_go}
use Rattle.store_engine.specs.Older.{last_in}
use Rattle.store_engine.proofs.install.count_gone.Given as goal

abbrev pub invariant-loop-count : goal.invariant-loop-count
invariant-loop-count l = record {
  one : (l.count ≡ 0) ⊎ (l.count < length l.logs);
  gone : (i n : ℕ) → i < l.count → slice_get l.logs i ≡ Some n → lets_go (last_in l.older n) (map arc_value l.families) ≡ true;
}

abbrev pub decreases-loop-count : goal.decreases-loop-count
decreases-loop-count l = length l.logs - l.count
