use Rattle.std.proofs.Common.{◌≡◌, ℕ, ◌*◌, ◌-◌, ◌<◌, ◌≤◌, List, ◌++◌, length, map, take}
use Rattle.std.specs.Prelude.{slice_get, Some}
use Rattle.std.specs.Arc.{arc_value}
use Rattle.ts_key.specs.declared.version.Version.{Version}
use Rattle.sorted_run.specs.Sorts.{sorted}
use Rattle.memtable.specs.Memtables.{AreDoubled, joined, with_batch}
use Rattle.memtable.proofs.runs.absorbed.Given as goal

abbrev pub invariant-loop-next : goal.invariant-loop-next
invariant-loop-next l = record {
  within : l.next ≤ length l.runs;
  is : l.run ≡ sorted (l.versions ++ joined (map arc_value (take l.next l.runs)));
  least : (k : ℕ) → k < l.next → AreDoubled (with_batch l.versions (map arc_value l.runs) k) → ⊥;
  keeps : (first : List Version) → slice_get (map arc_value l.runs) 0 ≡ Some first → 2 * length l.versions ≤ length first → l.next ≡ 0;
}

abbrev pub decreases-loop-next : goal.decreases-loop-next
decreases-loop-next l = length l.initial.runs - l.next
