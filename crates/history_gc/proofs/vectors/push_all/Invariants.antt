use Rattle.std.proofs.Common.{◌≡◌, ◌+◌, ◌≤◌, List, [], ◌++◌, length}
use Rattle.ts_key.specs.declared.version.Version.{Version}
use Rattle.history_gc.specs.Pushed.{AreInOrder}
use Rattle.history_gc.specs.Collecting.{CollectsAlike, HasCollected, held_of, room_of}
use Rattle.history_gc.proofs.vectors.push_all.Given as goal

abbrev pub invariant-loop-version : goal.invariant-loop-version
invariant-loop-version l = record {
  pushed : (front : List Version) × (front ++ l.rest.rest.items ≡ l.fn.versions.items) × (HasCollected l.fn.collector [] [] → AreInOrder l.fn.versions.items → HasCollected l.collector front []);
  room : held_of l.collector + length l.rest.rest.items ≤ room_of l.collector;
  held : held_of l.collector + length l.rest.rest.items ≤ held_of l.fn.collector + length l.fn.versions.items;
  alike : CollectsAlike l.fn.collector l.collector;
}

abbrev pub decreases-loop-version : goal.decreases-loop-version
decreases-loop-version l = length l.rest.rest.items
