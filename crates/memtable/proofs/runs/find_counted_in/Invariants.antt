use Rattle.std.proofs.Common.{◌≡◌, ◌+◌, ◌≤◌, map, take}
use Rattle.std.specs.Prelude.{option_map, IfSome, Contains}
use Rattle.std.specs.Arc.{arc_value}
use Rattle.std.specs.Option.{option_copied}
use Rattle.ts_key.specs.Items.{item_of, items_of}
use Rattle.ts_key.specs.Visible.{visible_item}
use Rattle.memtable.specs.Memtables.{joined}
use Rattle.memtable.proofs.runs.find_counted_in.Given as goal

abbrev pub invariant-loop-run : goal.invariant-loop-run
invariant-loop-run g l = record {
  visible : option_map item_of (option_copied l.best) ≡ visible_item (items_of (joined (map arc_value (take l.run-index l.runs)))) l.key l.t.0 l.s.0;
  among : IfSome l.best (λ v. Contains (joined (map arc_value (take l.run-index l.runs))) v.now);
  rises : l.initial.steps ≤ l.steps;
  steps : l.steps ≤ l.initial.steps + l.run-index;
}
