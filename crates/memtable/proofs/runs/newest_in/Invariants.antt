use Rattle.std.proofs.Common.{◌≡◌, map, take}
use Rattle.std.specs.Prelude.{option_map}
use Rattle.std.specs.Arc.{arc_value}
use Rattle.ts_key.specs.Items.{items_of}
use Rattle.ts_key.specs.Visible.{newest_ts}
use Rattle.memtable.specs.Memtables.{joined}
use Rattle.memtable.proofs.runs.newest_in.Given as goal

abbrev pub invariant-loop-run : goal.invariant-loop-run
invariant-loop-run l = option_map (λ ts. ts.0) l.best ≡ newest_ts (items_of (joined (map arc_value (take l.run-index l.runs)))) l.key
