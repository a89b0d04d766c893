use Rattle.std.proofs.Common.{◌≡◌, map, take}
use Rattle.std.specs.Prelude.{option_map}
use Rattle.std.specs.Arc.{arc_value}
use Rattle.std.specs.List.{flat_map}
use Rattle.ts_key.specs.Visible.{newest_ts}
use Rattle.memtable.specs.Memtables.{greater}
use Rattle.super_version.specs.Contents.{items_of_table}
use Rattle.super_version.proofs.newest.later_in_level.Given as goal

abbrev pub invariant-loop-table : goal.invariant-loop-table
invariant-loop-table l = option_map (λ ts. ts.0) l.later ≡ greater (option_map (λ ts. ts.0) l.fn.best) (newest_ts (flat_map items_of_table (map arc_value (take l.table-index l.tables))) l.key)
