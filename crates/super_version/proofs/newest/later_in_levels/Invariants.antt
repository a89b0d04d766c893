use Rattle.std.proofs.Common.{◌≡◌, map, take}
use Rattle.std.specs.Prelude.{option_map}
use Rattle.std.specs.Arc.{arc_value}
use Rattle.std.specs.List.{flat_map}
use Rattle.ts_key.specs.Visible.{newest_ts}
use Rattle.memtable.specs.Memtables.{greater}
use Rattle.super_version.specs.Contents.{items_of_level}
use Rattle.super_version.proofs.newest.later_in_levels.Given as goal

abbrev pub invariant-loop-tables : goal.invariant-loop-tables
invariant-loop-tables l = option_map (λ ts. ts.0) l.later ≡ greater (option_map (λ ts. ts.0) l.fn.best) (newest_ts (flat_map items_of_level (map arc_value (take l.tables-index l.levels))) l.key)
