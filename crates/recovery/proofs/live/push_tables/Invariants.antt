use Rattle.std.proofs.Common.{◌≡◌, ◌++◌, map, take}
use Rattle.recovery.specs.Places.{place_in}
use Rattle.recovery.proofs.live.push_tables.Given as goal

abbrev pub invariant-loop-table : goal.invariant-loop-table
invariant-loop-table l = l.places.items ≡ l.initial.places.items ++ map (place_in l.family) (take l.table-index l.tables)
