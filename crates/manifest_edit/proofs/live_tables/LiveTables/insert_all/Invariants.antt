use Rattle.std.proofs.Common.{◌≡◌, take}
use Rattle.manifest_edit.specs.LiveTables.{place_tables}
use Rattle.manifest_edit.proofs.live_tables.LiveTables.insert_all.Given as goal

abbrev pub invariant-loop-table : goal.invariant-loop-table
invariant-loop-table l = l.self ≡ place_tables (take l.table-index l.tables) l.initial.self
