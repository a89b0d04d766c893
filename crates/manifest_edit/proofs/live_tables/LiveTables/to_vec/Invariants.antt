use Rattle.std.proofs.Common.{◌≡◌, ◌++◌}
use Rattle.manifest_edit.specs.LiveTables.{entry_tables}
use Rattle.manifest_edit.proofs.live_tables.LiveTables.to_vec.Given as goal

abbrev pub invariant-loop-number : goal.invariant-loop-number
invariant-loop-number l = l.tables.items ++ entry_tables l.number-iterator ≡ l.self
