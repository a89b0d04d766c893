use Rattle.std.proofs.Common.{◌≡◌, take}
use Rattle.manifest_edit.specs.LiveTables.{without_tables}
use Rattle.manifest_edit.proofs.live_tables.LiveTables.remove_all.Given as goal

abbrev pub invariant-loop-number : goal.invariant-loop-number
invariant-loop-number l = l.self ≡ without_tables (take l.number-index l.numbers) l.initial.self
