use Rattle.std.proofs.Common.{◌≡◌, ◌++◌, take}
use Rattle.floor_laws.specs.Tables.{contents}
use Rattle.floor_core.proofs.lists.append_contents.Given as goal

abbrev pub invariant-loop-table : goal.invariant-loop-table
invariant-loop-table l = l.list.items ≡ l.initial.list.items ++ contents (take l.table-index l.tables)
