use Rattle.std.proofs.Common.{◌≡◌, length}
use Rattle.udt_model.specs.State.{with_tables}
use Rattle.floor_core.proofs.flushing.join_all.Given as goal

abbrev pub invariant-loop-table : goal.invariant-loop-table
invariant-loop-table l = with_tables l.rest.items l.tables.items ≡ with_tables l.fn.new.items l.fn.tables.items

abbrev pub decreases-loop-table : goal.decreases-loop-table
decreases-loop-table l = length l.rest.items
