use Rattle.std.specs.Prelude.{All}
use Rattle.compaction_rows.specs.Inputs.{IsOfFirst}
use Rattle.compaction_rows.proofs.tests.runs.tables_of.Given as goal

abbrev pub invariant-loop-index : goal.invariant-loop-index
invariant-loop-index l = All IsOfFirst l.all.items
