use Rattle.manifest_edit.specs.Edits.{table_text, IsTableWords}
use Rattle.manifest_edit.proofs.Writing.{AreWritten}
use Rattle.manifest_edit.proofs.write.put_tables.Given as goal

abbrev pub invariant-loop-table : goal.invariant-loop-table
invariant-loop-table l = AreWritten table_text IsTableWords l.initial.out.items l.out.items l.tables l.table-index
