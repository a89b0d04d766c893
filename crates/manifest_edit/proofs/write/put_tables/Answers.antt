use Rattle.manifest_edit.specs.Edits.{table_text, IsTableWords}
use Rattle.manifest_edit.proofs.Writing.{written_on}
use Rattle.manifest_edit.proofs.write.put_tables.Goals as goal

pub loop-table-preserved : goal.loop-table-preserved
loop-table-preserved c =
    written_on table_text IsTableWords c.put_count.new.out.items c.loop-table.out.items c.put_table.new.out.items c.args.tables.now c.loop-table.table-index (record { level = 0; number = 0 }) c.loop-table-test.true c.loop-table.invariant c.in_ok-put_table.ensures.written c.in_ok-put_table.ensures.sized
