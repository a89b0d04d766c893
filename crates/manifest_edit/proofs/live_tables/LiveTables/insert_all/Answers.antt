use Rattle.manifest_edit.proofs.Lists.{placed_on}
use Rattle.manifest_edit.proofs.live_tables.LiveTables.insert_all.Goals as goal

pub loop-table-preserved : goal.loop-table-preserved
loop-table-preserved c =
    placed_on c.args.tables.now c.args.self.now c.loop-table.self c.insert.new.self c.loop-table.table-index (record { level = 0; number = 0 }) c.loop-table-test.true c.loop-table.invariant c.in_ok-insert.ensures.placed
