use Rattle.wal.proofs.Showing.{ready_from}
use Rattle.store_rows.proofs.tests.wal_rows.the_example_is_written_and_read.Goals as goal

pub sync-requires-after_bounds : goal.sync-requires-after_bounds
sync-requires-after_bounds g c lifetimes = ready_from _ c.add_put.new.wal 2 c.in-Ok-add_put.ensures.goes_on
