use Rattle.wal.proofs.Showing.{ready_from}
use Rattle.store_rows.proofs.tests.wal_rows.sync_twice.Goals as goal

pub add_put-requires-2-clause-next : goal.add_put-requires-2-clause-next
add_put-requires-2-clause-next c = c.in_ok-sync.ensures.goes_on 2 c.in_ok-add_put.ensures.goes_on

pub sync-requires-2-after_bounds : goal.sync-requires-2-after_bounds
sync-requires-2-after_bounds c lifetimes = ready_from _ c.add_put-3.new.wal 4 c.in_ok-add_put-3.ensures.goes_on
