use Rattle.std.proofs.Common.{◌+◌, length, arith}
use Rattle.wal.proofs.Showing.{goes_on_at}
use Rattle.store_rows.proofs.tests.wal_rows.add_put.Goals as goal

pub returns-in-Ok-clause-goes_on : goal.returns-in-Ok-clause-goes_on
returns-in-Ok-clause-goes_on c =
    goes_on_at _ c.append.new.self (c.args.first + length c.in_ok-batch.batch) (c.args.first + 1) (omega (arith, c.in_ok-batch.ensures.one)) c.in-Ok.ensures.goes_on
