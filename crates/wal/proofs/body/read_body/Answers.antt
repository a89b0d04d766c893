use Rattle.std.proofs.Common.{◌≡◌, ◌<◌, length, arith, ap}
use Rattle.std.proofs.lemmas.Grind.{common_steps}
use Rattle.wal.proofs.BodyReading.{no_records, body_read}
use Rattle.wal.proofs.body.read_body.Goals as goal

pub returns-then-is_empty-clause-read : goal.returns-then-is_empty-clause-read
returns-then-is_empty-clause-read c =
    let none : length c.in_ok-records.records.now ≡ 0 = grind (arith, common_steps) in
    no_records c.args.sizes.now c.args.is_first c.args.body.now c.in_ok-records.records.now c.in_ok-records.ensures none

pub returns-clause-read : goal.returns-clause-read
returns-clause-read c =
    let some : 0 < length c.in_ok-records.records.now = grind (arith, common_steps) in
    body_read c.args.sizes.now c.args.is_first c.args.body.now c.in_ok-records.records.now (length c.sizes-families.result.now) c.read_batches.result c.in_ok-records.ensures (ap length c.sizes-families.ensures.sizes) some c.read_batches.ensures
