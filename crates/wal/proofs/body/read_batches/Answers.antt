use Rattle.std.proofs.Common.{◌≡◌, ◌<◌, ◌++◌, ◌∷◌, [], length, refl, arith}
use Rattle.std.proofs.lemmas.Grind.{common_steps}
use Rattle.wal.specs.Records.{batch_bytes, IsLoggedBatch}
use Rattle.wal.proofs.Fronts.{none_there, list_more}
use Rattle.wal.proofs.BodyReading.{batches_fault, batches_stop}
use Rattle.wal.proofs.body.read_batches.Goals as goal

pub returns-in_err-batch : goal.returns-in_err-batch
returns-in_err-batch c =
    let some : 0 < length c.loop-reader.reader.left.now = grind (arith, common_steps) in
    batches_fault c.args.families c.args.bytes.now c.from_residual.result c.in_err-batch.field-0.0 c.from_residual.ensures.1
    (λ is. batches_stop c.args.families c.loop-reader.batches.items c.args.bytes.now c.loop-reader.reader.left.now c.requires c.loop-reader.invariant some (none_there batch_bytes (IsLoggedBatch c.args.families) _ _ c.in_err-batch.ensures is))

pub loop-reader-preserved : goal.loop-reader-preserved
loop-reader-preserved c =
    let added : c.push.new.self.items ≡ c.loop-reader.batches.items ++ c.in_ok-batch.batch ∷ [] = grind (arith, common_steps) in
    let more = list_more batch_bytes (IsLoggedBatch c.args.families) c.loop-reader.batches.items c.in_ok-batch.batch c.push.new.self.items c.args.bytes.now c.loop-reader.reader.left.now c.take_batch.new.reader.left.now (length c.loop-reader.batches.items) added (refl, c.loop-reader.invariant.0, c.loop-reader.invariant.1) c.in_ok-batch.ensures in
    (more.1, more.2)
