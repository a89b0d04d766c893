use Rattle.std.proofs.Common.{◌≡◌, ◌++◌, length}
use Rattle.std.specs.Prelude.{All}
use Rattle.std.specs.List.{flat_map}
use Rattle.wal.specs.Records.{batch_bytes, IsLoggedBatch}
use Rattle.wal.proofs.body.read_batches.Given as goal

abbrev pub invariant-loop-reader : goal.invariant-loop-reader
invariant-loop-reader l =
    All (IsLoggedBatch l.families) l.batches.items × (l.bytes ≡ flat_map batch_bytes l.batches.items ++ l.reader.left.now)

abbrev pub decreases-loop-reader : goal.decreases-loop-reader
decreases-loop-reader l = length l.reader.left.now
