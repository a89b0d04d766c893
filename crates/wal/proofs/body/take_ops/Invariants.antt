use Rattle.std.proofs.Common.{◌≡◌, ◌++◌, length}
use Rattle.std.specs.Prelude.{All}
use Rattle.std.specs.List.{flat_map}
use Rattle.wal.specs.Records.{op_bytes, IsLoggedOp}
use Rattle.wal.proofs.body.take_ops.Given as goal

abbrev pub invariant-loop : goal.invariant-loop
invariant-loop l =
    (length l.ops.items ≡ l.counter) × All (IsLoggedOp l.families) l.ops.items × (l.initial.reader.left.now ≡ flat_map op_bytes l.ops.items ++ l.reader.left.now)
