use Rattle.std.proofs.Common.{◌≡◌, ◌++◌, take}
use Rattle.std.specs.Prelude.{All}
use Rattle.std.specs.List.{flat_map}
use Rattle.wal.specs.Records.{op_bytes}
use Rattle.wal.specs.Writing.{IsShortOp}
use Rattle.wal.proofs.record.put_ops.Given as goal

abbrev pub invariant-loop-op : goal.invariant-loop-op
invariant-loop-op l =
    (l.out.items ≡ l.initial.out.items ++ flat_map op_bytes (take l.op-index l.ops)) × All IsShortOp (take l.op-index l.ops)
