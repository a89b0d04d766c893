use Rattle.std.proofs.Common.{◌≡◌, ◌++◌, take}
use Rattle.wal.specs.Records.{families_bytes}
use Rattle.wal.proofs.record.put_families.Given as goal

abbrev pub invariant-loop-family : goal.invariant-loop-family
invariant-loop-family l =
    l.out.items ≡ l.initial.out.items ++ families_bytes 0 (take l.family l.sizes)
