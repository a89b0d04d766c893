use Rattle.std.proofs.Common.{◌≡◌, ◌++◌, length}
use Rattle.std.specs.Prelude.{All}
use Rattle.std.specs.List.{flat_map}
use Rattle.ts_key.specs.Numbers.{number_bytes}
use Rattle.manifest_edit.specs.Edits.{IsWord}
use Rattle.manifest_edit.proofs.read.take_numbers.Given as goal

abbrev pub invariant-loop : goal.invariant-loop
invariant-loop l =
    (length l.numbers.items ≡ l.counter) × All IsWord l.numbers.items × (l.initial.reader.left.now ≡ flat_map (number_bytes 8) l.numbers.items ++ l.reader.left.now)
