use Rattle.std.proofs.Common.{◌≡◌, ◌++◌, length}
use Rattle.std.specs.Prelude.{All}
use Rattle.std.specs.List.{flat_map}
use Rattle.manifest_edit.specs.Edits.{table_text, IsTableWords}
use Rattle.manifest_edit.proofs.read.take_tables.Given as goal

abbrev pub invariant-loop : goal.invariant-loop
invariant-loop l =
    (length l.tables.items ≡ l.counter) × All IsTableWords l.tables.items × (l.initial.reader.left.now ≡ flat_map table_text l.tables.items ++ l.reader.left.now)
