use Rattle.std.proofs.Common.{◌≡◌, ◌++◌, map, take}
use Rattle.std.specs.Prelude.{All}
use Rattle.solo_store.specs.Flushable.{MayBeFlushed, sequence_of}
use Rattle.solo_store.proofs.flushable.add_sequences.Given as goal

abbrev pub invariant-loop-version : goal.invariant-loop-version
invariant-loop-version l = record {
  spelled : All MayBeFlushed (take l.version-index l.versions);
  numbers : l.numbers.items ≡ l.initial.numbers.items ++ map sequence_of (take l.version-index l.versions);
}
