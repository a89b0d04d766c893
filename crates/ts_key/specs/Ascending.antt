-- Sequences, as registered snapshots have them.
use Rattle.std.specs.Prelude.{List}
use Rattle.std.specs.List.Sorted.{IsNonDecreasingBy}
use Rattle.ts_key.specs.declared.numbers.Seq.{Seq}

-- each sequence is at most the next
abbrev pub AreAscending : List Seq → Type 0
AreAscending seqs = IsNonDecreasingBy (λ s. s.0) seqs
