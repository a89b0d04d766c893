use Rattle.ts_key.specs.Numbers.{number_bytes}
use Rattle.manifest_edit.specs.Edits.{IsWord}
use Rattle.manifest_edit.proofs.Writing.{AreWritten}
use Rattle.manifest_edit.proofs.write.put_numbers.Given as goal

abbrev pub invariant-loop-number : goal.invariant-loop-number
invariant-loop-number l = AreWritten (number_bytes 8) IsWord l.initial.out.items l.out.items l.numbers l.number-index
