use Rattle.std.proofs.Common.{take}
use Rattle.client_runner.specs.Commands.{AreFamilyWords}
use Rattle.client_runner.proofs.words.families_of.Given as goal

abbrev pub invariant-loop-word : goal.invariant-loop-word
invariant-loop-word l = AreFamilyWords (take l.word-index l.words) l.families.items
