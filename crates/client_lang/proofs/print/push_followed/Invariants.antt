use Rattle.std.proofs.Common.{◌∷◌, take}
use Rattle.std.specs.List.{flat_map}
use Rattle.client_lang.specs.Words.{word_text}
use Rattle.client_lang.proofs.Pushing.{Pushed}
use Rattle.client_lang.proofs.print.push_followed.Given as goal

abbrev pub invariant-loop-word : goal.invariant-loop-word
invariant-loop-word l = Pushed l.initial.out l.out (flat_map (λ w. 32 ∷ word_text w) (take l.word-index l.rest))
