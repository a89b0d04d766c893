use Rattle.std.proofs.Common.{List, ℕ, subst, arith}
use Rattle.udt_model.specs.declared.line.FamilyHead.{FamilyHead}
use Rattle.client_runner.specs.Commands.{IsFamilyWord}
use Rattle.client_runner.proofs.WordLemmas.{none_spelled}
use Rattle.client_runner.proofs.words.families_of.Goals as goal

pub returns-in_default : goal.returns-in_default
returns-in_default c families p =
    let none = rw c.in_default.is at c.in_ok-family.ensures in
    none_spelled c.args.words.now c.loop-word.word-index c.word-item.result (omega arith)
    (subst (λ (w : List ℕ). (f : FamilyHead) → IsFamilyWord w f → ⊥) c.word-item.is none) families p
