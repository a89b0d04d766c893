use Rattle.std.proofs.Common.{◌≡◌, ◌∷◌, Some, ◌∙◌, ap, sym, subst, rules}
use Rattle.std.specs.List.{slice_get}
use Rattle.gate_log.specs.Placed.{Placed}
use Rattle.head_manifest.specs.Folds.{IsOutside}
use Rattle.head_manifest.proofs.FoldLemmas.{bad_head, behind_head}
use Rattle.head_manifest.proofs.fold.fold_frames.Goals as goal

pub returns-in_default-2 : goal.returns-in_default-2
returns-in_default-2 c =
    let frames = c.args.frames.now in
    let first = c.in-Some.first.now in
    let split : frames ≡ first ∷ c.in-Some.later.now = search rules in
    let none = rw c.in_default-2.is at c.in_ok-families.ensures in
    subst (IsOutside frames) (sym (ap (λ (p : Placed). p.at) c.first.view_is))
    (bad_head frames first c.in-Some.later.now c.deref.result.now split (c.deref.ensures.value ∙ ap (λ (p : Placed). p.bytes) c.first.view_is) none)

pub returns-in-Some-first : goal.returns-in-Some-first
returns-in-Some-first c =
    let frames = c.args.frames.now in
    let first = c.in-Some.first.now in
    let next = c.in-Some-first.edit.now in
    let split : frames ≡ first ∷ c.in-Some.later.now = search rules in
    let found : slice_get c.in-Some.later.now 0 ≡ Some next = search rules in
    let head = rw c.in-Some-2.is at c.in_ok-families.ensures in
    subst (IsOutside frames) (sym (ap (λ (p : Placed). p.at) c.edit.view_is))
    (behind_head frames first c.in-Some.later.now c.deref.result.now c.in-Some-2.families.items next split (c.deref.ensures.value ∙ ap (λ (p : Placed). p.bytes) c.first.view_is) head found)
