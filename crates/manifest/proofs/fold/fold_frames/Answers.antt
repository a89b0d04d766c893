use Rattle.std.proofs.Common.{◌≡◌, ◌∷◌, ◌∙◌, ap, map, sym, subst, rules}
use Rattle.gate_log.specs.Placed.{Placed}
use Rattle.gate_log.specs.Reads.{body_of}
use Rattle.manifest_fold.specs.Bodies.{LeadAll}
use Rattle.manifest_fold.specs.declared.fold.Folded.{Folded}
use Rattle.edit_log.specs.Replays.{IsRefusedAt}
use Rattle.manifest.specs.Folds.{IsOutside, fold_of}
use Rattle.manifest.specs.Heads.{IsHead}
use Rattle.manifest.proofs.FoldLemmas.{bad_head, edits_outside, edits_mean}
use Rattle.manifest.proofs.fold.fold_frames.Goals as goal

pub returns-in_default-2 : goal.returns-in_default-2
returns-in_default-2 c =
    let frames = c.args.frames.now in
    let first = c.in-Some.first.now in
    let split : frames ≡ first ∷ c.in-Some.later.now = search rules in
    let none = rw c.in_default-2.is at c.in_ok-families.ensures in
    subst (IsOutside frames) (sym (ap (λ (p : Placed). p.at) c.first.view_is))
    (bad_head frames first c.in-Some.later.now c.deref.result.now split (c.deref.ensures.value ∙ ap (λ (p : Placed). p.bytes) c.first.view_is) none)

pub returns-in-Ok : goal.returns-in-Ok
returns-in-Ok c =
    let frames = c.args.frames.now in
    let first = c.in-Some.first.now in
    let later = c.in-Some.later.now in
    let split : frames ≡ first ∷ later = search rules in
    let body = c.deref.result.now in
    let families = c.in-Some-2.families.items in
    let head : IsHead body families = rw c.in-Some-2.is at c.in_ok-families.ensures in
    let start = c.in_ok-start.ensures ∙ ap fold_of c.deref-2.ensures.value in
    edits_mean frames first later body families c.in-Ok.fold split (c.deref.ensures.value ∙ ap (λ (p : Placed). p.bytes) c.first.view_is) head
    (subst (λ (f : Folded). LeadAll f (map body_of later) c.in-Ok.fold) start c.in-Ok.ensures)

pub returns-in-Err-BadEdit : goal.returns-in-Err-BadEdit
returns-in-Err-BadEdit c =
    let frames = c.args.frames.now in
    let first = c.in-Some.first.now in
    let later = c.in-Some.later.now in
    let split : frames ≡ first ∷ later = search rules in
    let body = c.deref.result.now in
    let families = c.in-Some-2.families.items in
    let head : IsHead body families = rw c.in-Some-2.is at c.in_ok-families.ensures in
    let start = c.in_ok-start.ensures ∙ ap fold_of c.deref-2.ensures.value in
    edits_outside frames first later body families c.in-Err-BadEdit.at split (c.deref.ensures.value ∙ ap (λ (p : Placed). p.bytes) c.first.view_is) head
    (subst (λ (f : Folded). IsRefusedAt f later c.in-Err-BadEdit.at) start (rw c.in-Err-BadEdit.field-0-is at c.in-Err-BadEdit.ensures))
