use Rattle.std.proofs.Common.{List, Ok, Err, subst, sym, ap, ◌∙◌}
use Rattle.gate_log.specs.Faults.{is_frames_disk_fault}
use Rattle.gate_log.specs.Placed.{Placed}
use Rattle.head_manifest.specs.Answers.{Folds}
use Rattle.head_manifest.proofs.FoldLemmas.{torn_there, outside_before, not_by_disk}
use Rattle.head_manifest.proofs.manifest.refusal.Goals as goal

pub returns-in-Ok-clause-refusal : goal.returns-in-Ok-clause-refusal
returns-in-Ok-clause-refusal c bytes bad =
    let b = c.in-BadFrame in
    torn_there c.args.fault b.at b.before c.in-Ok.field-0 bytes b.is (subst (λ (l : List Placed). Folds l (Ok c.in-Ok.field-0)) c.deref.ensures.value c.in-Ok.ensures) bad

pub returns-in-BadFrame-clause-refusal : goal.returns-in-BadFrame-clause-refusal
returns-in-BadFrame-clause-refusal c bytes bad =
    let b = c.in-BadFrame in
    outside_before c.args.fault b.at b.before c.in-Err.fault bytes b.is (subst (λ (l : List Placed). Folds l (Err c.in-Err.fault)) c.deref.ensures.value c.in-Err.ensures) bad

pub returns-in-Ok-clause-cause : goal.returns-in-Ok-clause-cause
returns-in-Ok-clause-cause c = sym (ap is_frames_disk_fault c.in-BadFrame.is)

pub returns-in-BadFrame-clause-cause : goal.returns-in-BadFrame-clause-cause
returns-in-BadFrame-clause-cause c = not_by_disk c.deref.result.now c.in-Err.fault c.in-Err.ensures ∙ sym (ap is_frames_disk_fault c.in-BadFrame.is)
