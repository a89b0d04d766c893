use Rattle.std.proofs.Common.{Bool, List, map, subst, sym, ap, ◌∙◌}
use Rattle.udt_disk.specs.Causes.{IsCause}
use Rattle.gate_log.specs.Reads.{body_of}
use Rattle.gate_log.specs.Placed.{Placed}
use Rattle.head_manifest.specs.Answers.{IsFoldFault}
use Rattle.head_manifest.proofs.FoldLemmas.{bad_in_log, not_by_disk_too, manifest_usable}
use Rattle.head_manifest.proofs.manifest.read_log.Goals as goal

pub returns-in-Ok-clause-refused : goal.returns-in-Ok-clause-refused
returns-in-Ok-clause-refused g c told =
    let fault = c.in-Err-fold_log.fault in
    bad_in_log c.in-Ok.frames.items fault (g.F.DiskFile.seen c.args.file) (c.in-Ok.ensures.read told) (subst (λ (l : List Placed). IsFoldFault l fault) c.deref.ensures.value c.in-Err-fold_log.ensures.refused)

pub returns-clause-cause : goal.returns-clause-cause
returns-clause-cause g c =
    subst (λ (b : Bool). IsCause b (g.F.DiskFile.faults c.args.file) (g.F.DiskFile.faults c.in-Err.file)) (sym c.refusal.ensures.cause) c.in-Err.ensures.cause

pub returns-in-Ok-clause-cause : goal.returns-in-Ok-clause-cause
returns-in-Ok-clause-cause g c =
    subst (λ (b : Bool). IsCause b (g.F.DiskFile.faults c.args.file) (g.F.DiskFile.faults c.into_file.result)) (sym (not_by_disk_too c.deref.result.now c.in-Err-fold_log.fault c.in-Err-fold_log.ensures.refused)) (ap g.F.DiskFile.faults c.into_file.ensures ∙ c.in-Ok.ensures.kept)

pub returns-in-Ok-fold_log-clause-usable : goal.returns-in-Ok-fold_log-clause-usable
returns-in-Ok-fold_log-clause-usable g c = manifest_usable (map body_of c.deref.result.now) c.in-Ok-fold_log.fold c.in-Ok-fold_log.ensures.folds
