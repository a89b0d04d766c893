use Rattle.std.proofs.Common.{Bool, List, map, subst, sym, ap, ◌∙◌}
use Rattle.udt_disk.specs.Causes.{IsCause}
use Rattle.gate_log.specs.Reads.{body_of}
use Rattle.gate_log.specs.Placed.{Placed}
use Rattle.manifest.specs.Answers.{IsFoldFault}
use Rattle.manifest.specs.Folds.{IsManifest, IsManifestFold}
use Rattle.manifest.proofs.FoldLemmas.{bad_in_log, not_by_disk_too}
use Rattle.manifest.proofs.manifest.read_log.Goals as goal

pub returns-in-Ok-clause-refused : goal.returns-in-Ok-clause-refused
returns-in-Ok-clause-refused g c told =
    let fault = c.in-Err-fold_log.fault in
    bad_in_log c.in-Ok.frames.items fault (g.F.DiskFile.seen c.args.file) (c.in-Ok.ensures.read told) (subst (λ (l : List Placed). IsFoldFault l fault) c.deref.ensures.value c.in-Err-fold_log.ensures.refused)

pub returns-clause-cause : goal.returns-clause-cause
returns-clause-cause g c =
    subst (λ (b : Bool). IsCause b (g.F.DiskFile.faults c.args.file) (g.F.DiskFile.faults c.in-Err.file)) (sym c.refusal.ensures.cause) c.in-Err.ensures.cause

pub returns-in-Ok-clause-cause : goal.returns-in-Ok-clause-cause
returns-in-Ok-clause-cause g c =
    subst (λ (b : Bool). IsCause b (g.F.DiskFile.faults c.args.file) (g.F.DiskFile.faults c.into_file.result)) (sym (not_by_disk_too c.deref.result.now c.in-Err-fold_log.fault c.in-Err-fold_log.ensures.refused)) (ap g.F.DiskFile.faults c.into_file.ensures ∙ c.in-Ok.ensures.kept)

pub returns-in-Ok-fold_log-clause-shows : goal.returns-in-Ok-fold_log-clause-shows
returns-in-Ok-fold_log-clause-shows g c told =
    let fold = c.in-Ok-fold_log.fold in
    let means = subst (λ (l : List Placed). IsManifest (map body_of l) fold) c.deref.ensures.value c.in-Ok-fold_log.ensures.folds in
    c.manifest_of.ensures.shows (map body_of c.in-Ok.frames.items) (c.in-Ok.ensures.logged told) means

pub returns-in-Ok-fold_log-clause-rests : goal.returns-in-Ok-fold_log-clause-rests
returns-in-Ok-fold_log-clause-rests g c told only =
    let fold = c.in-Ok-fold_log.fold in
    let means = subst (λ (l : List Placed). IsManifest (map body_of l) fold) c.deref.ensures.value c.in-Ok-fold_log.ensures.folds in
    c.manifest_of.ensures.rests (map body_of c.in-Ok.frames.items) (c.in-Ok.ensures.at_rest told only) means

pub returns-in-Ok-fold_log-clause-folds : goal.returns-in-Ok-fold_log-clause-folds
returns-in-Ok-fold_log-clause-folds g c =
    let fold = c.in-Ok-fold_log.fold in
    let means = subst (λ (l : List Placed). IsManifest (map body_of l) fold) c.deref.ensures.value c.in-Ok-fold_log.ensures.folds in
    subst IsManifestFold (sym c.manifest_of.ensures.fold) (map body_of c.in-Ok.frames.items, means)
