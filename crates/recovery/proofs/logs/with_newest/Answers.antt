use Rattle.std.proofs.Common.{List, ◌++◌, ap, ◌∙◌}
use Rattle.manifest_fold.specs.declared.fold.FamilyFold.{FamilyFold}
use Rattle.engine_laws.specs.Logs.{versions_of}
use Rattle.recovery.specs.Replayed.{above_through}
use Rattle.recovery.proofs.Judging.{in_line, judged_refused}
use Rattle.recovery.proofs.logs.with_newest.Goals as goal

pub returns-in-Ok-clause-line : goal.returns-in-Ok-clause-line
returns-in-Ok-clause-line c = λ folder oldest all.
    let fold = c.args.fold.now in
    let batches = c.args.batches.now in
    let old = c.args.gathered in
    let new = c.add.new.self in
    let e = c.in_ok-add.ensures in
    let versions = e.versions ∙ ap (λ (fs : List FamilyFold). old.versions.items ++ above_through fs (versions_of batches)) c.as_slice.ensures in
    in_line fold folder oldest c.args.newest batches old new all versions e.next e.gap c.in-Ok.ensures.whole c.in-Ok.ensures.behind

pub returns-in-Err-clause-refused : goal.returns-in-Err-clause-refused
returns-in-Err-clause-refused c = λ folder oldest all.
    let fold = c.args.fold.now in
    let batches = c.args.batches.now in
    let old = c.args.gathered in
    let new = c.add.new.self in
    let e = c.in_ok-add.ensures in
    let versions = e.versions ∙ ap (λ (fs : List FamilyFold). old.versions.items ++ above_through fs (versions_of batches)) c.as_slice.ensures in
    judged_refused fold folder oldest c.args.newest batches old new all versions e.next e.gap c.in-Err.fault c.in-Err.ensures.refused
