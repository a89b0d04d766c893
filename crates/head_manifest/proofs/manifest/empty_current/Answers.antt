use Rattle.std.proofs.Common.{◌≡◌, [], sym, ap, ◌∙◌, subst}
use Rattle.std.specs.Prelude.{is_some, false, IsTrue}
use Rattle.std.proofs.lemmas.Result.{on_ok_weaker}
use Rattle.udt_disk.specs.declared.name.FileName.TheVariants.{Current}
use Rattle.udt_disk.proofs.Moments.{stands_all, leaves_all}
use Rattle.udt_disk.proofs.TouchLemmas.{touches_then}
use Rattle.head_manifest.specs.Folders.{chosen_by}
use Rattle.head_manifest.proofs.Files.{emptied_none, missing}
use Rattle.head_manifest.proofs.Makes.{unmade_read, unmade_with_current}
use Rattle.head_manifest.proofs.manifest.empty_current.Goals as goal

pub returns-then-branch-clause-touches : goal.returns-then-branch-clause-touches
returns-then-branch-clause-touches g c =
    touches_then g.D.Disk (λ n. n ≡ Current) c.args.disk.now c.is_there.new.disk c.make_empty.new.disk c.is_there.ensures.touches c.make_empty.ensures.touches

pub returns-else-branch-clause-emptied : goal.returns-else-branch-clause-emptied
returns-else-branch-clause-emptied g c told =
    let d = g.D.Disk in
    let old = c.args.disk.now in
    let none : is_some (d.stands old Current) ≡ false = sym (c.in_ok-is_there.ensures.there told) ∙ c.if-branch.false in
    stands_all d g.D.File.DiskFile old c.is_there.new.disk c.is_there.ensures.looks told Current ∙ sym (emptied_none (d.stands old Current) none)

pub returns-else-branch-clause-chooses : goal.returns-else-branch-clause-chooses
returns-else-branch-clause-chooses g c told =
    let d = g.D.Disk in
    let old = c.args.disk.now in
    let none : is_some (d.stands old Current) ≡ false = sym (c.in_ok-is_there.ensures.there told) ∙ c.if-branch.false in
    ap chosen_by (stands_all d g.D.File.DiskFile old c.is_there.new.disk c.is_there.ensures.looks told Current ∙ missing (d.stands old Current) none)

pub returns-else-branch-clause-durable : goal.returns-else-branch-clause-durable
returns-else-branch-clause-durable g c told stays image left =
    let d = g.D.Disk in
    let old = c.args.disk.now in
    let none : is_some (d.stands old Current) ≡ false = sym (c.in_ok-is_there.ensures.there told) ∙ c.if-branch.false in
    ap chosen_by (stays (missing (d.stands old Current) none) image (leaves_all d g.D.File.DiskFile old c.is_there.new.disk c.is_there.ensures.looks Current image left))

pub returns-then-branch-clause-unmade : goal.returns-then-branch-clause-unmade
returns-then-branch-clause-unmade g c =
    let d = g.D.Disk in
    let f = g.D.File.DiskFile in
    let old = c.args.disk.now in
    let mid = c.is_there.new.disk in
    let new = c.make_empty.new.disk in
    on_ok_weaker c.make_empty.result
    (λ empty unmade.
    let first = unmade_read d f old mid unmade c.is_there.ensures.looks in
    unmade_with_current d mid new [] first c.make_empty.ensures.touches (empty first.told))
    c.make_empty.ensures.empty

pub returns-else-branch-clause-unmade : goal.returns-else-branch-clause-unmade
returns-else-branch-clause-unmade g c unmade = unmade_read g.D.Disk g.D.File.DiskFile c.args.disk.now c.is_there.new.disk unmade c.is_there.ensures.looks
