use Rattle.std.proofs.Common.{◌≡◌, [], ◌∷◌, arith, None, sym, subst, ap, refl, ◌∙◌}
use Rattle.manifest_edit.specs.declared.edit.Edit.{Edit}
use Rattle.manifest_fold.specs.declared.fold.Folded.{Folded}
use Rattle.manifest_fold.specs.Folds.{IsAccepted}
use Rattle.manifest.specs.Manifest.{IsEditReserved, manifest_folded}
use Rattle.store_engine.specs.Installing.IsFlushEnded.{ended, refused, stopped}
use Rattle.engine_laws.specs.Joints.{IsNowLast}
use Rattle.store_engine.proofs.Aside.{aside_running}
use Rattle.store_engine.proofs.FlushEdits.{flush_accepted}
use Rattle.store_engine.proofs.FlushEnded.{get_there}
use Rattle.store_engine.proofs.engine.Engine.end_flush.Goals as goal

pub returns-in-Err : goal.returns-in-Err
returns-in-Err g c =
    let edit : Edit = record { add_logs = []; drop_logs = []; next_file = 0; last = c.args.now.now.last; family = None } in
    refused edit c.ready_flush-ready.new.self c.in-Err.fault (c.in-Err.ensures.refused edit) c.give_back.ensures

pub returns-in-Err-install : goal.returns-in-Err-install
returns-in-Err-install g c = stopped c.in-Ok.install c.ready_flush-ready.new.self c.give_back.new.self c.in-Err-install.fault c.in-Ok.ensures.made c.in-Ok.ensures.ready c.give_back.ensures c.in-Err-install.ensures

pub returns-in-Ok-install : goal.returns-in-Ok-install
returns-in-Ok-install g c = ended c.in-Ok.install c.ready_flush-ready.new.self c.give_back.new.self c.in-Ok.install.next c.in-Ok.ensures.made c.in-Ok.ensures.ready c.give_back.ensures c.in-Ok-install.ensures refl

pub install-requires-clause-accepted : goal.install-requires-clause-accepted
install-requires-clause-accepted g c κs within =
    let self = c.args.self.now in
    let now = c.args.now.now in
    let end = c.args.end in
    let may = c.requires.may in
    let together = c.requires.running.together in
    let made = c.in-Ok.ensures.made in
    let fold = manifest_folded self.manifest in
    let there = get_there now.families end.family.0 may.known in
    let accepted = flush_accepted fold now c.requires.current.fits end.family end.floor end.through end.number made.count self.next there.0 there.1 together.well made.are_gone.one together.more together.most (c.requires.floor there.0 there.1) (may.from there.0 there.1) may.to may.unused.given may.unused.free in
    let same : manifest_folded c.give_back.new.self.manifest ≡ fold = ap (λ k. manifest_folded k) c.give_back.ensures.aside.manifest ∙ c.in-Ok.ensures.ready.fold in
    subst (λ (z : Folded). IsAccepted z c.in-Ok.install.edit) (sym same) (subst (IsAccepted fold) (sym made.edit) accepted)

pub install-requires-clause-reserved : goal.install-requires-clause-reserved
install-requires-clause-reserved g c κs within = subst (λ k. IsEditReserved g.D.File.DiskFile k c.in-Ok.install.edit) (sym c.give_back.ensures.aside.manifest) c.in-Ok.ensures.ready.reserved

pub install-requires-clause-running : goal.install-requires-clause-running
install-requires-clause-running g c κs within =
    let d = g.D.Disk in
    let f = g.D.File.DiskFile in
    let last : IsNowLast d f = record {
      disk = λ x n image left. (g.met.D.Disk g.world.𝓛 g.world.𝓜 g.world.𝓡 ((λ s x. x), (λ x. x), (λ x. x), λ x. x)).only_now x n image left;
      file = λ x image left. (g.met.D.File.DiskFile g.world.𝓛 g.world.𝓜 g.world.𝓡 ((λ s x. x), (λ x. x), (λ x. x), λ x. x)).only_now x image left;
    } in
    aside_running d f last (f.name c.args.file ∷ []) c.ready_flush-ready.new.self c.give_back.new.self c.give_back.ensures.aside c.in-Ok.ensures.ready.running

pub install-requires-clause-logs : goal.install-requires-clause-logs
install-requires-clause-logs g c κs within = ap (λ (e : Edit). e.add_logs) c.in-Ok.ensures.made.edit

pub install-requires-clause-next : goal.install-requires-clause-next
install-requires-clause-next g c κs within =
    let edit : c.in-Ok.install.edit.next_file ≡ c.args.self.now.next = ap (λ (e : Edit). e.next_file) c.in-Ok.ensures.made.edit in
    let next : c.give_back.new.self.next ≡ c.args.self.now.next = c.give_back.ensures.aside.next ∙ c.in-Ok.ensures.ready.next in
    omega (arith, edit, next)
