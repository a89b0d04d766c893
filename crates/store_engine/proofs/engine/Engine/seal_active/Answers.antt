use Rattle.std.proofs.Common.{◌++◌, [], ◌∷◌, ℕ, refl, sym, ap, ◌∙◌, subst}
use Rattle.manifest_edit.specs.declared.edit.Edit.{Edit}
use Rattle.manifest_fold.specs.declared.fold.Folded.{Folded}
use Rattle.manifest_fold.specs.Folds.{IsAccepted, newest_log}
use Rattle.manifest.specs.Manifest.{manifest_folded}
use Rattle.store_engine.specs.Sealing.SealsActive.{sealed, stopped, unmade, unreserved}
use Rattle.store_engine.specs.declared.fault.EngineFault.TheVariants.{NoMemory}
use Rattle.store_engine.specs.declared.older.RolledLog.{RolledLog}
use Rattle.store_engine.specs.declared.seal.Sealed.TheVariants.{Rolled}
use Rattle.store_engine.proofs.Sealing.{roll_accepted}
use Rattle.store_engine.proofs.engine.Engine.seal_active.Goals as goal

pub returns-in-Err : goal.returns-in-Err
returns-in-Err g c = unmade NoMemory refl refl

pub returns-in-Err-with : goal.returns-in-Err-with
returns-in-Err-with g c = unmade NoMemory refl refl

pub returns-in-Err-roll_edit : goal.returns-in-Err-roll_edit
returns-in-Err-roll_edit g c = unmade NoMemory refl refl

pub returns-in-Err-reserve_edit : goal.returns-in-Err-reserve_edit
returns-in-Err-reserve_edit g c = unreserved c.in-Ok-roll_edit.edit c.in-Err-reserve_edit.fault c.in-Err-reserve_edit.ensures

pub roll-requires-clause-accepted : goal.roll-requires-clause-accepted
roll-requires-clause-accepted g c κs within =
    let self = c.args.self.now in
    let edit = c.in-Ok-roll_edit.edit in
    let together = c.requires.running.together in
    let fits = c.requires.current.fits in
    let kept = c.in-Ok-reserve_edit.ensures in
    subst (λ (fold : Folded). IsAccepted fold edit) (sym kept.fold) (subst (λ (e : Edit). IsAccepted (manifest_folded self.manifest) e) (sym c.in-Ok-roll_edit.ensures)
    (roll_accepted (manifest_folded self.manifest) self.next c.args.now.now.last together.well together.more c.requires.next fits.last fits.within))

pub returns-in-Ok-roll : goal.returns-in-Ok-roll
returns-in-Ok-roll g c =
    let self = c.args.self.now in
    let log : ℕ → RolledLog = λ n. record { number = n; last = c.args.now.now.last } in
    sealed c.in-Ok-roll_edit.edit c.in-Ok-with.older c.reserve_edit.new.self (Rolled c.in-Ok.made.0 c.in-Ok.made.1) (record {
      reserves = c.in-Ok-reserve_edit.ensures;
      edit_is = c.in-Ok-roll_edit.ensures;
      opened = c.in-Ok-with.ensures.opened;
      logs = c.in-Ok-with.ensures.rolled ∙ ap (λ n. self.older.rolled.items ++ log n ∷ []) (c.newest_of-newest.ensures ∙ ap newest_log c.as_slice.ensures ∙ ap (λ (z : Folded). newest_log z.logs) c.fold.ensures);
    }) c.in-Ok-roll.ensures c.in-Ok.ensures

pub returns-in-Err-roll : goal.returns-in-Err-roll
returns-in-Err-roll g c =
    let self = c.args.self.now in
    let log : ℕ → RolledLog = λ n. record { number = n; last = c.args.now.now.last } in
    stopped c.in-Ok-roll_edit.edit c.in-Ok-with.older c.reserve_edit.new.self c.in-Err-roll.fault (record {
      reserves = c.in-Ok-reserve_edit.ensures;
      edit_is = c.in-Ok-roll_edit.ensures;
      opened = c.in-Ok-with.ensures.opened;
      logs = c.in-Ok-with.ensures.rolled ∙ ap (λ n. self.older.rolled.items ++ log n ∷ []) (c.newest_of-newest.ensures ∙ ap newest_log c.as_slice.ensures ∙ ap (λ (z : Folded). newest_log z.logs) c.fold.ensures);
    }) c.in-Err-roll.ensures
