-- A log that was made ready, and a log with an edit more.
use Rattle.std.proofs.Common.{◌≡◌, ◌⊎◌, ℕ, ◌≤◌, List, [], ◌∷◌, ◌++◌, length, Option, Some, None, refl, ap, sym, ◌∙◌, subst}
use Rattle.std.specs.Prelude.{IsTrue, IsSomeAnd}
use Rattle.udt_disk.specs.Crash.{Image}
use Rattle.udt_disk.specs.Runs.{Leaves}
use Rattle.udt_disk.specs.declared.file.DiskFile.{Ghosts}
use Rattle.udt_disk.proofs.Runs.{run_weaker}
use Rattle.gate_log.specs.Frames.{IsBody, IsWithOrWithout}
use Rattle.gate_log.specs.GateLog.{log_room, IsLogOf, IsAtRest, IsLogReady}
use Rattle.manifest_edit.specs.Edits.{IsEdit, edit_text}
use Rattle.manifest_edit.specs.declared.edit.Edit.{Edit}
use Rattle.manifest_fold.specs.declared.fold.FamilyFold.{FamilyFold}
use Rattle.manifest_fold.specs.declared.fold.Folded.{Folded}
use Rattle.manifest_fold.specs.Bodies.{LeadsTo, LeadAll}
use Rattle.manifest_fold.specs.Folds.{IsAccepted, families_with, logs_with, fold_with}
use Rattle.manifest_fold.proofs.Prefixes.{leads_push}
use Rattle.edit_log.specs.declared.log.EditLog.{EditLog}
use Rattle.edit_log.specs.declared.log.Prepared.{Prepared}
use Rattle.edit_log.specs.Logs.{HasEdits, ShowsEdits, EditsRest, IsEditLogReady, IsPrepared, IsReserved, edit_file}
use Rattle.edit_log.proofs.Steps.{either}

module _ {F : Type 0} (g : Ghosts F) (old new : EditLog F g) where
  -- ---- the same frames, and the same fold

  pub shows_on : ((bodies : List (List ℕ)) → IsLogOf g old.log bodies → IsLogOf g new.log bodies) → new.fold ≡ old.fold → (head : List ℕ) (start : Folded) → ShowsEdits g old head start → ShowsEdits g new head start
  shows_on kept same head start shows = record {
    bodies = shows.bodies;
    logged = kept (head ∷ shows.bodies) shows.logged;
    leads = subst (λ (fold : Folded). LeadAll start shows.bodies fold) (sym same) shows.leads;
  }

  pub rests_on : ((bodies : List (List ℕ)) → IsAtRest g old.log bodies → IsAtRest g new.log bodies) → new.fold ≡ old.fold → (head : List ℕ) (start : Folded) → EditsRest g old head start → EditsRest g new head start
  rests_on kept same head start rest = record {
    bodies = rest.bodies;
    at_rest = kept (head ∷ rest.bodies) rest.at_rest;
    leads = subst (λ (fold : Folded). LeadAll start rest.bodies fold) (sym same) rest.leads;
  }

  pub ready_on : edit_file new ≡ edit_file old → ((bodies : List (List ℕ)) → IsLogOf g old.log bodies → IsLogOf g new.log bodies) → new.fold ≡ old.fold → IsEditLogReady g old → IsEditLogReady g new
  ready_on file kept same ready told =
      let before = ready (subst (λ (f : F). IsTrue (g.is_told f)) file told) in
      (before.0, before.1, shows_on kept same before.0 before.1 before.2)

-- ---- an edit more

-- the prepared parts are those of the next fold
next_fold : (fold : Folded) (edit : Edit) (families : List FamilyFold) (logs : List ℕ) → families ≡ families_with fold.families edit.family → logs ≡ logs_with fold.logs edit
    → record { families = families; logs = logs; next_file = edit.next_file; last = edit.last } ≡ fold_with fold edit
next_fold fold edit families logs is_families is_logs =
    ap (λ (fs : List FamilyFold). record { families = fs; logs = logs; next_file = edit.next_file; last = edit.last }) is_families
    ∙ ap (λ (ns : List ℕ). record { families = families_with fold.families edit.family; logs = ns; next_file = edit.next_file; last = edit.last }) is_logs

module _ {F : Type 0} (g : Ghosts F) (old : EditLog F g) (edit : Edit) where
  pub none_prepared : (taken : Option Prepared) → taken ≡ old.next → ((next : Prepared) → taken ≡ Some next → ⊥) → IsReserved g old edit → ⊥
  none_prepared None is none reserved = subst (λ (o : Option Prepared). IsSomeAnd o (IsPrepared g old edit)) (sym is) reserved
  none_prepared (Some next) is none reserved = none next refl

  pub prepared_one : (taken : Option Prepared) (next : Prepared) → taken ≡ old.next → taken ≡ Some next → IsReserved g old edit → IsPrepared g old edit next
  prepared_one taken next is some reserved = subst (λ (o : Option Prepared). IsSomeAnd o (IsPrepared g old edit)) (sym is ∙ some) reserved

module _ {F : Type 0} (g : Ghosts F) (old : EditLog F g) (edit : Edit) (next : Prepared) (body : List ℕ) (prepared : IsPrepared g old edit next) (same : body ≡ next.body.items) where
  pub prepared_fold : record { families = next.families; logs = next.logs; next_file = edit.next_file; last = edit.last } ≡ fold_with old.fold edit
  prepared_fold = next_fold old.fold edit next.families next.logs prepared.families prepared.logs

  pub prepared_body : IsBody body
  prepared_body = subst IsBody (sym same) prepared.size

  pub prepared_room : length body ≤ log_room old.log
  prepared_room = subst (λ (b : List ℕ). length b ≤ log_room old.log) (sym same) prepared.room

  pub prepared_text : body ≡ edit_text edit
  prepared_text = same ∙ prepared.spelled.is

  leads_next : IsAccepted old.fold edit → LeadsTo old.fold body (fold_with old.fold edit)
  leads_next accepted = record { edit = edit; spelled = subst (λ (b : List ℕ). IsEdit b edit) (sym same) prepared.spelled; accepted = accepted; is = refl }

  pub with_edit : (new : EditLog F g) (head : List ℕ) (start : Folded) → IsAccepted old.fold edit → new.fold ≡ fold_with old.fold edit
      → ((bodies : List (List ℕ)) → IsLogOf g old.log bodies → IsAtRest g new.log (bodies ++ body ∷ [])) → ShowsEdits g old head start → EditsRest g new head start
  with_edit new head start accepted fold appended shows = record {
    bodies = shows.bodies ++ body ∷ [];
    at_rest = appended (head ∷ shows.bodies) shows.logged;
    leads = subst (λ (end : Folded). LeadAll start (shows.bodies ++ body ∷ []) end) (sym fold)
        (leads_push shows.bodies body start old.fold (fold_with old.fold edit) shows.leads (leads_next accepted));
  }

  pub ready_with : (new : EditLog F g) → IsAccepted old.fold edit → new.fold ≡ fold_with old.fold edit → ((bodies : List (List ℕ)) → IsLogOf g old.log bodies → IsAtRest g new.log (bodies ++ body ∷ []))
      → g.is_told (edit_file new) ≡ g.is_told (edit_file old) → IsEditLogReady g old → IsEditLogReady g new
  ready_with new accepted fold appended tells ready told =
      let shown = ready (subst IsTrue tells told) in
      let rest = with_edit new shown.0 shown.1 accepted fold appended shown.2 in
      (shown.0, shown.1, record { bodies = rest.bodies; logged = rest.at_rest.logged; leads = rest.leads })

  pub edit_moments : (file : F) (head : List ℕ) (start : Folded) → IsAccepted old.fold edit
      → ((bodies : List (List ℕ)) → IsAtRest g old.log bodies → Leaves g (edit_file old) file (IsWithOrWithout bodies body)) → EditsRest g old head start
      → Leaves g (edit_file old) file (λ (image : Image). HasEdits head start image old.fold ⊎ HasEdits head start image (fold_with old.fold edit))
  edit_moments file head start accepted moments rest =
      run_weaker g (edit_file old) file (IsWithOrWithout (head ∷ rest.bodies) body) (λ (image : Image). HasEdits head start image old.fold ⊎ HasEdits head start image (fold_with old.fold edit))
      (λ image left. either head start old.fold (fold_with old.fold edit) rest.bodies body image rest.leads (leads_next accepted) left)
      (moments (head ∷ rest.bodies) rest.at_rest)

-- a log that shows edits is one of frames
pub ready_log : {F : Type 0} (g : Ghosts F) (log : EditLog F g) → IsEditLogReady g log → IsLogReady g log.log
ready_log g log ready told = let shown = ready told in (shown.0 ∷ shown.2.bodies, shown.2.logged)
