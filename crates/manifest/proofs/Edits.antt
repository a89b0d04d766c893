-- A manifest and the edits behind its head.
use Rattle.std.proofs.Common.{◌≡◌, ◌⊎◌, inl, inr, ⊎_elim, ℕ, List, [], ◌∷◌, Result, Ok, Err, Some, None, sym, subst}
use Rattle.std.specs.Prelude.{IsTrue, OnOk}
use Rattle.udt_disk.specs.Crash.{Image}
use Rattle.udt_disk.specs.Runs.{Leaves}
use Rattle.udt_disk.specs.declared.file.DiskFile.{Ghosts}
use Rattle.udt_disk.proofs.Runs.{run_weaker}
use Rattle.udt_model.specs.declared.line.FamilyHead.{FamilyHead}
use Rattle.gate_log.specs.GateLog.{IsLogOf, IsAtRest}
use Rattle.gate_log.specs.declared.log.GateLog.{GateLog}
use Rattle.manifest_fold.specs.Bodies.{LeadAll}
use Rattle.manifest_fold.specs.declared.fold.Folded.{Folded}
use Rattle.edit_log.specs.Logs.{HasEdits, ShowsEdits, EditsRest, IsEditLogReady}
use Rattle.manifest.specs.Heads.{IsHead}
use Rattle.manifest.specs.Folds.{IsManifest, fold_of}
use Rattle.manifest.specs.Files.{HasFold}
use Rattle.manifest.specs.Manifest.{manifest_file, manifest_folded, ShowsFold, FoldRests, IsManifestReady}
use Rattle.manifest.specs.declared.manifest.Manifest.{Manifest}

-- a head and edits behind it are a manifest
pub edits_fold : (head : List ℕ) (families : List FamilyHead) (image : Image) (end : Folded) → IsHead head families → HasEdits head (fold_of families) image end → HasFold image end
edits_fold head families None end is has = absurd has
edits_fold head families (Some bytes) end is has = (head ∷ has.0, has.1, (families, is, has.2))

pub on_ok : {A E : Type 0} (r : Result A E) (P Q : Type 0) → (P → Q) → OnOk r P → OnOk r Q
on_ok (Ok value) P Q more p = more p
on_ok (Err e) P Q more p = tt

module _ {F : Type 0} (g : Ghosts F) where
  pub shown : (log : GateLog F g) (m : Manifest F g) (fold : Folded) (bodies : List (List ℕ))
      → ((head : List ℕ) (start : Folded) (later : List (List ℕ)) → IsLogOf g log (head ∷ later) → LeadAll start later fold → ShowsEdits g m.edits head start) → IsLogOf g log bodies → IsManifest bodies fold → ShowsFold g m
  shown log m fold [] made logged means = absurd means
  shown log m fold (head ∷ bodies) made logged means = record { head = head; families = means.0; is = means.1; edits = made head (fold_of means.0) bodies logged means.2 }

  pub rested : (log : GateLog F g) (m : Manifest F g) (fold : Folded) (bodies : List (List ℕ))
      → ((head : List ℕ) (start : Folded) (later : List (List ℕ)) → IsAtRest g log (head ∷ later) → LeadAll start later fold → EditsRest g m.edits head start) → IsAtRest g log bodies → IsManifest bodies fold → FoldRests g m
  rested log m fold [] made at_rest means = absurd means
  rested log m fold (head ∷ bodies) made at_rest means = record { head = head; families = means.0; is = means.1; edits = made head (fold_of means.0) bodies at_rest means.2 }

  -- its file has its fold
  pub shows_fold : (m : Manifest F g) → ShowsFold g m → HasFold (Some (g.seen (manifest_file m))) (manifest_folded m)
  shows_fold m shows = (shows.head ∷ shows.edits.bodies, shows.edits.logged.file, (shows.families, shows.is, shows.edits.leads))

  pub rests_show : (m : Manifest F g) → FoldRests g m → ShowsFold g m
  rests_show m rest = record {
    head = rest.head;
    families = rest.families;
    is = rest.is;
    edits = record { bodies = rest.edits.bodies; logged = rest.edits.at_rest.logged; leads = rest.edits.leads };
  }

  -- and so has whatever a crash leaves of it
  pub rests_fold : (m : Manifest F g) → FoldRests g m → (image : Image) → g.may_leave (manifest_file m) image → HasFold image (manifest_folded m)
  rests_fold m rest image left = subst (λ (i : Image). HasFold i (manifest_folded m)) (sym (rest.edits.at_rest.durable image left)) (shows_fold m (rests_show m rest))

  pub ready_edits : (m : Manifest F g) → IsManifestReady g m → IsEditLogReady g m.edits
  ready_edits m ready told = let shows = ready told in (shows.head, fold_of shows.families, shows.edits)

module _ {F : Type 0} (g : Ghosts F) (old new : Manifest F g) where
  pub shows_on : ((head : List ℕ) (start : Folded) → ShowsEdits g old.edits head start → ShowsEdits g new.edits head start) → ShowsFold g old → ShowsFold g new
  shows_on kept shows = record { head = shows.head; families = shows.families; is = shows.is; edits = kept shows.head (fold_of shows.families) shows.edits }

  pub rests_on : ((head : List ℕ) (start : Folded) → EditsRest g old.edits head start → EditsRest g new.edits head start) → FoldRests g old → FoldRests g new
  rests_on kept rest = record { head = rest.head; families = rest.families; is = rest.is; edits = kept rest.head (fold_of rest.families) rest.edits }

  pub ready_on : manifest_file new ≡ manifest_file old → (ShowsFold g old → ShowsFold g new) → IsManifestReady g old → IsManifestReady g new
  ready_on file kept ready told = kept (ready (subst (λ (f : F). IsTrue (g.is_told f)) file told))

  pub rests_after : {A E : Type 0} (r : Result A E) → ((head : List ℕ) (start : Folded) → ShowsEdits g old.edits head start → OnOk r (EditsRest g new.edits head start)) → ShowsFold g old → OnOk r (FoldRests g new)
  rests_after r appended shows =
      on_ok r (EditsRest g new.edits shows.head (fold_of shows.families)) (FoldRests g new)
      (λ rest. record { head = shows.head; families = shows.families; is = shows.is; edits = rest }) (appended shows.head (fold_of shows.families) shows.edits)

  pub ready_after : {A E : Type 0} (r : Result A E) → (ShowsFold g old → OnOk r (FoldRests g new)) → g.is_told (manifest_file new) ≡ g.is_told (manifest_file old) → IsManifestReady g old → OnOk r (IsManifestReady g new)
  ready_after (Ok value) appended same ready = λ told. rests_show g new (appended (ready (subst IsTrue same told)))
  ready_after (Err e) appended same ready = tt

  pub fold_moments : (end : Folded)
      → ((head : List ℕ) (start : Folded) → EditsRest g old.edits head start → Leaves g (manifest_file old) (manifest_file new) (λ (image : Image). HasEdits head start image (manifest_folded old) ⊎ HasEdits head start image end))
      → FoldRests g old → Leaves g (manifest_file old) (manifest_file new) (λ (image : Image). HasFold image (manifest_folded old) ⊎ HasFold image end)
  fold_moments end moments rest =
      let start = fold_of rest.families in
      run_weaker g (manifest_file old) (manifest_file new) (λ (image : Image). HasEdits rest.head start image (manifest_folded old) ⊎ HasEdits rest.head start image end)
      (λ (image : Image). HasFold image (manifest_folded old) ⊎ HasFold image end)
      (λ image left. ⊎_elim (λ before. inl (edits_fold rest.head rest.families image (manifest_folded old) rest.is before)) (λ after. inr (edits_fold rest.head rest.families image end rest.is after)) left)
      (moments rest.head start rest.edits)
