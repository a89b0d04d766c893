-- An edit's body behind those of a manifest.
use Rattle.std.proofs.Common.{◌≡◌, ◌⊎◌, ℕ, List, [], ◌∷◌, ◌++◌, Some, None, refl, subst, inl, inr}
use Rattle.udt_disk.specs.Crash.{Image}
use Rattle.gate_log.specs.Frames.{IsLogImage, IsWithOrWithout}
use Rattle.manifest_edit.specs.declared.edit.Edit.{Edit}
use Rattle.manifest_edit.specs.Edits.{IsEdit}
use Rattle.manifest_fold.specs.declared.fold.Folded.{Folded}
use Rattle.manifest_fold.specs.Folds.{IsAccepted, fold_with}
use Rattle.manifest_fold.specs.Bodies.{LeadAll}
use Rattle.manifest.specs.Files.{HasFold}
use Rattle.manifest.specs.Folds.{IsManifest}

lead_more : (start fold : Folded) (bodies : List (List ℕ)) (edit : Edit) (body : List ℕ) → LeadAll start bodies fold → IsEdit body edit → IsAccepted fold edit → LeadAll start (bodies ++ body ∷ []) (fold_with fold edit)
lead_more start fold [] edit body h spelled accepted = (fold_with fold edit, record { edit = edit; spelled = spelled; accepted = subst (λ z. IsAccepted z edit) h accepted; is = subst (λ z. fold_with fold edit ≡ fold_with z edit) h refl }, refl)
lead_more start fold (b ∷ bodies) edit body h spelled accepted = (h.0, h.1, lead_more h.0 fold bodies edit body h.2 spelled accepted)

pub manifest_more : (bodies : List (List ℕ)) (fold : Folded) (edit : Edit) (body : List ℕ) → IsManifest bodies fold → IsEdit body edit → IsAccepted fold edit → IsManifest (bodies ++ body ∷ []) (fold_with fold edit)
manifest_more [] fold edit body h spelled accepted = absurd h
manifest_more (b ∷ bodies) fold edit body h spelled accepted = (h.0, h.1, lead_more (_) fold bodies edit body h.2 spelled accepted)

image_fold : (image : Image) (bodies : List (List ℕ)) (fold : Folded) → IsManifest bodies fold → IsLogImage bodies image → HasFold image fold
image_fold None bodies fold h l = absurd l
image_fold (Some bytes) bodies fold h l = (bodies, l, h)

pub either_fold : (bodies : List (List ℕ)) (fold : Folded) (edit : Edit) (body : List ℕ) (image : Image) → IsManifest bodies fold → IsEdit body edit → IsAccepted fold edit → IsWithOrWithout bodies body image → HasFold image fold ⊎ HasFold image (fold_with fold edit)
either_fold bodies fold edit body image h spelled accepted (inl l) = inl (image_fold image bodies fold h l)
either_fold bodies fold edit body image h spelled accepted (inr l) = inr (image_fold image (bodies ++ body ∷ []) (fold_with fold edit) (manifest_more bodies fold edit body h spelled accepted) l)
