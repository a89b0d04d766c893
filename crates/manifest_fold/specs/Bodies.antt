-- What the later frames of a manifest make of a fold.
use Rattle.std.specs.Prelude.{◌≡◌, ℕ, List, [], ◌∷◌}
use Rattle.manifest_edit.specs.Edits.{IsEdit}
use Rattle.manifest_edit.specs.declared.edit.Edit.{Edit}
use Rattle.manifest_fold.specs.declared.fold.Folded.{Folded}
use Rattle.manifest_fold.specs.Folds.{IsAccepted, fold_with}

-- the body is an edit that the fold accepts, and leads to the next fold
pub record LeadsTo (fold : Folded) (body : List ℕ) (next : Folded) : Type 0 where
  pub edit : Edit
  pub spelled : IsEdit body edit
  pub accepted : IsAccepted fold edit
  pub is : next ≡ fold_with fold edit

-- the body is no edit, or none that the fold accepts
abbrev pub LeadsNowhere : Folded → List ℕ → Type 0
LeadsNowhere fold body = (next : Folded) → LeadsTo fold body next → ⊥

-- these bodies, one after another, lead from one fold to the other
abbrev pub LeadAll : Folded → List (List ℕ) → Folded → Type 0
LeadAll fold [] end = end ≡ fold
LeadAll fold (body ∷ bodies) end = (next : Folded) × LeadsTo fold body next × LeadAll next bodies end
