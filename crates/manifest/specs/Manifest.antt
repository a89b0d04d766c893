-- What a manifest shows.
use Rattle.std.specs.Prelude.{ℕ, List, [], ◌∷◌, Option, Some, None, Result, Ok, Err, IsTrue}
use Rattle.udt_disk.specs.declared.file.DiskFile.{Ghosts}
use Rattle.udt_model.specs.declared.line.FamilyHead.{FamilyHead}
use Rattle.manifest_edit.specs.declared.edit.Edit.{Edit}
use Rattle.manifest_fold.specs.declared.fold.Folded.{Folded}
use Rattle.edit_log.specs.Logs as log
use Rattle.edit_log.specs.Logs.{ShowsEdits, EditsRest}
use Rattle.manifest.specs.declared.fault.ManifestFault.{ManifestFault}
use Rattle.manifest.specs.declared.manifest.Manifest.{Manifest}
use Rattle.manifest.specs.Heads.{IsHead}
use Rattle.manifest.specs.Folds.{fold_of}
use Rattle.manifest.specs.Folders.{Meaning, told_by_fault}
use Rattle.manifest.specs.Folders.Meaning.{no_store, store}

module _ {F : Type 0} {g : Ghosts F} where
  -- the file that the manifest holds
  abbrev pub manifest_file : Manifest F g → F
  manifest_file manifest = log.edit_file manifest.edits

  -- what its frames add up to
  abbrev pub manifest_folded : Manifest F g → Folded
  manifest_folded manifest = log.edit_fold manifest.edits

  -- the offset of the gate behind its last frame
  abbrev pub manifest_end : Manifest F g → ℕ
  manifest_end manifest = log.edit_end manifest.edits

  -- the files that an answer holds
  abbrev pub files_made : {E : Type 0} → Result (Manifest F g) E → List F
  files_made (Ok manifest) = manifest_file manifest ∷ []
  files_made (Err e) = []

  abbrev pub files_read : {E : Type 0} → Result (Option (Manifest F g)) E → List F
  files_read (Ok None) = []
  files_read (Ok (Some manifest)) = manifest_file manifest ∷ []
  files_read (Err e) = []

  -- the meaning that a reader's answer tells
  abbrev pub told_by : Result (Option (Manifest F g)) ManifestFault → Option Meaning
  told_by (Ok None) = Some no_store
  told_by (Ok (Some manifest)) = Some (store (manifest_folded manifest))
  told_by (Err fault) = told_by_fault fault

-- what reads of its file give are a head, and edits that lead from what it stands for to the manifest's fold
pub record ShowsFold {F : Type 0} (g : Ghosts F) (manifest : Manifest F g) : Type 0 where
  pub head : List ℕ
  pub families : List FamilyHead
  pub is : IsHead head families
  pub edits : ShowsEdits g manifest.edits head (fold_of families)

-- the same, and a crash leaves nothing else
pub record FoldRests {F : Type 0} (g : Ghosts F) (manifest : Manifest F g) : Type 0 where
  pub head : List ℕ
  pub families : List FamilyHead
  pub is : IsHead head families
  pub edits : EditsRest g manifest.edits head (fold_of families)

-- where the file tells what it holds, it shows the manifest's fold
abbrev pub IsManifestReady : {F : Type 0} (g : Ghosts F) → Manifest F g → Type 0
IsManifestReady g manifest = IsTrue (g.is_told (manifest_file manifest)) → ShowsFold g manifest

-- this edit was reserved last
abbrev pub IsEditReserved : {F : Type 0} (g : Ghosts F) → Manifest F g → Edit → Type 0
IsEditReserved g manifest edit = log.IsReserved g manifest.edits edit
