-- Opening a store, step by step.
use Rattle.std.proofs.Common.{◌≡◌, ◌≢◌, ◌⊎◌, inl, inr, ⊎_elim, ℕ, Bool, true, false, cond, List, [], ◌∷◌, length, refl, sym, ap, ◌∙◌, subst}
use Rattle.std.specs.Prelude.{Some, None, ◌==◌}
use Rattle.udt_disk.specs.Crash.{Image, NoMore}
use Rattle.udt_disk.specs.Joint.{Folder, IsHeld, IsFree}
use Rattle.udt_disk.specs.Moments.{holding}
use Rattle.udt_disk.specs.Touches.{Touches}
use Rattle.udt_disk.specs.declared.name.FileName.{FileName}
use Rattle.udt_disk.specs.declared.name.FileName.TheVariants.{Manifest0, Manifest1, Current, Log}
use Rattle.udt_disk.specs.declared.file.DiskFile as file
use Rattle.udt_disk.specs.declared.disk.Disk as disk
use Rattle.head_manifest.specs.declared.fold.Folded.{Folded}
use Rattle.head_manifest.specs.Folds.{IsUsable}
use Rattle.head_manifest.specs.Files.{HasFold}
use Rattle.head_manifest.specs.Folders.{Means, chosen, chosen_by}
use Rattle.head_manifest.specs.Folders.Meaning.{store}
use Rattle.head_manifest.specs.Making.{IsReadName}
use Rattle.head_manifest.proofs.FoldLemmas.{manifest_usable}
use Rattle.plain_recovery.specs.Stores.{sizes_of}
use Rattle.plain_recovery.specs.Fault.{RefusesOpening, IsBadLogFile}
use Rattle.plain_recovery.specs.Opening.{RefusesLog}
use Rattle.plain_recovery.specs.declared.fault.OpenFault.{OpenFault}
use Rattle.plain_recovery.specs.declared.fault.OpenFault.TheVariants.{NoStore, BadManifest, BadLog, DiskFault, NoMemory}

-- ---- folds

file_usable : (image : Image) (fold : Folded) → HasFold image fold → (number : ℕ) × IsUsable fold number
file_usable None fold has = absurd has
file_usable (Some bytes) fold has = manifest_usable has.0 fold has.2

-- a store can be opened of each fold of a manifest
pub means_usable : (folder : Folder) (fold : Folded) → Means folder (store fold) → (number : ℕ) × IsUsable fold number
means_usable folder fold means = file_usable (folder (chosen folder)) fold means.1

-- why the live log isn't opened is why the store isn't
pub refused_store : (folder now : Folder) (fold : Folded) (number : ℕ) (fault : OpenFault) → Means folder (store fold) → fold.logs ≡ number ∷ [] → now (Log number) ≡ folder (Log number) → RefusesLog fold number now fault → RefusesOpening folder fault
refused_store folder now fold number NoStore means live same refused = absurd refused
refused_store folder now fold number (BadManifest at) means live same refused = absurd refused
refused_store folder now fold number (BadLog n at) means live same refused = record {
  fold = fold;
  means = means;
  live = live ∙ ap (λ (k : ℕ). k ∷ []) (sym refused.0);
  bad = subst (λ (k : ℕ). IsBadLogFile (sizes_of fold) (folder (Log k)) at) (sym refused.0) (subst (λ (image : Image). IsBadLogFile (sizes_of fold) image at) same refused.1);
}
refused_store folder now fold number DiskFault means live same refused = tt
refused_store folder now fold number NoMemory means live same refused = tt

-- ---- names

log_isn't_read : (number : ℕ) → ¬ IsReadName (Log number)
log_isn't_read number (inl (inl (inl is))) = cc
log_isn't_read number (inl (inl (inr is))) = cc
log_isn't_read number (inl (inr is)) = cc
log_isn't_read number (inr is) = cc

chosen_by_isn't_log : (current : Image) (number : ℕ) → chosen_by current ≢ Log number
chosen_by_isn't_log None number is = cc
chosen_by_isn't_log (Some []) number is = cc
chosen_by_isn't_log (Some (byte ∷ bytes)) number is = either (byte == 165) is
  where
    either : (b : Bool) → cond b Manifest1 Manifest0 ≢ Log number
    either true is = cc
    either false is = cc

-- no manifest has the name of a log
pub chosen_isn't_log : (folder : Folder) (number : ℕ) → chosen folder ≢ Log number
chosen_isn't_log folder number is = chosen_by_isn't_log (folder Current) number is

module _ {F : Type 0} where
  -- a file among one
  pub only : (a z : F) → IsHeld (a ∷ []) z → a ≡ z
  only a z held = ⊎_elim (λ is. is) (λ none. absurd none) held

module _ {D F : Type 0} (d : disk.Ghosts D F) (f : file.Ghosts F) where
  -- what stands under the name of a log is as it was before the manifest was read
  pub log_same : (old mid : D) → Touches d IsReadName old mid → (number : ℕ) → d.stands mid (Log number) ≡ d.stands old (Log number)
  log_same old mid touches number = touches.same (Log number) (log_isn't_read number)

  pub log_no_more : (old mid : D) → Touches d IsReadName old mid → (number : ℕ) → NoMore (d.may_leave old (Log number)) (d.may_leave mid (Log number))
  log_no_more old mid touches number c left = touches.no_more (Log number) c (log_isn't_read number) left

  -- no log is held beside the manifest
  pub log_is_free : (disk : D) (m : F) (number : ℕ) → (f.name m ≡ Manifest0) ⊎ (f.name m ≡ Manifest1) → IsFree d f (holding disk (m ∷ [])) (Log number)
  log_is_free disk m number (inl zero) x held is = let same : Log number ≡ Manifest0 = is ∙ ap f.name (sym (only m x held)) ∙ zero in cc
  log_is_free disk m number (inr one) x held is = let same : Log number ≡ Manifest1 = is ∙ ap f.name (sym (only m x held)) ∙ one in cc
