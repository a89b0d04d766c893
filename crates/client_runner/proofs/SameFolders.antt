-- Folders that hold the same under each name mean and stand for the same.
use Rattle.std.proofs.Common.{◌≡◌, ℕ, sym, ap, ◌∙◌, subst}
use Rattle.udt_disk.specs.Crash.{Image}
use Rattle.udt_disk.specs.Joint.{Folder}
use Rattle.udt_disk.specs.declared.name.FileName.{FileName}
use Rattle.udt_disk.specs.declared.name.FileName.TheVariants.{Current, Made, Log}
use Rattle.udt_model.specs.State.{State}
use Rattle.head_manifest.specs.Files.{HasFold, IsBadFile}
use Rattle.head_manifest.specs.Folders.{Meaning, Means, chosen, chosen_by}
use Rattle.head_manifest.specs.Folders.Meaning.{no_store, bad_at, store}
use Rattle.wal.specs.Replays.{ReadsAs}
use Rattle.plain_recovery.specs.Fault.{IsBadLog, IsBadLogFile}
use Rattle.plain_recovery.specs.Stores.{FolderStands, sizes_of}

chosen_same : (f g : Folder) → ((n : FileName) → g n ≡ f n) → g (chosen g) ≡ f (chosen f)
chosen_same f g same = same (chosen g) ∙ ap f (ap chosen_by (same Current))

-- they mean the same
pub means_same : (f g : Folder) (m : Meaning) → ((n : FileName) → g n ≡ f n) → Means f m → Means g m
means_same f g no_store same means = same Made ∙ means
means_same f g (store fold) same means = (λ none. means.0 (sym (same Made) ∙ none), subst (λ (c : Image). HasFold c fold) (sym (chosen_same f g same)) means.1)
means_same f g (bad_at at) same means = (λ none. means.0 (sym (same Made) ∙ none), subst (λ (c : Image). IsBadFile c at) (sym (chosen_same f g same)) means.1)

-- they stand for the same
unfoldable pub stands_same : (f g : Folder) (m : State) → ((n : FileName) → g n ≡ f n) → FolderStands f m → FolderStands g m
stands_same f g m same stands = record {
  fold = stands.fold;
  means = means_same f g (store stands.fold) same stands.means;
  number = stands.number;
  live = stands.live;
  batches = stands.batches;
  held = subst (ReadsAs (sizes_of stands.fold) stands.batches) (sym (same (Log stands.number))) stands.held;
  state_is = stands.state_is;
}

pub bad_log_same : (f g : Folder) (number at : ℕ) → ((n : FileName) → g n ≡ f n) → IsBadLog f number at → IsBadLog g number at
bad_log_same f g number at same bad = record {
  fold = bad.fold;
  means = means_same f g (store bad.fold) same bad.means;
  live = bad.live;
  bad = subst (λ (c : Image). IsBadLogFile (sizes_of bad.fold) c at) (sym (same (Log number))) bad.bad;
}
