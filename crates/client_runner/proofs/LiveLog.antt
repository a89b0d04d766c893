-- Folders that differ in the live log alone mean the same store.
use Rattle.std.proofs.Common.{◌≡◌, ◌≢◌, ℕ, List, [], ◌∷◌, sym, ap, ◌∙◌, subst}
use Rattle.std.specs.Prelude.{Some, None}
use Rattle.udt_disk.specs.Crash.{Image}
use Rattle.udt_disk.specs.Joint.{Folder}
use Rattle.udt_disk.specs.declared.name.FileName.{FileName}
use Rattle.udt_disk.specs.declared.name.FileName.TheVariants.{Current, Log, Made}
use Rattle.udt_model.specs.State.{State}
use Rattle.wal.specs.declared.numbered.Numbered.{Numbered}
use Rattle.wal.specs.Replays.{ReadsAs}
use Rattle.head_manifest.specs.declared.fold.Folded.{Folded}
use Rattle.head_manifest.specs.Files.{HasFold}
use Rattle.head_manifest.specs.Folds.{IsManifest}
use Rattle.head_manifest.specs.Folders.{Means, chosen, chosen_by}
use Rattle.head_manifest.specs.Folders.Meaning.{store}
use Rattle.plain_recovery.specs.Stores.{FolderStands, sizes_of}
use Rattle.plain_recovery.specs.Stores as stores
use Rattle.plain_recovery.proofs.OpeningLemmas.{chosen_isn't_log}

-- they have the same under each name but that of the live log
abbrev pub IsSameBut : ℕ → Folder → Folder → Type 0
IsSameBut number a b = (n : FileName) → n ≢ Log number → b n ≡ a n

means_same_but : (number : ℕ) (a b : Folder) (fold : Folded) → IsSameBut number a b → Means a (store fold) → Means b (store fold)
means_same_but number a b fold same means =
    let chosen_is : chosen b ≡ chosen a = ap chosen_by (same Current (λ e. cc e)) in
    let manifest : b (chosen b) ≡ a (chosen a) = ap b chosen_is ∙ same (chosen a) (chosen_isn't_log a number) in
    ((λ none. means.0 (sym (same Made (λ e. cc e)) ∙ none)), subst (λ (image : Image). HasFold image fold) (sym manifest) means.1)

-- and another log stands for other batches
pub stands_so : (number : ℕ) (a b : Folder) (fold : Folded) (batches : List Numbered) (m : State) → IsSameBut number a b → Means a (store fold) → fold.logs ≡ number ∷ []
    → ReadsAs (sizes_of fold) batches (b (Log number)) → m ≡ stores.state_of fold batches → FolderStands b m
stands_so number a b fold batches m same means live held is =
    record { fold = fold; means = means_same_but number a b fold same means; number = number; live = live; batches = batches; held = held; state_is = is }

manifest_last : (bodies : List (List ℕ)) (fold : Folded) → IsManifest bodies fold → fold.last.0 ≡ 0
manifest_last [] fold means = absurd means
manifest_last (body ∷ []) fold means = ap (λ (x : Folded). x.last.0) means.2
manifest_last (body ∷ next ∷ bodies) fold means = absurd means

file_last : (image : Image) (fold : Folded) → HasFold image fold → fold.last.0 ≡ 0
file_last None fold has = absurd has
file_last (Some bytes) fold has = manifest_last has.0 fold has.2

-- a manifest has the last sequence 0: until there are tables every version is in the log
pub means_last : (folder : Folder) (fold : Folded) → Means folder (store fold) → fold.last.0 ≡ 0
means_last folder fold means = file_last (folder (chosen folder)) fold means.1
