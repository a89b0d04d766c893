-- A folder stands for one state at most, which is that of a store opened there.
use Rattle.std.proofs.Common.{◌≡◌, ◌≢◌, ℕ, ◌≤◌, List, [], ◌∷◌, length, refl, sym, ap, ◌∙◌, subst, arith}
use Rattle.std.specs.Prelude.{map, Some, None}
use Rattle.std.proofs.lemmas.List.{length-map}
use Rattle.ts_key.specs.declared.numbers.Seq.{Seq}
use Rattle.ts_key.specs.declared.version.Version.{Version}
use Rattle.udt_disk.specs.Crash.{Image}
use Rattle.udt_disk.specs.Joint.{Folder}
use Rattle.udt_disk.specs.declared.name.FileName.TheVariants.{Log}
use Rattle.udt_disk.specs.declared.file.DiskFile as file
use Rattle.udt_disk.specs.declared.disk.Disk as disk
use Rattle.udt_model.specs.declared.line.FamilyHead.{FamilyHead}
use Rattle.udt_model.specs.State.{State, unflushed}
use Rattle.wal.specs.declared.numbered.Numbered.{Numbered}
use Rattle.wal.specs.Replays.{ReadsAs}
use Rattle.wal.proofs.Logs.{log_holds_one}
use Rattle.head_manifest.specs.declared.fold.Folded.{Folded}
use Rattle.head_manifest.specs.declared.fold.FamilyFold.{FamilyFold}
use Rattle.head_manifest.specs.Folders.{Means}
use Rattle.head_manifest.specs.Folders.Meaning.{store}
use Rattle.plain_recovery.specs.Stores.{FolderStands, head_of, sizes_of, state_of}
use Rattle.plain_recovery.specs.Opening.{IsOpened}
use Rattle.plain_recovery.specs.declared.opening.Parts.{Parts}
use Rattle.plain_recovery.proofs.OpeningLemmas.{means_usable}
use Rattle.plain_recovery.proofs.OneRefusal.{fold_once, live_once}

few_sizes : (folder : Folder) (fold : Folded) → Means folder (store fold) → length (sizes_of fold) ≤ 16
few_sizes folder fold means =
    let size : FamilyFold → ℕ = λ f. 8 in
    omega (arith, length-map fold.families size, (means_usable folder fold means).1.few)

read_once : (sizes : List ℕ) (as_one as_other : List Numbered) (image : Image) → length sizes ≤ 16 → ReadsAs sizes as_one image → ReadsAs sizes as_other image → as_one ≡ as_other
read_once sizes as_one as_other None few one other = absurd one
read_once sizes as_one as_other (Some bytes) few one other = log_holds_one sizes as_one as_other bytes few one other

batches_once : (folder : Folder) (a b : Folded) (m n : ℕ) (as_one as_other : List Numbered) → a ≡ b → m ≡ n → Means folder (store a) → ReadsAs (sizes_of a) as_one (folder (Log m)) → ReadsAs (sizes_of b) as_other (folder (Log n)) → as_one ≡ as_other
batches_once folder a b m n as_one as_other fold number means one other =
    read_once (sizes_of a) as_one as_other (folder (Log m)) (few_sizes folder a means) one
    (subst (λ (x : Folded). ReadsAs (sizes_of x) as_other (folder (Log m))) (sym fold) (subst (λ (k : ℕ). ReadsAs (sizes_of b) as_other (folder (Log k))) (sym number) other))

-- a folder stands for one state at most
pub one_state : (folder : Folder) (m n : State) → FolderStands folder m → FolderStands folder n → m ≡ n
one_state folder m n one other =
    let fold : one.fold ≡ other.fold = fold_once folder one.fold other.fold one.means other.means in
    let number : one.number ≡ other.number = live_once one.fold other.fold one.number other.number fold one.live other.live in
    let batches : one.batches ≡ other.batches = batches_once folder one.fold other.fold one.number other.number one.batches other.batches fold number one.means one.held other.held in
    one.state_is ∙ ap (λ (x : Folded). state_of x one.batches) fold ∙ ap (state_of other.fold) batches ∙ sym other.state_is

-- ---- folders that are opened

abbrev with_state : List FamilyHead → List Version → Seq → State
with_state heads versions last = unflushed heads versions last None

-- a folder that was opened stands for what is told of it
pub opened_stands : {D F : Type 0} (d : disk.Ghosts D F) (f : file.Ghosts F) (old : D) (parts : Parts D F f) → IsOpened d f old parts → FolderStands (d.stands old) (unflushed parts.heads.items parts.versions.items parts.last None)
opened_stands d f old parts opened =
    let m : State = state_of opened.fold opened.batches in
    let heads : List FamilyHead = map head_of opened.fold.families in
    record {
      fold = opened.fold;
      means = opened.means;
      number = opened.number;
      live = opened.live;
      batches = opened.batches;
      held = opened.held;
      state_is = ap (λ (heads : List FamilyHead). with_state heads parts.versions.items parts.last) opened.heads ∙ ap (λ (versions : List Version). with_state heads versions parts.last) opened.versions ∙ ap (with_state heads m.versions) opened.last;
    }
