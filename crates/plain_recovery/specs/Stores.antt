-- What a folder stands for.
use Rattle.std.specs.Prelude.{◌≡◌, ℕ, ◌+◌, ◌-◌, List, [], ◌∷◌, ◌++◌, length, map, None}
use Rattle.ts_key.specs.declared.version.Version.{Version}
use Rattle.udt_disk.specs.Joint.{Folder}
use Rattle.udt_disk.specs.declared.name.FileName.TheVariants.{Log}
use Rattle.udt_model.specs.declared.line.FamilyHead.{FamilyHead}
use Rattle.udt_model.specs.Versions.{logged}
use Rattle.udt_model.specs.State.{State, unflushed}
use Rattle.wal.specs.declared.numbered.Numbered.{Numbered}
use Rattle.wal.specs.Replays.{ReadsAs}
use Rattle.head_manifest.specs.declared.fold.FamilyFold.{FamilyFold}
use Rattle.head_manifest.specs.declared.fold.Folded.{Folded}
use Rattle.head_manifest.specs.Folders.{Means}
use Rattle.head_manifest.specs.Folders.Meaning.{store}

-- the versions that batches make
abbrev pub versions_of : List Numbered → List Version
versions_of [] = []
versions_of (b ∷ batches) = logged b.first.0 b.batch ++ versions_of batches

-- the last sequence of batches, or this one where there is none
abbrev pub last_of : ℕ → List Numbered → ℕ
last_of last [] = last
last_of last (b ∷ batches) = last_of (b.first.0 + length b.batch - 1) batches

-- a family of a manifest as a transcript's header has it
abbrev pub head_of : FamilyFold → FamilyHead
head_of f = record { name = f.name; form = f.form; floor = f.floor }

-- the size of the timestamps of each family
abbrev pub sizes_of : Folded → List ℕ
sizes_of fold = map (λ f. 8) fold.families

-- The state that a manifest's fold and the batches of its live log stand for. Until there are tables every version is in the
-- log.
abbrev pub state_of : Folded → List Numbered → State
state_of fold batches = unflushed (map head_of fold.families) (versions_of batches) (record { 0 = last_of fold.last.0 batches }) None

-- The folder stands for this state: its manifest has a fold, its live log holds batches, and the state is theirs.
pub record FolderStands (folder : Folder) (m : State) : Type 0 where
  pub fold : Folded
  pub means : Means folder (store fold)
  pub number : ℕ
  pub live : fold.logs ≡ number ∷ []
  pub batches : List Numbered
  pub held : ReadsAs (sizes_of fold) batches (folder (Log number))
  pub state_is : m ≡ state_of fold batches
