-- What making a store leaves of a folder.
use Rattle.std.specs.Prelude.{◌≡◌, ◌⊎◌, ℕ, List, [], ◌∷◌, ◌++◌, IsTrue, Some, None}
use Rattle.udt_disk.specs.Crash.{Image, Only}
use Rattle.udt_disk.specs.Joint.{Folder}
use Rattle.udt_disk.specs.declared.name.FileName.{FileName}
use Rattle.udt_disk.specs.declared.name.FileName.TheVariants.{Manifest0, Manifest1, Current, Made}
use Rattle.udt_disk.specs.declared.file.DiskFile as file
use Rattle.udt_disk.specs.declared.disk.Disk as disk
use Rattle.gate_log.specs.Frames.{framed}
use Rattle.udt_model.specs.declared.line.FamilyHead.{FamilyHead}
use Rattle.head_manifest.specs.declared.manifest.Manifest.{Manifest}
use Rattle.head_manifest.specs.Heads.{head_text}
use Rattle.head_manifest.specs.Folds.{fold_of}
use Rattle.head_manifest.specs.Folders.{Means, chosen_by}
use Rattle.head_manifest.specs.Folders.Meaning.{no_store, store}
use Rattle.head_manifest.specs.Manifest.{manifest_file, Rests}

-- the manifest of a new store: its head as the one frame, and a closed gate
abbrev pub new_manifest : List FamilyHead → List ℕ
new_manifest families = framed (head_text families ∷ []) ++ 90 ∷ []

-- the names that it touches before the manifest is on the disk
abbrev pub IsEarlyName : FileName → Type 0
IsEarlyName n = (n ≡ Current) ⊎ (n ≡ Manifest0)

-- the names that it touches
abbrev pub IsStoreName : FileName → Type 0
IsStoreName n = IsEarlyName n ⊎ (n ≡ Made)

-- the names of the files that a reader opens
abbrev pub IsReadName : FileName → Type 0
IsReadName n = IsStoreName n ⊎ (n ≡ Manifest1)

-- a file emptied, where it is there
abbrev pub emptied : Image → Image
emptied None = None
emptied (Some bytes) = Some []

module _ {D F : Type 0} (d : disk.Ghosts D F) where
  -- There is no store, and none comes back: a crash leaves no `MADE`, and no `CURRENT` where none stands. So it is where there
  -- is none in a folder that was just opened.
  pub record IsUnmade (disk : D) : Type 0 where
    pub told : IsTrue (d.is_told disk)
    pub made : (c : Image) → d.may_leave disk Made c → c ≡ None
    pub current : d.stands disk Current ≡ None → (c : Image) → d.may_leave disk Current c → c ≡ None

  -- There is no store, or all of it. Under the names that making it doesn't touch stands what might have stood there before.
  pub record IsNoneOrAll (start : D) (families : List FamilyHead) (folder : Folder) : Type 0 where
    pub store : Means folder no_store ⊎ Means folder (store (fold_of families))
    pub others : (n : FileName) → ¬ IsStoreName n → d.may_leave start n (folder n)

-- all of the store is there, and its manifest is held: it rests, `CURRENT` is empty where it was there before and chooses no
-- other, and `MADE` is on the disk
pub record IsMade {D F : Type 0} (d : disk.Ghosts D F) (f : file.Ghosts F) (old disk : D) (manifest : Manifest F f) (families : List FamilyHead) : Type 0 where
  pub name : f.name (manifest_file manifest) ≡ Manifest0
  pub rests : Rests f manifest (fold_of families)
  pub bytes : f.seen (manifest_file manifest) ≡ new_manifest families
  pub current : d.stands disk Current ≡ emptied (d.stands old Current)
  pub chosen : chosen_by (d.stands disk Current) ≡ Manifest0
  pub made : d.stands disk Made ≡ Some []
  pub durable : Only [] (d.may_leave disk Made)
