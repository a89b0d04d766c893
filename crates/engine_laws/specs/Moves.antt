-- What a crash may leave of a folder at one moment, name by name, and what a step of the engine does to it.
use Rattle.std.specs.Prelude.{◌≡◌, ◌≢◌, ℕ, List, [], Contains, Option, Some, None, ⊤}
use Rattle.ts_key.specs.declared.numbers.Family.{Family}
use Rattle.udt_disk.specs.Crash.{Image}
use Rattle.udt_disk.specs.Joint.{Folder}
use Rattle.udt_disk.specs.declared.name.FileName.{FileName}
use Rattle.udt_disk.specs.declared.name.FileName.TheVariants.{Manifest0, Manifest1, Current, Made, Log, Table}
use Rattle.wal.specs.declared.numbered.Numbered.{Numbered}
use Rattle.wal.specs.Replays.{ReadsAs, IsBeforeOrAfter}
use Rattle.udt_model.specs.State.{State}
use Rattle.manifest_edit.specs.declared.edit.TableAt.{TableAt}
use Rattle.manifest_edit.specs.declared.edit.FamilyEdit.{FamilyEdit}
use Rattle.manifest_edit.specs.declared.edit.Edit.{Edit}
use Rattle.manifest_fold.specs.declared.fold.FamilyFold.{FamilyFold}
use Rattle.manifest_fold.specs.declared.fold.Folded.{Folded}
use Rattle.manifest_fold.specs.Folds.{fold_with}
use Rattle.manifest.specs.Files.{HasFold, IsEditImage}
use Rattle.manifest.specs.Folders.{chosen_by}
use Rattle.manifest.specs.Folds.{sizes_of}
use Rattle.engine_laws.specs.Manifests.{IsLive}
use Rattle.engine_laws.specs.Standing.{Grammar, Says, StandsForSome, TableReads}
use Rattle.engine_laws.specs.Engine.{newest_log_of}

-- what a crash may leave under each name
abbrev pub Images : Type 1
Images = FileName → Image → Type 0

-- a crash may leave this folder
abbrev pub AreImages : Images → Folder → Type 0
AreImages images folder = (n : FileName) → images n (folder n)

-- each folder that a crash may leave stands for a state of this kind
abbrev pub IsSafe : Grammar → Images → (State → Type 0) → Type 0
IsSafe g images Is = (folder : Folder) → AreImages images folder → StandsForSome g folder Is

-- ---- names

-- a table of this number is live
abbrev pub IsLiveTable : Folded → ℕ → Type 0
IsLiveTable fold n = (family : Family) × (f : FamilyFold) × (t : TableAt) × IsLive fold family f t × (t.number ≡ n)

-- the name is live: the store's marks, its manifest, and the logs and tables of its fold
abbrev pub IsLiveName : FileName → Folded → FileName → Type 0
IsLiveName manifest fold Manifest0 = manifest ≡ Manifest0
IsLiveName manifest fold Manifest1 = manifest ≡ Manifest1
IsLiveName manifest fold Current = ⊤
IsLiveName manifest fold Made = ⊤
IsLiveName manifest fold (Log n) = Contains fold.logs n
IsLiveName manifest fold (Table n) = IsLiveTable fold n

-- ---- the files rest

-- a crash leaves of the log of this number what it says
abbrev pub LogRests : Images → Says → ℕ → Type 0
LogRests images s n = (c : Image) → images (Log n) c → ReadsAs (sizes_of s.fold) (s.logs n) c

abbrev pub TableRests : Grammar → Images → Says → ℕ → Type 0
TableRests g images s n = (c : Image) → images (Table n) c → TableReads g c (s.tables n)

abbrev pub ManifestRests : Images → FileName → Folded → Type 0
ManifestRests images manifest fold = (c : Image) → images manifest c → HasFold c fold

-- the store is made, and its manifest is the one of this name: no call of an engine touches the marks that say so
pub record Chosen (images : Images) (manifest : FileName) : Type 0 where
  pub made : (c : Image) → images Made c → c ≢ None
  pub chooses : (c : Image) → images Current c → chosen_by c ≡ manifest

-- of each live file a crash leaves what it says
pub record Rests (g : Grammar) (images : Images) (manifest : FileName) (s : Says) : Type 0 where
  pub chosen : Chosen images manifest
  pub manifests : ManifestRests images manifest s.fold
  pub logs : (n : ℕ) → Contains s.fold.logs n → LogRests images s n
  pub tables : (family : Family) (f : FamilyFold) (t : TableAt) → IsLive s.fold family f t → TableRests g images s t.number

-- ---- steps

-- a step on files of these names: under every other name a crash leaves nothing new
abbrev pub TouchesOnly : (FileName → Type 0) → Images → Images → Type 0
TouchesOnly IsTouched old new = (n : FileName) → ¬ IsTouched n → (c : Image) → new n c → old n c

abbrev pub TouchesOne : FileName → Images → Images → Type 0
TouchesOne name old new = TouchesOnly (λ n. n ≡ name) old new

-- none of these names is live
abbrev pub AreDead : FileName → Folded → (FileName → Type 0) → Type 0
AreDead manifest fold IsTouched = (n : FileName) → IsTouched n → ¬ IsLiveName manifest fold n

-- while the newest log is synced: what was there, or all that waited behind it
pub record Syncing (s : Says) (waiting : List Numbered) (old new : Images) : Type 0 where
  pub touches : TouchesOne (Log (newest_log_of s)) old new
  pub either : (c : Image) → new (Log (newest_log_of s)) c → IsBeforeOrAfter (sizes_of s.fold) (s.logs (newest_log_of s)) waiting c

-- while an edit is appended: the fold before it, or with it
pub record Appending (manifest : FileName) (s : Says) (edit : Edit) (old new : Images) : Type 0 where
  pub touches : TouchesOne manifest old new
  pub either : (c : Image) → new manifest c → IsEditImage s.fold edit c

-- the tables that an edit adds
abbrev pub added_tables : Option FamilyEdit → List TableAt
added_tables None = []
added_tables (Some e) = e.add

-- all that is live with the edit rests already
pub record IsEditReady (g : Grammar) (images : Images) (s : Says) (edit : Edit) : Type 0 where
  pub logs : (n : ℕ) → Contains (fold_with s.fold edit).logs n → LogRests images s n
  pub tables : (family : Family) (f : FamilyFold) (t : TableAt) → IsLive (fold_with s.fold edit) family f t → TableRests g images s t.number
