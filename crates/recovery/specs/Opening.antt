-- What opening a folder as a store finds, and when it is refused.
use Rattle.std.specs.Prelude.{◌≡◌, ℕ, ◌≤◌, List, length, ⊤, Result, Ok, Err}
use Rattle.std.specs.List.Sorted.{IsStrictlyIncreasing}
use Rattle.ts_key.specs.declared.limits.TheConstants.{FAMILY_LIMIT, SEQUENCE_LIMIT}
use Rattle.udt_disk.specs.Crash.{Image}
use Rattle.udt_disk.specs.Joint.{Folder}
use Rattle.udt_disk.specs.declared.name.FileName.{FileName}
use Rattle.udt_disk.specs.declared.file.DiskFile as file
use Rattle.udt_disk.specs.declared.disk.Disk as disk
use Rattle.wal.specs.declared.numbered.Numbered.{Numbered}
use Rattle.wal.specs.Sequences.{IsInSequence}
use Rattle.manifest_fold.specs.declared.fold.Folded.{Folded}
use Rattle.manifest.specs.Folders.{Means, chosen}
use Rattle.manifest.specs.Folders.Meaning.{no_store, bad_at, store}
use Rattle.manifest.specs.Folds.{sizes_of}
use Rattle.manifest.specs.Manifest.{manifest_file, manifest_folded, ShowsFold, FoldRests}
use Rattle.super_version.specs.declared.version.SuperVersion.{SuperVersion}
use Rattle.engine_laws.specs.Logs.{batches_of, last_of, last_over, versions_of}
use Rattle.engine_laws.specs.Moves.{IsLiveName}
use Rattle.recovery.specs.Versions.{ShowsVersion}
use Rattle.recovery.specs.Places.{AreOpened, HasPlaces}
use Rattle.recovery.specs.Refusals.{AreReplayed, IsBadLog, IsBadTable, IsMissingTable}
use Rattle.recovery.specs.Replayed.{IsNewestLog, above_through}
use Rattle.recovery.specs.declared.fault.OpenFault.{OpenFault}
use Rattle.recovery.specs.declared.fault.OpenFault.TheVariants as faults
use Rattle.recovery.specs.declared.opening.Parts.{Parts}
use Rattle.recovery.specs.declared.tables.Opened.{Opened}

-- a fold of which a store can be opened, as that of every manifest is
pub record IsUsable (fold : Folded) : Type 0 where
  pub some : 1 ≤ length fold.families
  pub few : length fold.families ≤ FAMILY_LIMIT
  pub logs : 1 ≤ length fold.logs
  pub ascending : IsStrictlyIncreasing fold.logs
  pub places : HasPlaces fold
  pub last : fold.last.0 ≤ SEQUENCE_LIMIT

-- The super version shows what the files say. The live tables are in order, and are those of the version. The live logs have no gap, and
-- the manifest's last sequence isn't above theirs; the memtables have exactly their versions above each `through`, and the last
-- sequence is the greater of both.
pub record IsShown (folder : Folder) (fold : Folded) (version : SuperVersion) : Type 0 where
  pub opened : List Opened
  pub tables : AreOpened folder fold opened
  pub logs : ℕ → List Numbered
  pub read : AreReplayed (sizes_of fold) folder logs fold.logs
  pub sequence : IsInSequence (batches_of logs fold.logs)
  pub behind : fold.last.0 ≤ last_of fold.last.0 (batches_of logs fold.logs)
  pub shows : ShowsVersion fold opened (above_through fold.families (versions_of (batches_of logs fold.logs))) (record { 0 = last_over fold.last.0 (batches_of logs fold.logs) }) version

-- Under each live name of this fold a crash leaves what stands there, and nothing else. Whatever it leaves under other names doesn't
-- count: a table that no manifest names, say.
abbrev pub AreLiveClean : {D F : Type 0} → disk.Ghosts D F → D → Folded → Type 0
AreLiveClean d disk fold = (n : FileName) (c : Image) → IsLiveName (chosen (d.stands disk)) fold n → d.may_leave disk n c → c ≡ d.stands disk n

-- The folder was opened as a store, as it stood: its manifest and its newest live log are held. Where a crash left nothing else under
-- live names, both rest.
pub record IsOpenedAs {D F : Type 0} (d : disk.Ghosts D F) (f : file.Ghosts F) (old : D) (parts : Parts D F f) : Type 0 where
  pub means : Means (d.stands old) (store (manifest_folded parts.manifest))
  pub shown : IsShown (d.stands old) (manifest_folded parts.manifest) parts.version
  -- the manifest
  pub manifest_name : f.name (manifest_file parts.manifest) ≡ chosen (d.stands old)
  pub manifest_shows : ShowsFold f parts.manifest
  pub manifest_rests : AreLiveClean d old (manifest_folded parts.manifest) → FoldRests f parts.manifest
  -- the newest log
  pub wal : IsNewestLog d f old (manifest_folded parts.manifest) parts.wal

-- why the files of a fold aren't opened
abbrev pub RefusesFiles : Folded → Folder → OpenFault → Type 0
RefusesFiles fold folder faults.NoStore = ⊥
RefusesFiles fold folder (faults.BadManifest at) = ⊥
RefusesFiles fold folder (faults.MissingTable n) = IsMissingTable fold folder n
RefusesFiles fold folder (faults.BadTable n) = IsBadTable fold folder n
RefusesFiles fold folder (faults.BadLog n at) = IsBadLog fold folder n at
RefusesFiles fold folder faults.DiskFault = ⊤
RefusesFiles fold folder faults.NoMemory = ⊤

-- the folder has a store whose fold has this
abbrev pub OfStore : Folder → (Folded → Type 0) → Type 0
OfStore folder Has = (fold : Folded) × Means folder (store fold) × Has fold

-- the folder may be refused so
abbrev pub RefusesOpening : Folder → OpenFault → Type 0
RefusesOpening folder faults.NoStore = Means folder no_store
RefusesOpening folder (faults.BadManifest at) = Means folder (bad_at at)
RefusesOpening folder (faults.MissingTable n) = OfStore folder (λ fold. IsMissingTable fold folder n)
RefusesOpening folder (faults.BadTable n) = OfStore folder (λ fold. IsBadTable fold folder n)
RefusesOpening folder (faults.BadLog n at) = OfStore folder (λ fold. IsBadLog fold folder n at)
RefusesOpening folder faults.DiskFault = ⊤
RefusesOpening folder faults.NoMemory = ⊤

-- the disk that an answer hands back
abbrev pub disk_after : {D F : Type 0} {f : file.Ghosts F} → Result (Parts D F f) (D × OpenFault) → D
disk_after (Ok parts) = parts.disk
disk_after (Err e) = e.0
