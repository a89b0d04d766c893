-- What opening a folder as a store finds, and what it leaves.
use Rattle.std.specs.Prelude.{◌≡◌, ◌≢◌, ℕ, ◌+◌, ◌<◌, ◌≤◌, List, [], ◌∷◌, ◌++◌, length, map, Some, IsTrue, ⊤, Result, Ok, Err}
use Rattle.ts_key.specs.declared.limits.TheConstants.{SEQUENCE_LIMIT}
use Rattle.udt_disk.specs.Crash.{Image, Only}
use Rattle.udt_disk.specs.Joint.{Folder}
use Rattle.udt_disk.specs.Moments.{IsClean}
use Rattle.udt_disk.specs.declared.name.FileName.{FileName}
use Rattle.udt_disk.specs.declared.name.FileName.TheVariants.{Log}
use Rattle.udt_disk.specs.declared.file.DiskFile as file
use Rattle.udt_disk.specs.declared.disk.Disk as disk
use Rattle.wal.specs.declared.numbered.Numbered.{Numbered}
use Rattle.wal.specs.declared.wal.Wal.{Wal}
use Rattle.wal.specs.Replays.{ReadsAs, LogHolds}
use Rattle.wal.specs.Sequences.{next_sequence, IsNextSequence}
use Rattle.wal.specs.Wals.{wal_file, wal_sizes, IsWalOf, Holds}
use Rattle.head_manifest.specs.declared.fold.Folded.{Folded}
use Rattle.head_manifest.specs.Folders.{Means, chosen}
use Rattle.head_manifest.specs.Folders.Meaning.{store}
use Rattle.head_manifest.specs.Manifest.{manifest_file, Shows, Rests}
use Rattle.plain_recovery.specs.Stores.{head_of, versions_of, last_of, sizes_of, state_of}
use Rattle.plain_recovery.specs.Fault.{IsBadLogFile}
use Rattle.plain_recovery.specs.declared.fault.OpenFault.{OpenFault}
use Rattle.plain_recovery.specs.declared.fault.OpenFault.TheVariants.{NoStore, BadManifest, BadLog, DiskFault, NoMemory}
use Rattle.plain_recovery.specs.declared.opening.Parts.{Parts}
use Rattle.plain_recovery.specs.declared.said.Said.{Said}

-- this is what a fold and the batches of its live log say
pub record IsSaid (fold : Folded) (batches : List Numbered) (said : Said) : Type 0 where
  pub heads : said.heads.items ≡ map head_of fold.families
  pub versions : said.versions.items ≡ versions_of batches
  pub last : said.last.0 ≡ last_of fold.last.0 batches
  pub within : said.last.0 < SEQUENCE_LIMIT + 1
  pub next : IsNextSequence (next_sequence batches) (said.last.0 + 1)

-- why a log in a file isn't replayed
abbrev pub RefusesFile : List ℕ → ℕ → List ℕ → OpenFault → Type 0
RefusesFile sizes number bytes NoStore = ⊥
RefusesFile sizes number bytes (BadManifest at) = ⊥
RefusesFile sizes number bytes (BadLog n at) = (n ≡ number) × IsBadLogFile sizes (Some bytes) at
RefusesFile sizes number bytes DiskFault = ⊤
RefusesFile sizes number bytes NoMemory = ⊤

-- why the live log of a fold isn't opened
abbrev pub RefusesLog : Folded → ℕ → Folder → OpenFault → Type 0
RefusesLog fold number folder NoStore = ⊥
RefusesLog fold number folder (BadManifest at) = ⊥
RefusesLog fold number folder (BadLog n at) = (n ≡ number) × IsBadLogFile (sizes_of fold) (folder (Log number)) at
RefusesLog fold number folder DiskFault = ⊤
RefusesLog fold number folder NoMemory = ⊤

module _ {F : Type 0} {g : file.Ghosts F} where
  -- the files that an answer holds
  abbrev pub files_taken : {E : Type 0} → Result (Wal F g × Said) E → List F
  files_taken (Ok taken) = wal_file taken.0 ∷ []
  files_taken (Err e) = []

-- What the file holds is a log of batches, and this is what they say. The log rests where the file rested.
pub record IsReplayed {F : Type 0} (g : file.Ghosts F) (fold : Folded) (old : F) (wal : Wal F g) (said : Said) : Type 0 where
  pub batches : List Numbered
  pub shown : IsWalOf g wal batches []
  pub held : LogHolds (sizes_of fold) batches (g.seen old)
  pub said_is : IsSaid fold batches said
  pub rests : Only (g.seen old) (g.may_leave old) → Holds g wal batches []

module _ {D F : Type 0} (d : disk.Ghosts D F) (f : file.Ghosts F) where
  -- The live log of a fold is held. What stood under its name is a log of batches, and this is what they say.
  pub record IsTaken (old : D) (fold : Folded) (number : ℕ) (wal : Wal F f) (said : Said) : Type 0 where
    pub batches : List Numbered
    pub shown : IsWalOf f wal batches []
    pub name : f.name (wal_file wal) ≡ Log number
    pub held : ReadsAs (sizes_of fold) batches (d.stands old (Log number))
    pub said_is : IsSaid fold batches said
    pub rests : ((c : Image) → d.may_leave old (Log number) c → c ≡ d.stands old (Log number)) → Holds f wal batches []

-- The folder was opened as a store, as it stood: its manifest and its live log are held, and what they say is told. Where a crash
-- left nothing else, both rest.
pub record IsOpened {D F : Type 0} (d : disk.Ghosts D F) (f : file.Ghosts F) (old : D) (parts : Parts D F f) : Type 0 where
  pub fold : Folded
  pub means : Means (d.stands old) (store fold)
  pub number : ℕ
  pub live : fold.logs ≡ number ∷ []
  pub batches : List Numbered
  -- the manifest
  pub manifest_name : f.name (manifest_file parts.manifest) ≡ chosen (d.stands old)
  pub manifest_stood : d.stands old (chosen (d.stands old)) ≡ Some (f.seen (manifest_file parts.manifest))
  pub shows : Shows f parts.manifest fold
  pub manifest_rests : IsClean d old → Rests f parts.manifest fold
  -- the live log
  pub name : f.name (wal_file parts.wal) ≡ Log number
  pub stood : d.stands old (Log number) ≡ Some (f.seen (wal_file parts.wal))
  pub apart : f.name (manifest_file parts.manifest) ≢ f.name (wal_file parts.wal)
  pub sizes : wal_sizes parts.wal ≡ sizes_of fold
  pub held : ReadsAs (sizes_of fold) batches (d.stands old (Log number))
  pub shown : IsWalOf f parts.wal batches []
  pub rests : IsClean d old → Holds f parts.wal batches []
  -- what they say
  pub heads : parts.heads.items ≡ map head_of fold.families
  pub versions : parts.versions.items ≡ (state_of fold batches).versions
  pub last : parts.last ≡ (state_of fold batches).last

-- the disk that an answer hands back
abbrev pub disk_after : {D F : Type 0} {f : file.Ghosts F} → Result (Parts D F f) (D × OpenFault) → D
disk_after (Ok parts) = parts.disk
disk_after (Err e) = e.0
