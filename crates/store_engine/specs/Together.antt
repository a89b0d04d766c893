-- What the manifest and the log of an engine have in common, whether or not the disk tells what it holds.
use Rattle.std.specs.Prelude.{◌≡◌, ℕ, ◌≤◌}
use Rattle.udt_disk.specs.declared.file.DiskFile.{Ghosts}
use Rattle.udt_disk.specs.declared.name.FileName.TheVariants.{Log}
use Rattle.wal.specs.declared.wal.Wal.{Wal}
use Rattle.wal.specs.Wals.{IsWalReady, wal_file, wal_sizes}
use Rattle.manifest_fold.specs.declared.limits.TheConstants.{FILE_NUMBER_LIMIT}
use Rattle.manifest_edit.specs.declared.edit.Edit.{Edit}
use Rattle.manifest_fold.specs.Folds.{fold_with, newest_log}
use Rattle.manifest.specs.declared.manifest.Manifest.{Manifest}
use Rattle.manifest.specs.Folders.{IsManifestName}
use Rattle.manifest.specs.Folds.{sizes_of}
use Rattle.manifest.specs.Manifest.{IsManifestReady, manifest_file, manifest_folded}
use Rattle.engine_laws.specs.Manifests.{IsWell}
use Rattle.recovery.specs.Replayed.{IsLogName}

-- the files are held under the names of a manifest and of a log
pub record AreNamed {F : Type 0} {g : Ghosts F} (manifest : Manifest F g) (wal : Wal F g) : Type 0 where
  pub of_manifest : IsManifestName (g.name (manifest_file manifest))
  pub of_log : IsLogName (g.name (wal_file wal))

-- The log is the newest that the manifest names, and both may go on. The number of the next file isn't below the manifest's.
pub record AreTogether {F : Type 0} {g : Ghosts F} (manifest : Manifest F g) (wal : Wal F g) (next : ℕ) : Type 0 where
  pub well : IsWell (manifest_folded manifest)
  pub name : g.name (wal_file wal) ≡ Log (newest_log (manifest_folded manifest).logs)
  pub sizes : wal_sizes wal ≡ sizes_of (manifest_folded manifest)
  pub edits : IsManifestReady g manifest
  pub log : IsWalReady g wal
  pub more : (manifest_folded manifest).next_file ≤ next
  pub most : next ≤ FILE_NUMBER_LIMIT

-- The edit may be added, which changes no family's size: with it the log is the newest that the manifest names, both may go on, and the
-- number of the next file isn't below the manifest's.
pub record IsReadyFor {F : Type 0} {g : Ghosts F} (manifest : Manifest F g) (wal : Wal F g) (next : ℕ) (edit : Edit) : Type 0 where
  pub well : IsWell (manifest_folded manifest)
  pub name : g.name (wal_file wal) ≡ Log (newest_log (fold_with (manifest_folded manifest) edit).logs)
  pub sizes : wal_sizes wal ≡ sizes_of (manifest_folded manifest)
  pub edits : IsManifestReady g manifest
  pub log : IsWalReady g wal
  pub more : edit.next_file ≤ next
  pub most : next ≤ FILE_NUMBER_LIMIT
