-- The parts of a store, as an opening gave them.
use Rattle.std.specs.Prelude.{◌≡◌, [], ◌∷◌, IsTrue}
use Rattle.udt_disk.specs.Moments.{OnlyReads, alone, holding}
use Rattle.udt_disk.specs.declared.file.DiskFile as file
use Rattle.udt_disk.specs.declared.disk.Disk as disk
use Rattle.udt_disk.specs.declared.name.FileName.TheVariants.{Log}
use Rattle.wal.specs.declared.wal.Wal.{Wal}
use Rattle.wal.specs.Wals.{wal_file, wal_pending, wal_sizes}
use Rattle.manifest_fold.specs.Folds.{newest_log}
use Rattle.manifest.specs.declared.manifest.Manifest.{Manifest}
use Rattle.manifest.specs.Folders.{IsManifestName}
use Rattle.manifest.specs.Folds.{IsManifestFold, sizes_of}
use Rattle.manifest.specs.Manifest.{IsManifestReady, manifest_file, manifest_folded}
use Rattle.super_version.specs.declared.version.SuperVersion.{SuperVersion}
use Rattle.recovery.specs.Opening.{IsOpenedAs}
use Rattle.recovery.specs.Versions.{FitsFold}
use Rattle.recovery.specs.declared.opening.Parts.{Parts}

abbrev pub parts_of : {D F : Type 0} {f : file.Ghosts F} → D → Manifest F f → Wal F f → SuperVersion → Parts D F f
parts_of disk manifest wal version = record { disk = disk; manifest = manifest; wal = wal; version = version }

-- an opening of this disk gave these parts: each fact is a clause of the opening
pub record ArePartsOf {D F : Type 0} (d : disk.Ghosts D F) (f : file.Ghosts F) (old : D) (parts : Parts D F f) : Type 0 where
  pub opened : IsTrue (d.is_told old) → IsOpenedAs d f old parts
  pub reads : OnlyReads d f (alone old) (holding parts.disk (wal_file parts.wal ∷ manifest_file parts.manifest ∷ []))
  pub folds : IsManifestFold (manifest_folded parts.manifest)
  pub fits : FitsFold (manifest_folded parts.manifest) parts.version
  pub ready : IsManifestReady f parts.manifest
  pub sizes : wal_sizes parts.wal ≡ sizes_of (manifest_folded parts.manifest)
  pub pending : wal_pending parts.wal ≡ 0
  pub wal_name : f.name (wal_file parts.wal) ≡ Log (newest_log (manifest_folded parts.manifest).logs)
  pub manifest_name : IsManifestName (f.name (manifest_file parts.manifest))
  pub wal_told : f.is_told (wal_file parts.wal) ≡ d.is_told old
  pub wal_model : f.keeps_model (wal_file parts.wal) ≡ d.keeps_model old
  pub manifest_told : f.is_told (manifest_file parts.manifest) ≡ d.is_told old
  pub manifest_model : f.keeps_model (manifest_file parts.manifest) ≡ d.keeps_model old
