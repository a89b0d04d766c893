-- What a manifest shows.
use Rattle.std.specs.Prelude.{ℕ, List, [], ◌∷◌, Option, Some, None, Result, Ok, Err}
use Rattle.udt_disk.specs.declared.file.DiskFile.{Ghosts}
use Rattle.gate_log.specs.GateLog.{IsLogOf, IsAtRest}
use Rattle.gate_log.specs.GateLog as gate
use Rattle.head_manifest.specs.declared.manifest.Manifest.{Manifest}
use Rattle.head_manifest.specs.declared.fold.Folded.{Folded}
use Rattle.head_manifest.specs.Folds.{IsManifest}

module _ {F : Type 0} {g : Ghosts F} where
  -- the file that the manifest holds
  abbrev pub manifest_file : Manifest F g → F
  manifest_file manifest = gate.log_file manifest.log

  -- the files that an answer holds
  abbrev pub files_made : {E : Type 0} → Result (Manifest F g) E → List F
  files_made (Ok manifest) = manifest_file manifest ∷ []
  files_made (Err e) = []

  abbrev pub files_read : {E : Type 0} → Result (Option (Manifest F g × Folded)) E → List F
  files_read (Ok None) = []
  files_read (Ok (Some read)) = manifest_file read.0 ∷ []
  files_read (Err e) = []

-- what reads of its file give are frames that mean this fold
pub record Shows {F : Type 0} (g : Ghosts F) (manifest : Manifest F g) (fold : Folded) : Type 0 where
  pub bodies : List (List ℕ)
  pub log : IsLogOf g manifest.log bodies
  pub means : IsManifest bodies fold

-- the same, and a crash leaves nothing else
pub record Rests {F : Type 0} (g : Ghosts F) (manifest : Manifest F g) (fold : Folded) : Type 0 where
  pub bodies : List (List ℕ)
  pub log : IsAtRest g manifest.log bodies
  pub means : IsManifest bodies fold
