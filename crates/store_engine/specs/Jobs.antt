-- The numbers of the files that jobs write.
use Rattle.std.specs.Prelude.{◌≡◌, ℕ, ◌<◌, false}
use Rattle.udt_disk.specs.declared.file.DiskFile as file
use Rattle.manifest.specs.Manifest.{manifest_folded}
use Rattle.manifest_fold.specs.Folds.{is_live}
use Rattle.store_engine.specs.declared.engine.Engine.{Engine}

-- the number was given, and isn't that of a live table
pub record IsJobNumber {D F : Type 0} {f : file.Ghosts F} (engine : Engine D F f) (number : ℕ) : Type 0 where
  pub given : number < engine.next
  pub free : is_live (manifest_folded engine.manifest).families number ≡ false
