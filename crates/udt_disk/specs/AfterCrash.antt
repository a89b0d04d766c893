-- What each outcome of a crash leaves of a folder in memory.
use Rattle.std.specs.Prelude.{◌≡◌, None}
use Rattle.udt_disk.specs.Crash.{Image}
use Rattle.udt_disk.specs.Tree.{entry_named}
use Rattle.udt_disk.specs.Files.{place_stands}
use Rattle.udt_disk.specs.Crashed.{entry_crash}
use Rattle.udt_disk.specs.Directory.{NameLeaves, comes_back, place_named}
use Rattle.udt_disk.specs.declared.name.FileName.{FileName}
use Rattle.udt_disk.specs.declared.outcome.Outcome.{Outcome}
use Rattle.udt_disk.specs.declared.directory.Directory.{Directory}

abbrev pub crash_image : Outcome → Directory → FileName → Image
crash_image outcome dir n = entry_crash outcome (entry_named dir.tree n)

-- what the outcome leaves, and clean: nothing comes back
pub record IsAfterCrash (outcome : Outcome) (old new : Directory) : Type 0 where
  pub stands : (n : FileName) → place_stands (place_named new n) ≡ crash_image outcome old n
  pub only : (n : FileName) (c : Image) → NameLeaves new n c → c ≡ place_stands (place_named new n)
  pub back : (n : FileName) → comes_back new n ≡ None

-- all stands as it did, a crash leaves nothing else, and nothing comes back
pub record IsReopened (old new : Directory) : Type 0 where
  pub stands : (n : FileName) → place_stands (place_named new n) ≡ place_stands (place_named old n)
  pub only : (n : FileName) (c : Image) → NameLeaves new n c → c ≡ place_stands (place_named new n)
  pub back : (n : FileName) → comes_back new n ≡ None
