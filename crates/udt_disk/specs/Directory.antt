-- What stands under the names of a folder in memory, and what a crash may leave there. Its moment is the count of the files
-- that were given back.
use Rattle.std.specs.Prelude.{◌≡◌, ◌≢◌, ◌⊎◌, ℕ, ◌+◌, ◌≤◌, ◌<◌, Bool, true, false, cond, Option, Some, None}
use Rattle.std.proofs.Common.{inl, inr, arith}
use Rattle.udt_disk.specs.Crash.{Image}
use Rattle.udt_disk.specs.Names.{same_name}
use Rattle.udt_disk.specs.Tree.{entry_named, place_in_entry, early}
use Rattle.udt_disk.specs.Files.{place_stands, PlaceLeaves, place_stays}
use Rattle.udt_disk.specs.declared.name.FileName.{FileName}
use Rattle.udt_disk.specs.declared.tree.Place.{Place}
use Rattle.udt_disk.specs.declared.tree.Place.TheVariants.{Out}
use Rattle.udt_disk.specs.declared.outcome.Outcome.TheVariants.{Lost}
use Rattle.udt_disk.specs.Crashed.{image_before, entry_crash}
use Rattle.udt_disk.specs.declared.directory.Directory.{Directory}
use Rattle.udt_disk.specs.declared.directory.Late.{Late, Never, After'}
use Rattle.udt_disk.specs.Late.{late_long, late_since}

-- the place of a name, if it has one
abbrev pub place_named : Directory → FileName → Option Place
place_named dir n = place_in_entry (entry_named dir.tree n)

-- how many files were given back
abbrev pub long : Directory → ℕ
long dir = dir.returns + late_long dir.late

-- how many files had been given back once that of this name was
abbrev pub since : Directory → FileName → ℕ
since dir n = late_since dir.late dir.returns (early (entry_named dir.tree n)) n

abbrev pub NameLeaves : Directory → FileName → Image → Type 0
NameLeaves dir n c = PlaceLeaves (place_named dir n) c

-- before the file of a name was given back, it may have left anything
abbrev pub NameLeftSince : Directory → ℕ → FileName → Image → Type 0
NameLeftSince dir t n c = NameLeaves dir n c ⊎ (t < since dir n)

-- the name has this place by a file that was given back, and nothing else changed
pub record Put (name : FileName) (place : Place) (old new : Directory) : Type 0 where
  pub there : place_named new name ≡ Some place
  pub others : (n : FileName) → n ≢ name → place_named new n ≡ place_named old n
  pub later : long old < long new
  pub put : since new name ≡ long new
  pub put_others : (n : FileName) → n ≢ name → since new n ≡ since old n

-- the name got another place, and nothing else changed
pub record Moved (name : FileName) (place : Place) (old new : Directory) : Type 0 where
  pub there : place_named new name ≡ Some place
  pub others : (n : FileName) → n ≢ name → place_named new n ≡ place_named old n
  pub same_long : long new ≡ long old
  pub same_since : (n : FileName) → since new n ≡ since old n

-- what stands under a name again where its file is lost
abbrev pub comes_back : Directory → FileName → Image
comes_back dir n = image_before (entry_named dir.tree n)

-- the file of the name is held, and what stood there comes back where that file is lost
pub record Made (name : FileName) (old new : Directory) : Type 0 where
  pub moved : Moved name Out old new
  pub back : comes_back new name ≡ entry_crash Lost (entry_named old.tree name)
  pub back_others : (n : FileName) → n ≢ name → comes_back new n ≡ comes_back old n

-- nothing stands under the name, and a crash leaves nothing there or what it may have left before
pub record Removed (name : FileName) (old new : Directory) : Type 0 where
  pub gone : place_stands (place_named new name) ≡ None
  pub back : (c : Image) → NameLeaves new name c → (c ≡ None) ⊎ NameLeaves old name c
  pub keeps : (c : Image) → NameLeaves old name c → NameLeaves new name c
  pub others : (n : FileName) → n ≢ name → place_named new n ≡ place_named old n
  pub same_long : long new ≡ long old
  pub same_since : (n : FileName) → since new n ≡ since old n

-- nothing changed
pub record Same (old new : Directory) : Type 0 where
  pub all : (n : FileName) → place_named new n ≡ place_named old n
  pub same_long : long new ≡ long old
  pub same_since : (n : FileName) → since new n ≡ since old n

pub name_stays : (dir : Directory) (n : FileName) → NameLeaves dir n (place_stands (place_named dir n))
name_stays dir n = place_stays (place_named dir n)

late_le : (b : Bool) (m k : ℕ) → k ≤ m → cond b (m + 1) k ≤ m + 1
late_le true m k le = omega arith
late_le false m k le = omega (arith, le)

late_since_le : (late : Late) (returns first : ℕ) (n : FileName) → first ≤ returns → late_since late returns first n ≤ returns + late_long late
late_since_le Never returns first n le = omega (arith, le)
late_since_le (After' name p before) returns first n le = omega (arith, late_le (same_name name n) (returns + late_long before) (late_since before returns first n) (late_since_le before returns first n le))

pub since_le : (dir : Directory) (n : FileName) → since dir n ≤ long dir
since_le dir n = late_since_le dir.late dir.returns (early (entry_named dir.tree n)) n (dir.counted n)

pub name_only : (dir : Directory) (n : FileName) (c : Image) → NameLeftSince dir (long dir) n c → NameLeaves dir n c
name_only dir n c (inl now) = now
name_only dir n c (inr past) = absurd (omega (arith, since_le dir n, past))
