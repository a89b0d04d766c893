-- Files that a compaction draws.
use Rattle.std.specs.Prelude.{◌≡◌, ℕ, ◌+◌, ◌<◌, ◌≤◌, IsTrue, List, [], ◌∷◌}
use Rattle.std.specs.List.{AllByRecursion}
use Rattle.udt_disk.specs.declared.file.DiskFile as file
use Rattle.udt_disk.specs.declared.name.FileName.TheVariants.{Table}
use Rattle.super_version.specs.Jobs.{MayGive}
use Rattle.super_version.specs.declared.jobs.JobFiles.{Ghosts}
use Rattle.super_version.specs.declared.jobs.Output.{Output}

-- what was given before is still given, and the files that are given are of one kind
pub record StillGives {J F : Type 0} (g : Ghosts J F) (old new : J) : Type 0 where
  pub still : g.above old ≤ g.above new
  pub others : (n : ℕ) → n < g.above old → IsTrue (g.gave old n) → IsTrue (g.gave new n)
  pub told : g.is_told new ≡ g.is_told old
  pub model : g.keeps_model new ≡ g.keeps_model old

-- their numbers ascend, from one number on and below another
abbrev pub AreOutputsNumbered : {F : Type 0} → ℕ → ℕ → List (Output F) → Type 0
AreOutputsNumbered low high [] = low ≤ high
AreOutputsNumbered low high (o ∷ os) = (low ≤ o.number) × AreOutputsNumbered (o.number + 1) high os

-- the file of this number was drawn, and none was given back: whatever was given before is still given, whichever number it has
pub record IsDrawn {J F : Type 0} (g : Ghosts J F) (old new : J) (number : ℕ) : Type 0 where
  pub given : MayGive (g.halted new) (g.next_number new) number
  pub low : g.above old ≤ number
  pub high : number < g.above new
  pub gave : IsTrue (g.gave new number)
  pub others : (n : ℕ) → IsTrue (g.gave old n) → IsTrue (g.gave new n)
  pub faults : g.faults new ≡ g.faults old
  pub told : g.is_told new ≡ g.is_told old
  pub model : g.keeps_model new ≡ g.keeps_model old

-- their files were drawn, one after another, and no others
abbrev pub AreDrawn : {J F : Type 0} → Ghosts J F → J → J → List (Output F) → Type 0
AreDrawn g old new [] = new ≡ old
AreDrawn {J} g old new (o ∷ os) = (next : J) × IsDrawn g old next o.number × AreDrawn g next new os

-- its file was given under its number, and has never failed
pub record IsOutputHeld {J F : Type 0} (g : Ghosts J F) (f : file.Ghosts F) (files : J) (o : Output F) : Type 0 where
  pub name : f.name o.file ≡ Table o.number
  pub gave : IsTrue (g.gave files o.number)
  pub faults : f.faults o.file ≡ 0

abbrev pub AreHeld : {J F : Type 0} → Ghosts J F → file.Ghosts F → J → List (Output F) → Type 0
AreHeld g f files outs = AllByRecursion (IsOutputHeld g f files) outs
