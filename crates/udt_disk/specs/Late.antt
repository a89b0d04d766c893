-- The files that were given back once their count stood at its end.
use Rattle.std.specs.Prelude.{ℕ, ◌+◌, cond}
use Rattle.udt_disk.specs.Names.{same_name}
use Rattle.udt_disk.specs.declared.name.FileName.{FileName}
use Rattle.udt_disk.specs.declared.directory.Late.{Late, Never, After'}

-- how many files were given back once the count stood at its end
abbrev pub late_long : Late → ℕ
late_long Never = 0
late_long (After' name p before) = late_long before + 1

-- how many were once that of this name was, if it was not before the count stood at its end
abbrev pub late_since : Late → ℕ → ℕ → FileName → ℕ
late_since Never returns first n = first
late_since (After' name p before) returns first n = cond (same_name name n) (returns + late_long before + 1) (late_since before returns first n)
