-- Whether two names are one.
use Rattle.std.specs.Prelude.{ℕ, Bool, true, false, nat_eq}
use Rattle.udt_disk.specs.declared.name.FileName.{FileName}
use Rattle.udt_disk.specs.declared.name.FileName.TheVariants.{Manifest0, Manifest1, Current, Made, Log, Table}

abbrev pub same_name : FileName → FileName → Bool
same_name Manifest0 Manifest0 = true
same_name Manifest1 Manifest1 = true
same_name Current Current = true
same_name Made Made = true
same_name (Log a) (Log b) = nat_eq a b
same_name (Table a) (Table b) = nat_eq a b
same_name a b = false

-- the number by which a name is looked up
abbrev pub number_of : FileName → ℕ
number_of Manifest0 = 0
number_of Manifest1 = 1
number_of Current = 2
number_of Made = 3
number_of (Log n) = n
number_of (Table n) = n
