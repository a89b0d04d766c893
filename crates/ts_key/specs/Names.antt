-- Which bytes are a name.
use Rattle.std.specs.Prelude.{◌≡◌, ℕ, Bool, false, nat_le, nat_lt, ◌==◌, ◌&&◌, ◌||◌, if◌then◌else◌, List, length, IsTrue}
use Rattle.std.specs.List.{list_all}
use Rattle.ts_key.specs.declared.name.NameFault.{NameFault}
use Rattle.ts_key.specs.declared.name.NameFault.TheVariants.{Bad, NoMemory}

abbrev pub is_between : ℕ → ℕ → ℕ → Bool
is_between low high b = nat_le low b && nat_le b high

-- a to z, 0 to 9, _
abbrev pub is_name_byte : ℕ → Bool
is_name_byte b = is_between 97 122 b || is_between 48 57 b || b == 95

-- 1 to 32 bytes of a to z, 0 to 9 and _
abbrev pub is_name : List ℕ → Bool
is_name word = if length word == 0 || nat_lt 32 (length word) then false else list_all is_name_byte word

-- bytes may be refused so: for their grammar, or where they are a name for want of memory
abbrev pub IsNameFault : List ℕ → NameFault → Type 0
IsNameFault word Bad = is_name word ≡ false
IsNameFault word NoMemory = IsTrue (is_name word)
