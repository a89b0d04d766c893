-- Which calls a trouble makes fail. Its number is that of the call from now on, and 0 once that call is over.
use Rattle.std.specs.Prelude.{◌==◌, ◌&&◌, ◌||◌, ◌-◌, ℕ, Bool, if◌then◌else◌}
use Rattle.udt_disk.specs.Names.{same_name}
use Rattle.udt_disk.specs.declared.name.FileName.{FileName}
use Rattle.udt_disk.specs.declared.trouble.Trouble.{Trouble}

-- the next call on the file of this name is to fail
abbrev pub is_due : FileName → Trouble → Bool
is_due name trouble = same_name trouble.name name && (trouble.call == 1 || trouble.lasting && trouble.call == 0)

-- the trouble after as many calls on the file of this name
abbrev pub counted_by : FileName → ℕ → Trouble → Trouble
counted_by name calls trouble = if same_name trouble.name name then record trouble { call = trouble.call - calls } else trouble
