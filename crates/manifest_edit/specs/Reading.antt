-- What a fault of a reader tells.
use Rattle.std.specs.Prelude.{⊤}
use Rattle.manifest_edit.specs.declared.fault.EditFault.{EditFault}
use Rattle.manifest_edit.specs.declared.fault.EditFault.TheVariants.{Bad, NoMemory}

-- `Bad` tells that there is none; want of memory tells nothing
abbrev pub TellsBad : EditFault → Type 0 → Type 0
TellsBad Bad There_is_none = There_is_none
TellsBad NoMemory There_is_none = ⊤
