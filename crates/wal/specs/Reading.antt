-- What a fault of a reader of a body tells.
use Rattle.std.specs.Prelude.{ℕ, List, ⊤}
use Rattle.ts_key.specs.Reading.{SpellsNone}
use Rattle.wal.specs.declared.fault.BodyFault.{BodyFault}
use Rattle.wal.specs.declared.fault.BodyFault.TheVariants.{Bad, NoMemory}

-- Bytes are called bad only where nothing that is allowed is spelled there. Want of memory is free.
abbrev pub BodyFaultTells : BodyFault → Type 0 → Type 0
BodyFaultTells Bad none = none
BodyFaultTells NoMemory none = ⊤

abbrev pub IsBodyFault : {V : Type 0} → (V → List ℕ) → (V → Type 0) → List ℕ → BodyFault → Type 0
IsBodyFault spelled Allowed bytes fault = BodyFaultTells fault (SpellsNone spelled Allowed bytes)
