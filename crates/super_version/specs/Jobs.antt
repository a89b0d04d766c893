-- Where a job gets files, and why it gets none.
use Rattle.std.specs.Prelude.{◌≡◌, ℕ, ◌^◌, ◌<◌, ⊤, Bool, true, false, Option, Some, None}
use Rattle.super_version.specs.declared.jobs.JobCause.{JobCause}
use Rattle.super_version.specs.declared.jobs.JobCause.TheVariants.{Fault, Memory, Files, Halted}

abbrev pub is_fault : JobCause → Bool
is_fault Fault = true
is_fault Memory = false
is_fault (Files next) = false
is_fault (Halted since) = false

-- a file of this number is given, by the halt mark and the next number that were seen
abbrev pub MayGive : Option ℕ → ℕ → ℕ → Type 0
MayGive None next number = (number ≡ next) × (number < 2 ^ 63)
MayGive (Some since) next number = ⊥

-- none is given, for this cause
abbrev pub MayRefuse : Option ℕ → ℕ → JobCause → Type 0
MayRefuse halt next Memory = ⊤
MayRefuse halt next (Halted since) = halt ≡ Some since
MayRefuse halt next (Files n) = (halt ≡ None) × (n ≡ next) × (next ≡ 2 ^ 63)
MayRefuse halt next Fault = (halt ≡ None) × (next < 2 ^ 63)
