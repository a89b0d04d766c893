-- Counts of faults: they never fall, and end at 2^64 - 1.
use Rattle.std.specs.Prelude.{◌≡◌, ℕ, ◌+◌, ◌-◌, ◌^◌, ◌≤◌, Bool, true, false, min, Result, OnOk, OnErr}

-- the count with n more faults
abbrev pub plus_faults : ℕ → ℕ → ℕ
plus_faults count n = min (count + n) (2 ^ 64 - 1)

-- the count rose, or stands at its end
abbrev pub Rose : ℕ → ℕ → Type 0
Rose before now = plus_faults before 1 ≤ now

-- a call that answers Err has its cause in the count, and one that answers Ok leaves the count as it was
pub record HasCause {T E : Type 0} (before now : ℕ) (result : Result T E) : Type 0 where
  pub later : before ≤ now
  pub failed : OnErr result (Rose before now)
  pub kept : OnOk result (now ≡ before)

-- a fault that is the disk's comes only where the count rose; any other leaves the count as it was
abbrev pub IsCause : Bool → ℕ → ℕ → Type 0
IsCause true before now = Rose before now
IsCause false before now = now ≡ before
