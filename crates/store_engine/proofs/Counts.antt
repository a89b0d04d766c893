-- Counts of faults that are added up.
use Rattle.std.proofs.Common.{◌≡◌, ℕ, ◌+◌, ◌-◌, ◌^◌, ◌≤◌, min, Result, Ok, Err, ap, subst, arith}
use Rattle.udt_disk.specs.Causes.{HasCause, plus_faults}

grows : (most a x y : ℕ) → x ≤ y → min (a + x) most ≤ min (a + y) most
grows most a x y low = omega arith

grows_more : (most a x y : ℕ) → min (x + 1) most ≤ y → min (min (a + x) most + 1) most ≤ min (a + y) most
grows_more most a x y low = omega arith

swapped : (most a b : ℕ) → min (a + b) most ≡ min (b + a) most
swapped most a b = omega arith

-- a cause in the one count is one in the sum
cause_right : {T E : Type 0} (a x y : ℕ) (result : Result T E) → HasCause x y result → HasCause (plus_faults a x) (plus_faults a y) result
cause_right a x y (Ok t) cause = record { later = grows (2 ^ 64 - 1) a x y cause.later; failed = tt; kept = ap (plus_faults a) cause.kept }
cause_right a x y (Err e) cause = record { later = grows (2 ^ 64 - 1) a x y cause.later; failed = grows_more (2 ^ 64 - 1) a x y cause.failed; kept = tt }

pub cause_left : {T E : Type 0} (a x y : ℕ) (result : Result T E) → HasCause x y result → HasCause (plus_faults x a) (plus_faults y a) result
cause_left a x y result cause =
    subst (λ n. HasCause n (plus_faults y a) result) (swapped (2 ^ 64 - 1) a x) (subst (λ n. HasCause (plus_faults a x) n result) (swapped (2 ^ 64 - 1) a y) (cause_right a x y result cause))

-- of three counts the second may rise
pub cause_second : {T E : Type 0} (a x y b : ℕ) (result : Result T E) → HasCause x y result → HasCause (plus_faults (plus_faults a x) b) (plus_faults (plus_faults a y) b) result
cause_second a x y b result cause = cause_left b (plus_faults a x) (plus_faults a y) result (cause_right a x y result cause)

-- or the third
pub cause_third : {T E : Type 0} (a x y : ℕ) (result : Result T E) → HasCause x y result → HasCause (plus_faults a x) (plus_faults a y) result
cause_third a x y result cause = cause_right a x y result cause

-- the faults of a disk that takes a file back, beside two others
pub more_faults : (most a w k g : ℕ) → min (min (min (a + g) most + w) most + k) most ≡ min (min (min (a + w) most + k) most + g) most
more_faults most a w k g = omega arith
