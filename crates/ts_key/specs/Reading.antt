-- What a reader of one part at the front of bytes answers, both ways.
use Rattle.std.specs.Prelude.{◌≡◌, ℕ, List, ◌++◌, Result, Ok, Err}
use Rattle.std.specs.Borrow.{Bor}

-- no allowed value is spelled at the front of these bytes
abbrev pub SpellsNone : {V : Type 0} → (V → List ℕ) → (V → Type 0) → List ℕ → Type 0
SpellsNone {V} spelled Allowed bytes = (v : V) (rest : List ℕ) → Allowed v → bytes ≡ spelled v ++ rest → ⊥

-- The reader took an allowed value that is spelled at the front of the old bytes, and the new ones are behind it; or it
-- failed. `Means` says what an error tells: that no allowed value is spelled there, or nothing, as want of memory.
abbrev pub ReadsFront : {E R V : Type 0} → (E → Type 0 → Type 0) → (R → V) → (V → List ℕ) → (V → Type 0) → List ℕ → List ℕ → Result R E → Type 0
ReadsFront Means view spelled Allowed old new (Ok r) = Allowed (view r) × (old ≡ spelled (view r) ++ new)
ReadsFront Means view spelled Allowed old new (Err e) = Means e (SpellsNone spelled Allowed old)

-- a reader that fails only where no allowed value is spelled
abbrev pub OnlyBad : {E : Type 0} → E → Type 0 → Type 0
OnlyBad e Bad = Bad

-- the bytes begin so, and the rest stands behind; bad ones don't begin so
abbrev pub StandsBehind : {E : Type 0} → (E → Type 0 → Type 0) → List ℕ → List ℕ → Result (Bor (List ℕ)) E → Type 0
StandsBehind Means front bytes (Ok rest) = bytes ≡ front ++ rest.now
StandsBehind Means front bytes (Err e) = Means e ((rest : List ℕ) → bytes ≡ front ++ rest → ⊥)
