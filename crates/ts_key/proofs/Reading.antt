-- Readers that hand on what others answer.
use Rattle.std.proofs.Common.{◌≡◌, ℕ, List, length, ◌≤◌, ◌<◌, ap, arith, length-append}
use Rattle.std.specs.Prelude.{Result, Ok, Err, IsErrAnd}
use Rattle.ts_key.specs.Reading.{SpellsNone, ReadsFront, OnlyBad}

module _ {V : Type 0} (spelled : V → List ℕ) (Allowed : V → Type 0) where
  -- an error that tells that nothing is spelled
  pub hands_on : {E R : Type 0} (view : R → V) (old new : List ℕ) (r : Result R E) (e : E) → IsErrAnd r (λ y. y ≡ e) → SpellsNone spelled Allowed old → ReadsFront OnlyBad view spelled Allowed old new r
  hands_on view old new (Ok x) e is none = absurd is
  hands_on view old new (Err y) e is none = none

  -- bytes that are too short for any spelling
  pub short_front : (n : ℕ) (old : List ℕ) → ((v : V) → Allowed v → n ≤ length (spelled v)) → length old < n → SpellsNone spelled Allowed old
  short_front n old least short v rest allowed is =
      absurd (omega (arith, least v allowed, ap length is, length-append (spelled v) rest))
