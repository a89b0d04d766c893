-- A lock on a word of a table: 0 where it is free, 1 where it is taken, and 2 where a thread may sleep until it is free.
use Rattle.std.specs.Prelude.{◌≡◌, ◌≢◌, ◌==◌, ℕ}
use mathlib.Core.Option.{none}
use prog.Atomic.{either}
use Rattle.atomic_table.specs.Table.{State, Me, Step, step, Allows}

module _ {S V : Type 0} where
  -- A seat may try the lock and wait for it. A step tells it what `then` says of the word that it found; one that found the
  -- lock taken leaves the seat as it was.
  pub record MayLock (holds : State S V → Type 0) (slots word id : ℕ) (me : Me S V) (then : Step S → Me S V → ℕ → Me S V → Type 0) : Type 0 where
    pub tries : Allows holds slots id me word (λ n. either (n == 0) 1 n) (then (step slots word 0 1 none) me)
    pub waits : Allows holds slots id me word (λ _. 2) (then (step slots word 2 0 none) me)
    pub missed : (st : Step S) (n : ℕ) (after : Me S V) → n ≢ 0 → then st me n after → after ≡ me

  -- a step found the lock free and took it
  pub record HasLocked (before after : Me S V) (then : Step S → Me S V → ℕ → Me S V → Type 0) : Type 0 where
    pub made : Step S
    pub told : then made before 0 after

  -- a step freed the lock
  pub record HasUnlocked (before after : Me S V) (then : Step S → Me S V → ℕ → Me S V → Type 0) : Type 0 where
    pub made : Step S
    pub found : ℕ
    pub told : then made before found after
