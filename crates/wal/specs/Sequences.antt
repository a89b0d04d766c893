-- The sequences of batches: each batch goes on where the one before it ends.
use Rattle.std.specs.Prelude.{◌≡◌, ℕ, ◌+◌, ◌≤◌, List, [], ◌∷◌, length, Option, Some, None, IfSome, ⊤}
use Rattle.wal.specs.declared.numbered.Numbered.{Numbered}
use Rattle.ts_key.specs.declared.limits.TheConstants.{SEQUENCE_LIMIT}

-- one above the batch's last sequence
abbrev pub sequence_after : Numbered → ℕ
sequence_after numbered = numbered.first.0 + length numbered.batch

-- the sequence that comes next, where there is a batch
abbrev pub next_sequence : List Numbered → Option ℕ
next_sequence [] = None
next_sequence (numbered ∷ []) = Some (sequence_after numbered)
next_sequence (numbered ∷ other ∷ batches) = next_sequence (other ∷ batches)

-- a batch may follow here: anything where there is no batch before it
abbrev pub IsNextSequence : Option ℕ → ℕ → Type 0
IsNextSequence next first = IfSome next (λ n. first ≡ n)

-- the batches go on without a gap from here
abbrev pub GoesOn : Option ℕ → List Numbered → Type 0
GoesOn next [] = ⊤
GoesOn next (numbered ∷ batches) = IsNextSequence next numbered.first.0 × GoesOn (Some (sequence_after numbered)) batches

-- from the second batch on, each first sequence is one above the last of the batch before
abbrev pub IsInSequence : List Numbered → Type 0
IsInSequence batches = GoesOn None batches

-- the batch's last sequence is at most the greatest
abbrev pub IsNumberedWithin : Numbered → Type 0
IsNumberedWithin numbered = sequence_after numbered ≤ SEQUENCE_LIMIT + 1
