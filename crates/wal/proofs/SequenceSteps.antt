-- Tests of sequences, batch by batch.
use Rattle.std.proofs.Common.{◌≡◌, ℕ, zero, suc, ◌+◌, ◌-◌, ◌<◌, List, [], ◌∷◌, length, drop, get_or, Option, Some, sym, ap, ◌∙◌, arith, subst, drop-cons}
use Rattle.std.specs.Prelude.{slice_get}
use Rattle.wal.specs.Sequences.{sequence_after, next_sequence, IsNextSequence, GoesOn}
use Rattle.wal.specs.declared.numbered.Numbered.{Numbered}

-- whether the batches go on is decided by those that are left
pub record IsAsFor (next wanted : Option ℕ) (all left : List Numbered) : Type 0 where
  pub to_all : GoesOn wanted left → GoesOn next all
  pub to_left : GoesOn next all → GoesOn wanted left

left_at : (all : List Numbered) (i : ℕ) (b : Numbered) → i < length all → b ≡ get_or all i b → drop i all ≡ b ∷ drop (i + 1) all
left_at all i b within item =
    let next : suc i ≡ i + 1 = omega arith in
    drop-cons all i b within ∙ ap (λ (x : Numbered). x ∷ drop (suc i) all) (sym item) ∙ ap (λ (n : ℕ). b ∷ drop n all) next

pub as_for_more : (next wanted : Option ℕ) (all : List Numbered) (i : ℕ) (b : Numbered) (n : ℕ) → i < length all → b ≡ get_or all i b → IsNextSequence wanted b.first.0 → n ≡ sequence_after b → IsAsFor next wanted all (drop i all) → IsAsFor next (Some n) all (drop (i + 1) all)
as_for_more next wanted all i b n within item here behind so_far =
    let left = left_at all i b within item in
    record {
      to_all = λ goes. so_far.to_all (subst (GoesOn wanted) (sym left) (here, subst (λ (m : ℕ). GoesOn (Some m) (drop (i + 1) all)) behind goes));
      to_left = λ goes. subst (λ (m : ℕ). GoesOn (Some m) (drop (i + 1) all)) (sym behind) (subst (GoesOn wanted) left (so_far.to_left goes)).1;
    }

pub as_for_stop : (next wanted : Option ℕ) (all : List Numbered) (i : ℕ) (b : Numbered) → i < length all → b ≡ get_or all i b → (IsNextSequence wanted b.first.0 → ⊥) → IsAsFor next wanted all (drop i all) → GoesOn next all → ⊥
as_for_stop next wanted all i b within item other so_far goes = other (subst (GoesOn wanted) (left_at all i b within item) (so_far.to_left goes)).0

pub next_at_last : (batches : List Numbered) (n : ℕ) (b : Numbered) → suc n ≡ length batches → slice_get batches n ≡ Some b → next_sequence batches ≡ Some (sequence_after b)
next_at_last [] n b len is = absurd (omega arith)
next_at_last (a ∷ []) zero b len is = ap (λ (x : Numbered). Some (sequence_after x)) (cc)
next_at_last (a ∷ []) (suc n) b len is = absurd (omega arith)
next_at_last (a ∷ c ∷ batches) zero b len is = absurd (omega arith)
next_at_last (a ∷ c ∷ batches) (suc n) b len is = next_at_last (c ∷ batches) n b (omega arith) is

pub some_len : (batches : List Numbered) (b : Numbered) → slice_get batches (length batches - 1) ≡ Some b → suc (length batches - 1) ≡ length batches
some_len [] b is = absurd (cc)
some_len (a ∷ batches) b is = omega arith
