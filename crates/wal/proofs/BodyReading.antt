-- What reading one body tells, and what a log with one body more holds.
use Rattle.std.proofs.Common.{◌≡◌, ◌==◌, ℕ, ◌<◌, ◌≤◌, Bool, true, List, [], ◌∷◌, ◌++◌, length, take, drop, sym, ap, ◌∙◌, arith, subst}
use Rattle.std.specs.Prelude.{All, IsErrAnd}
use Rattle.std.specs.declared.alloc.Global.{Global}
use Rattle.std.specs.List.{flat_map}
use Rattle.std.proofs.lemmas.List.{length-append, append_cancel_left, take-append-drop}
use Rattle.std.proofs.Math.Seq.{take-append_seam}
use Rattle.wal.specs.Records.{batch_bytes, IsLoggedBatch}
use Rattle.wal.specs.Bodies.{front_bytes, IsBodyOf, is_first_behind, HoldsBatches, AreBatches, ReadsBody, AddsBody}
use Rattle.wal.specs.Sequences.{next_sequence, GoesOn}
use Rattle.wal.proofs.Fronts.{never_whole}
use Rattle.wal.proofs.Batches.{batch_same, batch_some}
use Rattle.wal.specs.declared.numbered.Numbered.{Numbered}
use Rattle.std.proofs.Common.{Option, Result, Ok, Err, Vec, vec_len}
use Rattle.ts_key.specs.Reading.{SpellsNone}
use Rattle.wal.specs.declared.fault.BodyFault.{BodyFault}
use Rattle.wal.specs.declared.fault.BodyFault.TheVariants.{Bad, NoMemory}
use Rattle.wal.proofs.Bodies.{bodies_some, holds_push, no_body, no_sequence}

-- what a front leaves
pub stripped : (front bytes rest : List ℕ) → take (length front) bytes ≡ front → rest ≡ drop (length front) bytes → bytes ≡ front ++ rest
stripped front bytes rest begins behind =
    sym (take-append-drop (length front) bytes) ∙ ap (λ (xs : List ℕ). xs ++ drop (length front) bytes) begins ∙ ap (λ (xs : List ℕ). front ++ xs) (sym behind)

pub begins_otherwise : (front bytes : List ℕ) → (take (length front) bytes ≡ front → ⊥) → (rest : List ℕ) → bytes ≡ front ++ rest → ⊥
begins_otherwise front bytes other rest is = other (ap (take (length front)) is ∙ take-append_seam front rest)

-- what reading records to their end tells of a fault
pub batches_fault : (families : ℕ) (bytes : List ℕ) (r : Result (Vec Numbered Global) BodyFault) (fault : BodyFault) → IsErrAnd r (λ y. y ≡ fault) → (fault ≡ Bad → (batches : List Numbered) → All (IsLoggedBatch families) batches → bytes ≡ flat_map batch_bytes batches → ⊥) → AreBatches families bytes r
batches_fault families bytes (Ok x) fault is none = absurd is
batches_fault families bytes (Err Bad) fault is none = none (sym is)
batches_fault families bytes (Err NoMemory) fault is none = tt

pub batches_stop : (families : ℕ) (batches : List Numbered) (bytes mid : List ℕ) → families ≤ 16 → All (IsLoggedBatch families) batches × (bytes ≡ flat_map batch_bytes batches ++ mid) → 0 < length mid → SpellsNone batch_bytes (IsLoggedBatch families) mid
    → (others : List Numbered) → All (IsLoggedBatch families) others → bytes ≡ flat_map batch_bytes others → ⊥
batches_stop families batches bytes mid few so_far goes_on none others allowed is =
    never_whole batch_bytes (IsLoggedBatch families) (batch_same families few) batch_some batches mid so_far.0 goes_on none others allowed (sym so_far.1 ∙ is)

-- the records of a body, behind its front
pub no_records : (sizes : List ℕ) (is_first : Bool) (body records : List ℕ) → body ≡ front_bytes sizes is_first ++ records → length records ≡ 0 → (batches : List Numbered) → IsBodyOf sizes is_first batches body → ⊥
no_records sizes is_first body records front none batches is =
    let same = append_cancel_left (front_bytes sizes is_first) records (flat_map batch_bytes batches) (sym front ∙ is.spelled) in
    nothing batches is.some (sym (ap length same) ∙ none)
  where
    nothing : (batches : List Numbered) → 0 < length batches → length (flat_map batch_bytes batches) ≡ 0 → ⊥
    nothing [] some none = omega arith
    nothing (b ∷ batches) some none = omega (arith, batch_some b, length-append (batch_bytes b) (flat_map batch_bytes batches))

pub body_read : (sizes : List ℕ) (is_first : Bool) (body records : List ℕ) (families : ℕ) (r : Result (Vec Numbered Global) BodyFault) → body ≡ front_bytes sizes is_first ++ records → families ≡ length sizes → 0 < length records → AreBatches families records r → ReadsBody sizes is_first body r
body_read sizes is_first body records families (Ok batches) front count some read = record {
  some = there batches.items (subst (λ (bs : List ℕ). 0 < length bs) read.1 some);
  allowed = subst (λ (n : ℕ). All (IsLoggedBatch n) batches.items) count read.0;
  spelled = front ∙ ap (λ (bs : List ℕ). front_bytes sizes is_first ++ bs) read.1;
}
  where
    there : (batches : List Numbered) → 0 < length (flat_map batch_bytes batches) → 0 < length batches
    there [] some = some
    there (b ∷ batches) some = omega arith
body_read sizes is_first body records families (Err Bad) front count some read = λ batches is. read batches (subst (λ (n : ℕ). All (IsLoggedBatch n) batches) (sym count) is.allowed) (append_cancel_left (front_bytes sizes is_first) records (flat_map batch_bytes batches) (sym front ∙ is.spelled))
body_read sizes is_first body records families (Err NoMemory) front count some read = tt

-- a body that adds no batches
pub adds_fault : (sizes : List ℕ) (bodies : List (List ℕ)) (body : List ℕ) (batches : List Numbered) (r : Result (Unit {0}) BodyFault) (fault : BodyFault) → IsErrAnd r (λ y. y ≡ fault) → (fault ≡ Bad → (others : List Numbered) → HoldsBatches sizes (bodies ++ body ∷ []) others → ⊥) → AddsBody sizes bodies body batches r
adds_fault sizes bodies body batches (Ok x) fault is none = absurd is
adds_fault sizes bodies body batches (Err Bad) fault is none = none (sym is)
adds_fault sizes bodies body batches (Err NoMemory) fault is none = tt

-- whether the next frame is the first, by the batches so far
first_is : (sizes : List ℕ) (bodies : List (List ℕ)) (bs : List Numbered) (is_first : Bool) → HoldsBatches sizes bodies bs → is_first ≡ (length bs == 0) → is_first ≡ is_first_behind bodies
first_is sizes bodies bs is_first held is = is ∙ sym (bodies_some sizes bodies bs true held.held)

pub adds_none : (sizes : List ℕ) (bodies : List (List ℕ)) (bs : List Numbered) (body : List ℕ) (is_first : Bool) (fault : BodyFault) → length sizes ≤ 16 → HoldsBatches sizes bodies bs → is_first ≡ (length bs == 0) → ReadsBody sizes is_first body (Err fault) → fault ≡ Bad → (others : List Numbered) → HoldsBatches sizes (bodies ++ body ∷ []) others → ⊥
adds_none sizes bodies bs body is_first fault few held is read bad =
    let none = subst (λ (f : BodyFault). ReadsBody sizes is_first body (Err f)) bad read in
    no_body sizes bodies bs body few held (λ here spelled. none here (subst (λ (g : Bool). IsBodyOf sizes g here body) (sym (first_is sizes bodies bs is_first held is)) spelled))

pub adds_out_of_sequence : (sizes : List ℕ) (bodies : List (List ℕ)) (bs here : List Numbered) (body : List ℕ) (is_first : Bool) (next : Option ℕ) → length sizes ≤ 16 → HoldsBatches sizes bodies bs → is_first ≡ (length bs == 0) → IsBodyOf sizes is_first here body → next ≡ next_sequence bs → (GoesOn next here → ⊥) → (others : List Numbered) → HoldsBatches sizes (bodies ++ body ∷ []) others → ⊥
adds_out_of_sequence sizes bodies bs here body is_first next few held is spelled next_is other =
    no_sequence sizes bodies bs here body few held (subst (λ (g : Bool). IsBodyOf sizes g here body) (first_is sizes bodies bs is_first held is) spelled) (λ goes. other (subst (λ (n : Option ℕ). GoesOn n here) (sym next_is) goes))

pub adds_all : (sizes : List ℕ) (bodies : List (List ℕ)) (bs here new : List Numbered) (body : List ℕ) (is_first : Bool) (next : Option ℕ) → HoldsBatches sizes bodies bs → is_first ≡ (length bs == 0) → IsBodyOf sizes is_first here body → next ≡ next_sequence bs → GoesOn next here → new ≡ bs ++ here → HoldsBatches sizes (bodies ++ body ∷ []) new
adds_all sizes bodies bs here new body is_first next held is spelled next_is goes added =
    subst (HoldsBatches sizes (bodies ++ body ∷ [])) (sym added) (holds_push sizes bodies bs here body held (subst (λ (g : Bool). IsBodyOf sizes g here body) (first_is sizes bodies bs is_first held is) spelled) (subst (λ (n : Option ℕ). GoesOn n here) next_is goes))

pub first_is_empty : (batches : Vec Numbered Global) (r : Bool) → r ≡ (vec_len batches == 0) → r ≡ (length batches.items == 0)
first_is_empty batches r is =
    let len : vec_len batches ≡ length batches.items = omega (arith, batches.ok.0) in
    is ∙ ap (λ (n : ℕ). n == 0) len
