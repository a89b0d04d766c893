-- What batches add to what was gathered.
use Rattle.std.proofs.Common.{◌≡◌, ℕ, zero, suc, ◌+◌, ◌-◌, ◌<◌, Bool, true, false, cond, List, [], ◌∷◌, ◌++◌, length, take, get_or, Option, Some, sym, ap, ◌∙◌, arith, append_assoc, append-nil}
use Rattle.std.specs.Prelude.{slice_get}
use Rattle.std.proofs.lemmas.List.{take_more, length-take-le}
use Rattle.std.proofs.lemmas.List.Elements.{filter-append}
use Rattle.ts_key.specs.declared.batch.WriteOp.{WriteOp}
use Rattle.ts_key.specs.declared.version.Version.{Version}
use Rattle.udt_model.specs.Versions.{logged}
use Rattle.wal.specs.declared.numbered.Numbered.{Numbered}
use Rattle.wal.specs.Sequences.{sequence_after}
use Rattle.manifest_fold.specs.declared.fold.FamilyFold.{FamilyFold}
use Rattle.engine_laws.specs.Logs.{versions_of}
use Rattle.engine_laws.proofs.Batches.{versions_append}
use Rattle.recovery.specs.Replayed.{is_over, is_unflushed, next_behind, above_through}

-- the version that an operation makes
abbrev pub version_at : WriteOp → ℕ → Version
version_at op n = record { family = op.family; key = op.key; ts = op.ts; seq = record { 0 = n }; op = op.op }

logged_push : (n : ℕ) (ops : List WriteOp) (op : WriteOp) → logged n (ops ++ op ∷ []) ≡ logged n ops ++ version_at op (n + length ops) ∷ []
logged_push n [] op = ap (λ (k : ℕ). version_at op k ∷ []) (omega arith)
logged_push n (o ∷ ops) op =
    let place : n + 1 + length ops ≡ n + length (o ∷ ops) = omega arith in
    ap (λ (vs : List Version). version_at o n ∷ vs) (logged_push (n + 1) ops op ∙ ap (λ (k : ℕ). logged (n + 1) ops ++ version_at op k ∷ []) place)

-- the test of one operation more decides on its version
one_more : (families : List FamilyFold) (old : List Version) (first : ℕ) (ops : List WriteOp) (i : ℕ) (op : WriteOp) (n : ℕ) → i < length ops → op ≡ get_or ops i op → n ≡ first + i
    → old ++ above_through families (logged first (take (i + 1) ops)) ≡ (old ++ above_through families (logged first (take i ops))) ++ cond (is_over (slice_get families op.family.0) n) (version_at op n ∷ []) []
one_more families old first ops i op n within is at =
    let place : first + length (take i ops) ≡ n = omega (arith, at, length-take-le i ops (omega (arith, within))) in
    let front : take (i + 1) ops ≡ take i ops ++ op ∷ [] = take_more ops i op within ∙ ap (λ (o : WriteOp). take i ops ++ o ∷ []) (sym is) in
    let made : logged first (take (i + 1) ops) ≡ logged first (take i ops) ++ version_at op n ∷ [] = ap (logged first) front ∙ logged_push first (take i ops) op ∙ ap (λ (k : ℕ). logged first (take i ops) ++ version_at op k ∷ []) place in
    ap (λ (vs : List Version). old ++ above_through families vs) made ∙ ap (λ (vs : List Version). old ++ vs) (filter-append (is_unflushed families) (logged first (take i ops)) (version_at op n ∷ []))
    ∙ sym (append_assoc old (above_through families (logged first (take i ops))) (cond (is_over (slice_get families op.family.0) n) (version_at op n ∷ []) []))

pub unflushed_kept : (families : List FamilyFold) (old mid new : List Version) (first : ℕ) (ops : List WriteOp) (i : ℕ) (op : WriteOp) (n : ℕ) (v : Version) → i < length ops → op ≡ get_or ops i op → n ≡ first + i
    → mid ≡ old ++ above_through families (logged first (take i ops)) → is_over (slice_get families op.family.0) n ≡ true → v ≡ version_at op n → new ≡ mid ++ v ∷ [] → new ≡ old ++ above_through families (logged first (take (i + 1) ops))
unflushed_kept families old mid new first ops i op n v within is at so_far over made more =
    more ∙ ap (λ (vs : List Version). vs ++ v ∷ []) so_far ∙ ap (λ (x : Version). (old ++ above_through families (logged first (take i ops))) ++ x ∷ []) made
    ∙ sym (one_more families old first ops i op n within is at ∙ ap (λ (b : Bool). (old ++ above_through families (logged first (take i ops))) ++ cond b (version_at op n ∷ []) []) over)

pub unflushed_left : (families : List FamilyFold) (old mid : List Version) (first : ℕ) (ops : List WriteOp) (i : ℕ) (op : WriteOp) (n : ℕ) → i < length ops → op ≡ get_or ops i op → n ≡ first + i
    → mid ≡ old ++ above_through families (logged first (take i ops)) → is_over (slice_get families op.family.0) n ≡ false → mid ≡ old ++ above_through families (logged first (take (i + 1) ops))
unflushed_left families old mid first ops i op n within is at so_far under =
    so_far ∙ sym (one_more families old first ops i op n within is at ∙ ap (λ (b : Bool). (old ++ above_through families (logged first (take i ops))) ++ cond b (version_at op n ∷ []) []) under
    ∙ append-nil (old ++ above_through families (logged first (take i ops))))

-- one batch more
pub unflushed_batch : (families : List FamilyFold) (old mid new : List Version) (batches : List Numbered) (i : ℕ) (b : Numbered) → i < length batches → b ≡ get_or batches i b → mid ≡ old ++ above_through families (versions_of (take i batches))
    → new ≡ mid ++ above_through families (logged b.first.0 b.batch) → new ≡ old ++ above_through families (versions_of (take (i + 1) batches))
unflushed_batch families old mid new batches i b within is so_far more =
    let front : take (i + 1) batches ≡ take i batches ++ b ∷ [] = take_more batches i b within ∙ ap (λ (x : Numbered). take i batches ++ x ∷ []) (sym is) in
    let made : versions_of (take (i + 1) batches) ≡ versions_of (take i batches) ++ logged b.first.0 b.batch = ap versions_of front ∙ versions_append (take i batches) (b ∷ []) ∙ ap (λ (vs : List Version). versions_of (take i batches) ++ vs) (append-nil (logged b.first.0 b.batch)) in
    more ∙ ap (λ (vs : List Version). vs ++ above_through families (logged b.first.0 b.batch)) so_far ∙ append_assoc old (above_through families (versions_of (take i batches))) (above_through families (logged b.first.0 b.batch))
    ∙ ap (λ (vs : List Version). old ++ vs) (sym (filter-append (is_unflushed families) (versions_of (take i batches)) (logged b.first.0 b.batch))) ∙ ap (λ (vs : List Version). old ++ above_through families vs) (sym made)

-- what comes behind the last batch
pub next_at_last : (next : Option ℕ) (batches : List Numbered) (n : ℕ) (b : Numbered) → n + 1 ≡ length batches → slice_get batches n ≡ Some b → next_behind next batches ≡ Some (sequence_after b)
next_at_last next [] n b len is = absurd (omega (arith, len))
next_at_last next (a ∷ []) zero b len is = let same : a ≡ b = cc in ap (λ (x : Numbered). Some (sequence_after x)) same
next_at_last next (a ∷ []) (suc n) b len is = absurd (omega (arith, len))
next_at_last next (a ∷ c ∷ batches) zero b len is = absurd (omega (arith, len))
next_at_last next (a ∷ c ∷ batches) (suc n) b len is = next_at_last (Some (sequence_after a)) (c ∷ batches) n b (omega (arith, len)) is

pub some_len : (batches : List Numbered) (b : Numbered) → slice_get batches (length batches - 1) ≡ Some b → suc (length batches - 1) ≡ length batches
some_len [] b is = absurd cc
some_len (a ∷ batches) b is = omega arith
