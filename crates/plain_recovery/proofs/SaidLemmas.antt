-- The versions and the last sequence of batches, one batch after another.
use Rattle.std.proofs.Common.{◌≡◌, ℕ, ◌+◌, ◌-◌, ◌<◌, List, [], ◌∷◌, ◌++◌, length, take, map, get_or, Option, Some, refl, sym, ap, ◌∙◌, subst, arith, append_assoc, append-nil}
use Rattle.std.proofs.lemmas.List.{take_more, map-append, length-take-le}
use Rattle.ts_key.specs.declared.batch.WriteOp.{WriteOp}
use Rattle.ts_key.specs.declared.version.Version.{Version}
use Rattle.udt_model.specs.declared.line.FamilyHead.{FamilyHead}
use Rattle.wal.specs.declared.numbered.Numbered.{Numbered}
use Rattle.wal.specs.Sequences.{next_sequence, sequence_after, IsNextSequence}
use Rattle.head_manifest.specs.declared.fold.FamilyFold.{FamilyFold}
use Rattle.udt_model.specs.Versions.{logged}
use Rattle.plain_recovery.specs.Stores.{versions_of, last_of, head_of}

logged_push : (n : ℕ) (ops : List WriteOp) (op : WriteOp) → logged n (ops ++ op ∷ []) ≡ logged n ops ++ logged (n + length ops) (op ∷ [])
logged_push n [] op = ap (λ (k : ℕ). logged k (op ∷ [])) (omega arith)
logged_push n (o ∷ ops) op =
    let place : n + 1 + length ops ≡ n + length (o ∷ ops) = omega arith in
    let first : Version = record { family = o.family; key = o.key; ts = o.ts; seq = record { 0 = n }; op = o.op } in
    ap (λ (vs : List Version). first ∷ vs) (logged_push (n + 1) ops op ∙ ap (λ (k : ℕ). logged (n + 1) ops ++ logged k (op ∷ [])) place)

-- one operation more of a batch
pub logged_more : (first : ℕ) (ops : List WriteOp) (i : ℕ) (op : WriteOp) (n : ℕ) (version : Version) (old mid new : List Version) → i < length ops → op ≡ get_or ops i op → n ≡ first + i → version ∷ [] ≡ logged n (op ∷ [])
    → mid ≡ old ++ logged first (take i ops) → new ≡ mid ++ version ∷ [] → new ≡ old ++ logged first (take (i + 1) ops)
logged_more first ops i op n version old mid new within is at made so_far more =
    let place : n ≡ first + length (take i ops) = omega (arith, length-take-le i ops (omega arith)) in
    let here : version ∷ [] ≡ logged (first + length (take i ops)) (op ∷ []) = made ∙ ap (λ (k : ℕ). logged k (op ∷ [])) place in
    let front : take (i + 1) ops ≡ take i ops ++ op ∷ [] = take_more ops i op within ∙ ap (λ (o : WriteOp). take i ops ++ o ∷ []) (sym is) in
    more ∙ ap (λ (vs : List Version). vs ++ version ∷ []) so_far ∙ append_assoc old (logged first (take i ops)) (version ∷ [])
    ∙ ap (λ (vs : List Version). old ++ (logged first (take i ops) ++ vs)) here ∙ ap (λ (vs : List Version). old ++ vs) (sym (logged_push first (take i ops) op)) ∙ ap (λ (os : List WriteOp). old ++ logged first os) (sym front)

versions_append : (as_one as_other : List Numbered) → versions_of (as_one ++ as_other) ≡ versions_of as_one ++ versions_of as_other
versions_append [] bs = refl
versions_append (a ∷ batches) bs = ap (λ (vs : List Version). logged a.first.0 a.batch ++ vs) (versions_append batches bs) ∙ sym (append_assoc (logged a.first.0 a.batch) (versions_of batches) (versions_of bs))

-- one batch more
pub versions_more : (batches : List Numbered) (i : ℕ) (b : Numbered) (mid new : List Version) → i < length batches → b ≡ get_or batches i b → mid ≡ versions_of (take i batches) → new ≡ mid ++ logged b.first.0 b.batch → new ≡ versions_of (take (i + 1) batches)
versions_more batches i b mid new within is so_far more =
    let front : take (i + 1) batches ≡ take i batches ++ b ∷ [] = take_more batches i b within ∙ ap (λ (n : Numbered). take i batches ++ n ∷ []) (sym is) in
    more ∙ ap (λ (vs : List Version). vs ++ logged b.first.0 b.batch) so_far ∙ ap (λ (vs : List Version). versions_of (take i batches) ++ vs) (sym (append-nil (logged b.first.0 b.batch)))
    ∙ sym (versions_append (take i batches) (b ∷ [])) ∙ ap versions_of (sym front)

-- one family more
pub heads_more : (families : List FamilyFold) (i : ℕ) (f : FamilyFold) (head : FamilyHead) (mid new : List FamilyHead) → i < length families → f ≡ get_or families i f → head ≡ head_of f → mid ≡ map head_of (take i families) → new ≡ mid ++ head ∷ [] → new ≡ map head_of (take (i + 1) families)
heads_more families i f head mid new within is made so_far more =
    let front : take (i + 1) families ≡ take i families ++ f ∷ [] = take_more families i f within ∙ ap (λ (x : FamilyFold). take i families ++ x ∷ []) (sym is) in
    more ∙ ap (λ (hs : List FamilyHead). hs ++ head ∷ []) so_far ∙ ap (λ (h : FamilyHead). map head_of (take i families) ++ h ∷ []) made ∙ sym (map-append head_of (take i families) (f ∷ [])) ∙ ap (map head_of) (sym front)

-- the last sequence is one below the next
pub last_below_next : (last : ℕ) (batches : List Numbered) (n : ℕ) → next_sequence batches ≡ Some n → n - 1 ≡ last_of last batches
last_below_next last [] n is = cc
last_below_next last (b ∷ []) n is = let same : sequence_after b ≡ n = cc in omega arith
last_below_next last (b ∷ c ∷ batches) n is = last_below_next (b.first.0 + length b.batch - 1) (c ∷ batches) n is

-- and what comes next may follow
pub is_next : (batches : List Numbered) (n first : ℕ) → next_sequence batches ≡ Some n → first ≡ n → IsNextSequence (next_sequence batches) first
is_next batches n first is same = subst (λ (next : Option ℕ). IsNextSequence next first) (sym is) same
