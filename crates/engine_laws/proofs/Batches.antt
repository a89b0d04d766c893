-- The versions that batches make, and their sequences.
use Rattle.std.proofs.Common.{◌≡◌, ℕ, ◌+◌, ◌-◌, ◌<◌, ◌≤◌, List, [], ◌∷◌, ◌++◌, length, Some, None, refl, sym, ap, ◌∙◌, subst, arith, inl, inr}
use Rattle.std.specs.Prelude.{All}
use Rattle.std.proofs.lemmas.List.{append_assoc}
use Rattle.std.proofs.lemmas.List.Elements.{All-nil, All-cons, All-head, All-tail}
use Rattle.ts_key.specs.declared.batch.WriteOp.{WriteOp}
use Rattle.ts_key.specs.declared.version.Version.{Version}
use Rattle.udt_model.specs.Versions.{logged}
use Rattle.wal.specs.declared.numbered.Numbered.{Numbered}
use Rattle.wal.specs.Records.{IsLoggedBatch}
use Rattle.wal.specs.Sequences.{sequence_after, GoesOn, IsInSequence}
use Rattle.floor_laws.proofs.Members.{In, In-append, In-left, In-right}
use Rattle.engine_laws.specs.Logs.{versions_of, last_of, last_over, batches_of}

-- each batch begins behind this sequence, and behind the batch before it, and has an operation
abbrev pub Above : ℕ → List Numbered → Type 0
Above e [] = Unit {0}
Above e (b ∷ bs) = (e < b.first.0) × (1 ≤ length b.batch) × Above (b.first.0 + length b.batch - 1) bs

pub above_goes : (k e : ℕ) (bs : List Numbered) → GoesOn (Some (e + 1)) bs → All (IsLoggedBatch k) bs → Above e bs
above_goes k e [] goes all = tt
above_goes k e (b ∷ bs) goes all =
    let one : IsLoggedBatch k b = All-head (IsLoggedBatch k) b bs all in
    let next : sequence_after b ≡ b.first.0 + length b.batch - 1 + 1 = omega (arith, one.some) in
    (omega (arith, goes.0), one.some, above_goes k (b.first.0 + length b.batch - 1) bs (subst (λ (n : ℕ). GoesOn (Some n) bs) next goes.1) (All-tail (IsLoggedBatch k) b bs all))

pub above_sequence : (k : ℕ) (bs : List Numbered) → IsInSequence bs → All (IsLoggedBatch k) bs → Above 0 bs
above_sequence k [] goes all = tt
above_sequence k (b ∷ bs) goes all =
    let one : IsLoggedBatch k b = All-head (IsLoggedBatch k) b bs all in
    let next : sequence_after b ≡ b.first.0 + length b.batch - 1 + 1 = omega (arith, one.some) in
    (omega (arith, one.first), one.some, above_goes k (b.first.0 + length b.batch - 1) bs (subst (λ (n : ℕ). GoesOn (Some n) bs) next goes.1) (All-tail (IsLoggedBatch k) b bs all))

pub last_up : (e : ℕ) (bs : List Numbered) → Above e bs → e ≤ last_of e bs
last_up e [] above = omega arith
last_up e (b ∷ bs) above = omega (arith, above.0, above.1, last_up (b.first.0 + length b.batch - 1) bs above.2)

-- the greater of a sequence and the batches' last is their last, where that is no less
pub last_over_is : (last : ℕ) (bs : List Numbered) → last ≤ last_of last bs → last_over last bs ≡ last_of last bs
last_over_is last [] h = omega arith
last_over_is last (b ∷ bs) h = omega (arith, h)

pub last_append : (e : ℕ) (bs ws : List Numbered) → last_of e (bs ++ ws) ≡ last_of (last_of e bs) ws
last_append e [] ws = refl
last_append e (b ∷ bs) ws = last_append (b.first.0 + length b.batch - 1) bs ws

pub versions_append : (bs ws : List Numbered) → versions_of (bs ++ ws) ≡ versions_of bs ++ versions_of ws
versions_append [] ws = refl
versions_append (b ∷ bs) ws =
    ap (λ (vs : List Version). logged b.first.0 b.batch ++ vs) (versions_append bs ws) ∙ sym (append_assoc (logged b.first.0 b.batch) (versions_of bs) (versions_of ws))

-- ---- where the sequences lie

pub logged-In : (n : ℕ) (ops : List WriteOp) (v : Version) → In v (logged n ops) → (n ≤ v.seq.0) × (v.seq.0 < n + length ops)
logged-In n [] v i = absurd i
logged-In n (op ∷ ops) v (inl q) = let e : n ≡ v.seq.0 = ap (λ (x : Version). x.seq.0) q in (omega arith, omega arith)
logged-In n (op ∷ ops) v (inr i) = let r = logged-In (n + 1) ops v i in (omega (arith, r.0), omega (arith, r.1))

-- versions of batches lie behind the sequence that these begin behind, and up to their last
pub versions-In : (e : ℕ) (bs : List Numbered) (v : Version) → Above e bs → In v (versions_of bs) → (e < v.seq.0) × (v.seq.0 ≤ last_of e bs)
versions-In e [] v above i = absurd i
versions-In e (b ∷ bs) v above i =
    let up = last_up (b.first.0 + length b.batch - 1) bs above.2 in
    elim (In-append v (logged b.first.0 b.batch) (versions_of bs) i) [
      | inl j ↦ let r = logged-In b.first.0 b.batch v j in (omega (arith, r.0, above.0), omega (arith, r.1, up, above.1))
      | inr j ↦ let r = versions-In (b.first.0 + length b.batch - 1) bs v above.2 j in (omega (arith, r.0, above.0, above.1), r.1)
    ]

-- whatever the last sequence is where there is no batch
pub versions_upto : (last : ℕ) (bs : List Numbered) (v : Version) → Above 0 bs → In v (versions_of bs) → v.seq.0 ≤ last_of last bs
versions_upto last [] v above i = absurd i
versions_upto last (b ∷ bs) v above i = (versions-In 0 (b ∷ bs) v above i).1

-- ---- sequences that go on

pub goes_more : (k fl : ℕ) (bs ws : List Numbered) → All (IsLoggedBatch k) bs → GoesOn (Some (fl + 1)) bs → GoesOn (Some (last_of fl bs + 1)) ws → GoesOn (Some (fl + 1)) (bs ++ ws)
goes_more k fl [] ws all one two = two
goes_more k fl (b ∷ bs) ws all one two =
    let some = (All-head (IsLoggedBatch k) b bs all).some in
    let next : b.first.0 + length b.batch - 1 + 1 ≡ sequence_after b = omega (arith, some) in
    (one.0, subst (λ (n : ℕ). GoesOn (Some n) (bs ++ ws)) next (goes_more k (b.first.0 + length b.batch - 1) bs ws (All-tail (IsLoggedBatch k) b bs all) (subst (λ (n : ℕ). GoesOn (Some n) bs) (sym next) one.1) two))

pub goes_free : (n : ℕ) (ws : List Numbered) → GoesOn (Some n) ws → GoesOn None ws
goes_free n [] h = tt
goes_free n (b ∷ bs) h = (tt, h.1)

pub sequence_more : (k fl : ℕ) (bs ws : List Numbered) → All (IsLoggedBatch k) bs → IsInSequence bs → GoesOn (Some (last_of fl bs + 1)) ws → IsInSequence (bs ++ ws)
sequence_more k fl [] ws all one two = goes_free (fl + 1) ws two
sequence_more k fl (b ∷ bs) ws all one two =
    let some = (All-head (IsLoggedBatch k) b bs all).some in
    let next : b.first.0 + length b.batch - 1 + 1 ≡ sequence_after b = omega (arith, some) in
    (tt, subst (λ (n : ℕ). GoesOn (Some n) (bs ++ ws)) next (goes_more k (b.first.0 + length b.batch - 1) bs ws (All-tail (IsLoggedBatch k) b bs all) (subst (λ (n : ℕ). GoesOn (Some n) bs) (sym next) one.1) two))

goes_rest : (n : ℕ) (bs ws : List Numbered) → GoesOn (Some n) (bs ++ ws) → GoesOn None ws
goes_rest n [] ws h = goes_free n ws h
goes_rest n (b ∷ bs) ws h = goes_rest (sequence_after b) bs ws h.1

-- without the first ones
pub sequence_rest : (bs ws : List Numbered) → IsInSequence (bs ++ ws) → IsInSequence ws
sequence_rest [] ws h = h
sequence_rest (b ∷ bs) ws h = goes_rest (sequence_after b) bs ws h.1

-- the last sequence stays where the first ones are left out, and the one where there is none is the last
pub last_rest : (fl : ℕ) (bs ws : List Numbered) → last_of (last_of fl (bs ++ ws)) ws ≡ last_of fl (bs ++ ws)
last_rest fl bs [] = refl
last_rest fl bs (w ∷ ws) = sym (last_append fl bs (w ∷ ws))

-- ---- over logs

pub batches_append : (logs : ℕ → List Numbered) (xs ys : List ℕ) → batches_of logs (xs ++ ys) ≡ batches_of logs xs ++ batches_of logs ys
batches_append logs [] ys = refl
batches_append logs (x ∷ xs) ys = ap (λ z. logs x ++ z) (batches_append logs xs ys) ∙ sym (append_assoc (logs x) (batches_of logs xs) (batches_of logs ys))

pub batches_same : (logs other : ℕ → List Numbered) (ns : List ℕ) → ((n : ℕ) → In n ns → other n ≡ logs n) → batches_of other ns ≡ batches_of logs ns
batches_same logs other [] h = refl
batches_same logs other (n ∷ ns) h = let a = h n (inl refl) in let b = batches_same logs other ns (λ m i. h m (inr i)) in cc

pub batches_none : (logs : ℕ → List Numbered) (ns : List ℕ) → ((n : ℕ) → In n ns → logs n ≡ []) → batches_of logs ns ≡ []
batches_none logs [] h = refl
batches_none logs (n ∷ ns) h = let a = h n (inl refl) in rw a (batches_none logs ns (λ m i. h m (inr i)))

-- a version of the batches of logs is one of some log
pub batches-In : (logs : ℕ → List Numbered) (ns : List ℕ) (v : Version) → In v (versions_of (batches_of logs ns)) → (n : ℕ) × In n ns × In v (versions_of (logs n))
batches-In logs [] v i = absurd i
batches-In logs (n ∷ ns) v i = elim (In-append v (versions_of (logs n)) (versions_of (batches_of logs ns)) (subst (λ z. In v z) (versions_append (logs n) (batches_of logs ns)) i)) [
  | inl j ↦ (n, inl refl, j)
  | inr j ↦ let r = batches-In logs ns v j in (r.0, inr r.1, r.2)
]

pub batches_from : (logs : ℕ → List Numbered) (ns : List ℕ) (n : ℕ) (v : Version) → In n ns → In v (versions_of (logs n)) → In v (versions_of (batches_of logs ns))
batches_from logs [] n v i j = absurd i
batches_from logs (k ∷ ns) n v (inl q) j = subst (λ z. In v z) (sym (versions_append (logs k) (batches_of logs ns))) (In-left v (versions_of (logs k)) (versions_of (batches_of logs ns)) (subst (λ z. In v (versions_of (logs z))) (sym q) j))
batches_from logs (k ∷ ns) n v (inr i) j = subst (λ z. In v z) (sym (versions_append (logs k) (batches_of logs ns))) (In-right v (versions_of (logs k)) (versions_of (batches_of logs ns)) (batches_from logs ns n v i j))

-- ---- each batch of two lists, by each list

pub all_left : (k : ℕ) (bs ws : List Numbered) → All (IsLoggedBatch k) (bs ++ ws) → All (IsLoggedBatch k) bs
all_left k [] ws h = All-nil (IsLoggedBatch k)
all_left k (b ∷ bs) ws h = All-cons (IsLoggedBatch k) b bs (All-head (IsLoggedBatch k) b (bs ++ ws) h) (all_left k bs ws (All-tail (IsLoggedBatch k) b (bs ++ ws) h))

pub all_right : (k : ℕ) (bs ws : List Numbered) → All (IsLoggedBatch k) (bs ++ ws) → All (IsLoggedBatch k) ws
all_right k [] ws h = h
all_right k (b ∷ bs) ws h = all_right k bs ws (All-tail (IsLoggedBatch k) b (bs ++ ws) h)
