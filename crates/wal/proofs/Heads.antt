-- Heads of records, and values behind their lengths, are known by their bytes.
use Rattle.std.proofs.Common.{◌≡◌, ℕ, List, [], ◌∷◌, ◌++◌, length, take, drop, get_or, sym, ap, ◌∙◌, arith, drop-cons}
use Rattle.std.proofs.lemmas.List.{length-append, take-append-drop, drop_all, drop-drop}
use Rattle.ts_key.specs.Numbers.{number_bytes}
use Rattle.wal.specs.Heads.{op_head_bytes, batch_head_bytes, FitsOpHead, FitsBatchHead}
use Rattle.ts_key.proofs.NumberBytes.{number_bytes-unique, length-number_bytes}
use Rattle.wal.proofs.Fronts.{fronts_same}
use Rattle.wal.specs.declared.head.OpHead.{OpHead}
use Rattle.wal.specs.declared.head.BatchHead.{BatchHead}

pub length-op_head : (head : OpHead) → length (op_head_bytes head) ≡ 15
length-op_head head =
    omega (arith, length-append (number_bytes 4 head.family) (head.kind ∷ (number_bytes 8 head.ts ++ number_bytes 2 head.key_len)), length-append (number_bytes 8 head.ts) (number_bytes 2 head.key_len), length-number_bytes 4 head.family, length-number_bytes 8 head.ts, length-number_bytes 2 head.key_len)

pub length-batch_head : (head : BatchHead) → length (batch_head_bytes head) ≡ 10
length-batch_head head =
    omega (arith, length-append (number_bytes 8 head.first) (head.count ∷ []), length-number_bytes 8 head.first)

pub op_head_same : (a b : OpHead) (r s : List ℕ) → FitsOpHead a → FitsOpHead b → op_head_bytes a ++ r ≡ op_head_bytes b ++ s → (a ≡ b) × (r ≡ s)
op_head_same a b r s fits_a fits_b is =
    let whole = fronts_same (op_head_bytes a) (op_head_bytes b) r s (length-op_head a ∙ sym (length-op_head b)) is in
    let family = number_bytes-unique 4 a.family b.family _ _ (omega (arith, fits_a.family)) (omega (arith, fits_b.family)) whole.0 in
    let kind : a.kind ≡ b.kind = ap (λ (bs : List ℕ). get_or bs 0 0) family.1 in
    let behind : number_bytes 8 a.ts ++ number_bytes 2 a.key_len ≡ number_bytes 8 b.ts ++ number_bytes 2 b.key_len = ap (drop 1) family.1 in
    let ts = number_bytes-unique 8 a.ts b.ts _ _ (omega (arith, fits_a.stamp)) (omega (arith, fits_b.stamp)) behind in
    let key = number_bytes-unique 2 a.key_len b.key_len [] [] (omega (arith, fits_a.key)) (omega (arith, fits_b.key)) (ap (λ (bs : List ℕ). bs ++ []) ts.1) in
    (same_head a b family.0 kind ts.0 key.0, whole.1)
  where
    same_head : (a b : OpHead) → a.family ≡ b.family → a.kind ≡ b.kind → a.ts ≡ b.ts → a.key_len ≡ b.key_len → a ≡ b
    same_head a b f k t n =
        ap (λ (x : ℕ). let h : OpHead = record { family = x; kind = a.kind; ts = a.ts; key_len = a.key_len } in h) f
        ∙ ap (λ (x : ℕ). let h : OpHead = record { family = b.family; kind = x; ts = a.ts; key_len = a.key_len } in h) k
        ∙ ap (λ (x : ℕ). let h : OpHead = record { family = b.family; kind = b.kind; ts = x; key_len = a.key_len } in h) t
        ∙ ap (λ (x : ℕ). let h : OpHead = record { family = b.family; kind = b.kind; ts = b.ts; key_len = x } in h) n

pub batch_head_same : (a b : BatchHead) (r s : List ℕ) → FitsBatchHead a → FitsBatchHead b → batch_head_bytes a ++ r ≡ batch_head_bytes b ++ s → (a ≡ b) × (r ≡ s)
batch_head_same a b r s fits_a fits_b is =
    let whole = fronts_same (batch_head_bytes a) (batch_head_bytes b) r s (length-batch_head a ∙ sym (length-batch_head b)) is in
    let first = number_bytes-unique 8 a.first b.first _ _ (omega (arith, fits_a.first)) (omega (arith, fits_b.first)) (ap (drop 1) whole.0) in
    let count : a.count ≡ b.count = ap (λ (bs : List ℕ). get_or bs 0 0) first.1 in
    (same_head a b first.0 count, whole.1)
  where
    same_head : (a b : BatchHead) → a.first ≡ b.first → a.count ≡ b.count → a ≡ b
    same_head a b f n =
        ap (λ (x : ℕ). let h : BatchHead = record { first = x; count = a.count } in h) f
        ∙ ap (λ (x : ℕ). let h : BatchHead = record { first = b.first; count = x } in h) n

-- the parts of fifteen bytes
pub op_head_parts : (bs : List ℕ) → length bs ≡ 15 → bs ≡ take 4 bs ++ get_or bs 4 0 ∷ (take 8 (drop 5 bs) ++ drop 13 bs)
op_head_parts bs len =
    let four = take-append-drop 4 bs in
    let kind : drop 4 bs ≡ get_or bs 4 0 ∷ drop 5 bs = drop-cons bs 4 0 (omega arith) in
    let stamp = take-append-drop 8 (drop 5 bs) in
    let behind : drop 8 (drop 5 bs) ≡ drop 13 bs = drop-drop 8 5 bs in
    sym four ∙ ap (λ (xs : List ℕ). take 4 bs ++ xs) (kind ∙ ap (λ (xs : List ℕ). get_or bs 4 0 ∷ xs) (sym stamp ∙ ap (λ (xs : List ℕ). take 8 (drop 5 bs) ++ xs) behind))

-- the parts of ten bytes
pub batch_head_parts : (bs : List ℕ) → length bs ≡ 10 → bs ≡ get_or bs 0 0 ∷ (take 8 (drop 1 bs) ++ get_or bs 9 0 ∷ [])
batch_head_parts bs len =
    let tag : bs ≡ get_or bs 0 0 ∷ drop 1 bs = drop-cons bs 0 0 (omega arith) in
    let first = take-append-drop 8 (drop 1 bs) in
    let behind : drop 8 (drop 1 bs) ≡ drop 9 bs = drop-drop 8 1 bs in
    let count : drop 9 bs ≡ get_or bs 9 0 ∷ drop 10 bs = drop-cons bs 9 0 (omega arith) in
    let none : drop 10 bs ≡ [] = drop_all 10 bs (omega arith) in
    tag ∙ ap (λ (xs : List ℕ). get_or bs 0 0 ∷ xs) (sym first ∙ ap (λ (xs : List ℕ). take 8 (drop 1 bs) ++ xs) (behind ∙ count ∙ ap (λ (xs : List ℕ). get_or bs 9 0 ∷ xs) none))
