-- Writers, one after another.
use Rattle.std.proofs.Common.{◌≡◌, ℕ, ◌+◌, ◌<◌, List, [], ◌∷◌, ◌++◌, length, take, get_or, sym, ap, ◌∙◌, arith, subst}
use Rattle.std.specs.Prelude.{All}
use Rattle.std.specs.List.{flat_map}
use Rattle.std.proofs.lemmas.List.{append_assoc, append-nil, length-take-le, flat_map_more, take_more}
use Rattle.std.proofs.lemmas.List.Elements.{All-more}
use Rattle.ts_key.specs.Numbers.{number_bytes}
use Rattle.wal.specs.Records.{families_bytes, op_bytes, batch_head}
use Rattle.wal.specs.Writing.{IsShortOp}
use Rattle.ts_key.specs.declared.batch.WriteOp.{WriteOp}

-- one family more
pub families_more : (k : ℕ) (xs : List ℕ) (x : ℕ) → families_bytes k (xs ++ x ∷ []) ≡ families_bytes k xs ++ (number_bytes 4 (k + length xs) ++ x ∷ [])
families_more k [] x = append-nil (number_bytes 4 k ++ x ∷ []) ∙ ap (λ (n : ℕ). number_bytes 4 n ++ x ∷ []) (omega arith)
families_more k (y ∷ xs) x =
    ap (λ (bs : List ℕ). (number_bytes 4 k ++ y ∷ []) ++ bs) (families_more (k + 1) xs x ∙ ap (λ (n : ℕ). families_bytes (k + 1) xs ++ (number_bytes 4 n ++ x ∷ [])) (omega arith))
    ∙ sym (append_assoc (number_bytes 4 k ++ y ∷ []) (families_bytes (k + 1) xs) (number_bytes 4 (k + length (y ∷ xs)) ++ x ∷ []))

pub families_step : (old mid new sizes : List ℕ) (start : List ℕ) (i : ℕ) → i < length sizes → old ≡ start ++ families_bytes 0 (take i sizes) → mid ≡ old ++ number_bytes 4 i → new ≡ mid ++ get_or sizes i 0 ∷ [] → new ≡ start ++ families_bytes 0 (take (i + 1) sizes)
families_step old mid new sizes start i within so_far number size =
    let more = families_more 0 (take i sizes) (get_or sizes i 0) in
    let len : length (take i sizes) ≡ i = length-take-le i sizes (omega arith) in
    let place : number_bytes 4 (0 + length (take i sizes)) ≡ number_bytes 4 i = ap (number_bytes 4) (omega arith) in
    let last = get_or sizes i 0 ∷ [] in
    size ∙ ap (λ (xs : List ℕ). xs ++ last) (number ∙ ap (λ (xs : List ℕ). xs ++ number_bytes 4 i) so_far)
    ∙ ap (λ (xs : List ℕ). xs ++ last) (append_assoc start (families_bytes 0 (take i sizes)) (number_bytes 4 i))
    ∙ append_assoc start (families_bytes 0 (take i sizes) ++ number_bytes 4 i) last
    ∙ ap (λ (xs : List ℕ). start ++ xs) (append_assoc (families_bytes 0 (take i sizes)) (number_bytes 4 i) last ∙ ap (λ (bs : List ℕ). families_bytes 0 (take i sizes) ++ (bs ++ last)) (sym place) ∙ sym more ∙ ap (families_bytes 0) (sym (take_more sizes i 0 within)))

pub ops_step : (old new start : List ℕ) (ops : List WriteOp) (i : ℕ) (op : WriteOp) → i < length ops → op ≡ get_or ops i op
    → (old ≡ start ++ flat_map op_bytes (take i ops)) × All IsShortOp (take i ops) → new ≡ old ++ op_bytes op → IsShortOp op → (new ≡ start ++ flat_map op_bytes (take (i + 1) ops)) × All IsShortOp (take (i + 1) ops)
ops_step old new start ops i op within item so_far written short =
    (written ∙ ap (λ (xs : List ℕ). xs ++ op_bytes op) so_far.0 ∙ flat_map_more op_bytes start (take i ops) op ∙ ap (λ (os : List WriteOp). start ++ flat_map op_bytes os) (ap (λ (o : WriteOp). take i ops ++ o ∷ []) item ∙ sym (take_more ops i op within)), All-more IsShortOp ops i op within so_far.1 (subst IsShortOp item short))

pub batch_step : (old a b c new ops : List ℕ) (first count : ℕ) → a ≡ old ++ 2 ∷ [] → b ≡ a ++ number_bytes 8 first → c ≡ b ++ count ∷ [] → new ≡ c ++ ops → new ≡ old ++ (batch_head first count ++ ops)
batch_step old a b c new ops first count tag number counted rest =
    rest ∙ ap (λ (xs : List ℕ). xs ++ ops) (counted ∙ ap (λ (xs : List ℕ). xs ++ count ∷ []) (number ∙ ap (λ (xs : List ℕ). xs ++ number_bytes 8 first) tag))
    ∙ append_assoc ((old ++ 2 ∷ []) ++ number_bytes 8 first) (count ∷ []) ops ∙ append_assoc (old ++ 2 ∷ []) (number_bytes 8 first) (count ∷ ops) ∙ append_assoc old (2 ∷ []) (number_bytes 8 first ++ count ∷ ops)
    ∙ ap (λ (xs : List ℕ). old ++ 2 ∷ xs) (sym (append_assoc (number_bytes 8 first) (count ∷ []) ops))

pub batch_written : (old a b c new : List ℕ) (ops batch : List WriteOp) (first : ℕ) → ops ≡ batch → a ≡ old ++ 2 ∷ [] → b ≡ a ++ number_bytes 8 first → c ≡ b ++ length ops ∷ [] → new ≡ c ++ flat_map op_bytes ops → new ≡ old ++ (batch_head first (length batch) ++ flat_map op_bytes batch)
batch_written old a b c new ops batch first same tag number counted rest =
    batch_step old a b c new (flat_map op_bytes ops) first (length ops) tag number counted rest ∙ ap (λ (os : List WriteOp). old ++ (batch_head first (length os) ++ flat_map op_bytes os)) same
