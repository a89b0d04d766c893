-- The parts of a stored key, found from its end.
use Rattle.std.proofs.Common.{◌≡◌, ℕ, ◌+◌, ◌-◌, ◌*◌, ◌/◌, ◌%◌, ◌^◌, ◌<◌, ◌≤◌, List, [], ◌++◌, length, take, drop, get_or, refl, sym, ap, subst, ◌∙◌, append_assoc, length-append, arith, inl, inr}
use Rattle.std.specs.Int.{w64, from_le_bytes}
use Rattle.std.proofs.lemmas.Nat.{le_bytes_8}
use Rattle.std.proofs.lemmas.List.{take_at, drop_at, take-append-drop, length-take, length-drop, append-nil, get_or-drop, get_or-take, get_or_past}
use Rattle.std.proofs.lemmas.Bool.{cases_lt}
use Rattle.byteorder.specs.Endian.{little_number}
use Rattle.byteorder.specs.Numbers.{little_from-take, little_number-reads_back}
use Rattle.ts_key.specs.Numbers.{number_bytes}
use Rattle.ts_key.specs.Order.{SortKey}
use Rattle.ts_key.specs.StoredKeys.{kind_number, tail_len, stamp, stamp_number, stored_key, IsStamp, IsStored}
use Rattle.ts_key.specs.declared.version.Kind.{Kind}
use Rattle.ts_key.specs.declared.version.Kind.TheVariants.{Del, Put}
use Rattle.ts_key.specs.declared.version.Form.{Form}
use Rattle.ts_key.specs.declared.version.Form.TheVariants.{Persist, Strip}
use Rattle.ts_key.proofs.NumberBytes.{length-number_bytes}

abbrev pub IsBytes : List ℕ → Type 0
IsBytes bytes = (i : ℕ) → get_or bytes i 0 < 256

little_back_8 : (bs : List ℕ) → length bs ≡ 8 → IsBytes bs → number_bytes 8 (little_number 8 bs) ≡ bs
unfolding number_bytes
little_back_8 bs len fits =
    let same : little_number 8 bs ≡ from_le_bytes w64 bs = omega arith in
    le_bytes_8 bs (little_number 8 bs) len fits same

reads_back : (x : ℕ) (rest : List ℕ) → x < 256 ^ 8 → little_number 8 (number_bytes 8 x ++ rest) ≡ x
unfolding number_bytes
reads_back x rest h = little_number-reads_back 8 x rest h

pub kind_below : (k : Kind) → kind_number k ≤ 1
kind_below Del = omega arith
kind_below Put = omega arith

-- ---- how long stored keys are

pub length-stamp : (form : Form) (ts : ℕ) → length (stamp form ts) + 8 ≡ tail_len form
length-stamp Persist ts = omega (arith, length-number_bytes 8 ts)
length-stamp Strip ts = omega arith

pub length-stored_key : (form : Form) (k : SortKey) (kind : Kind) → length (stored_key form k kind) ≡ length k.key + tail_len form
unfolding stored_key
length-stored_key form k kind =
    let r = number_bytes 8 (k.seq * 256 + kind_number kind) in
    let len : length (k.key ++ stamp form k.ts ++ r) ≡ length k.key + length (stamp form k.ts) + length r = length-append (k.key ++ stamp form k.ts) r ∙ omega (arith, length-append k.key (stamp form k.ts)) in
    omega (arith, len, length-stamp form k.ts, length-number_bytes 8 (k.seq * 256 + kind_number kind))

tail_short : (form : Form) → tail_len form ≤ 16
tail_short Persist = omega arith
tail_short Strip = omega arith

pub stored_key_short : (form : Form) (k : SortKey) (kind : Kind) → IsStored form k → length (stored_key form k kind) ≤ 1040
stored_key_short form k kind h = let b = h.key in omega (arith, length-stored_key form k kind, tail_short form)

-- ---- where the parts stand

pub record IsMade (form : Form) (bytes : List ℕ) (k : SortKey) (kind : Kind) : Type 0 where
  pub len : length bytes ≡ length k.key + tail_len form
  pub key : take (length bytes - tail_len form) bytes ≡ k.key
  pub ts : stamp_number form (drop (length bytes - tail_len form) bytes) ≡ k.ts
  pub trailer : little_number 8 (drop (tail_len form - 8) (drop (length bytes - tail_len form) bytes)) ≡ k.seq * 256 + kind_number kind

trailer_fits : (form : Form) (k : SortKey) (kind : Kind) → IsStored form k → k.seq * 256 + kind_number kind < 256 ^ 8
trailer_fits form k kind h = let b = kind_below kind in let m = h.sequence.most in omega arith

made_at : (form : Form) (bytes : List ℕ) (k : SortKey) (kind : Kind) → IsStored form k → bytes ≡ k.key ++ (stamp form k.ts ++ number_bytes 8 (k.seq * 256 + kind_number kind)) → IsMade form bytes k kind
made_at Persist bytes k kind h e =
    let t = number_bytes 8 k.ts in
    let r = number_bytes 8 (k.seq * 256 + kind_number kind) in
    let lt : length t ≡ 8 = length-number_bytes 8 k.ts in
    let lr : length r ≡ 8 = length-number_bytes 8 (k.seq * 256 + kind_number kind) in
    let len : length bytes ≡ length k.key + 16 = ap length e ∙ omega (arith, length-append k.key (t ++ r), length-append t r) in
    let at : length k.key ≡ length bytes - 16 = omega arith in
    let front : take (length bytes - 16) bytes ≡ k.key = ap (take (length bytes - 16)) e ∙ take_at k.key (t ++ r) (length bytes - 16) at in
    let back : drop (length bytes - 16) bytes ≡ t ++ r = ap (drop (length bytes - 16)) e ∙ drop_at k.key (t ++ r) (length bytes - 16) at in
    let stamped : k.ts < 256 ^ 8 = let i = h.stamp in omega arith in
    let n1 : little_number 8 (drop (length bytes - 16) bytes) ≡ k.ts = ap (little_number 8) back ∙ reads_back k.ts r stamped in
    let back2 : drop 8 (drop (length bytes - 16) bytes) ≡ r ++ [] = ap (drop 8) back ∙ drop_at t r 8 lt ∙ sym (append-nil r) in
    let n2 : little_number 8 (drop 8 (drop (length bytes - 16) bytes)) ≡ k.seq * 256 + kind_number kind = ap (little_number 8) back2 ∙ reads_back (k.seq * 256 + kind_number kind) [] (trailer_fits Persist k kind h) in
    record { len = len; key = front; ts = n1; trailer = n2 }
made_at Strip bytes k kind h e =
    let r = number_bytes 8 (k.seq * 256 + kind_number kind) in
    let lr : length r ≡ 8 = length-number_bytes 8 (k.seq * 256 + kind_number kind) in
    let len : length bytes ≡ length k.key + 8 = ap length e ∙ omega (arith, length-append k.key r) in
    let at : length k.key ≡ length bytes - 8 = omega arith in
    let front : take (length bytes - 8) bytes ≡ k.key = ap (take (length bytes - 8)) e ∙ take_at k.key r (length bytes - 8) at in
    let back : drop (length bytes - 8) bytes ≡ r ++ [] = ap (drop (length bytes - 8)) e ∙ drop_at k.key r (length bytes - 8) at ∙ sym (append-nil r) in
    let n2 : little_number 8 (drop (length bytes - 8) bytes) ≡ k.seq * 256 + kind_number kind = ap (little_number 8) back ∙ reads_back (k.seq * 256 + kind_number kind) [] (trailer_fits Strip k kind h) in
    record { len = len; key = front; ts = sym h.stamp; trailer = n2 }

pub is_made : (form : Form) (bytes : List ℕ) (k : SortKey) (kind : Kind) → IsStored form k → bytes ≡ stored_key form k kind → IsMade form bytes k kind
unfolding stored_key
is_made form bytes k kind h e = made_at form bytes k kind h (e ∙ append_assoc k.key (stamp form k.ts) (number_bytes 8 (k.seq * 256 + kind_number kind)))

stamps_low : (form : Form) (ts : ℕ) → IsStamp form ts → ts ≤ 2 ^ 64 - 2
stamps_low Persist ts h = omega arith
stamps_low Strip ts h = omega (arith, h)

-- ---- what rules a stored key out

module _ (form : Form) (bytes : List ℕ) where
  abbrev pub None : Type 0
  None = (k : SortKey) (kind : Kind) → IsStored form k → bytes ≡ stored_key form k kind → ⊥

  abbrev rest : List ℕ
  rest = drop (length bytes - tail_len form) bytes

  pub too_short : length bytes < tail_len form → None
  too_short lt k kind h e = let m = is_made form bytes k kind h e in omega arith

  pub too_long : 1024 < length bytes - tail_len form → None
  too_long lt k kind h e = let m = is_made form bytes k kind h e in let b = h.key in omega arith

  pub late : 2 ^ 64 - 2 < stamp_number form rest → None
  late top k kind h e = let m = is_made form bytes k kind h e in let low = stamps_low form k.ts h.stamp in omega (arith, m.ts)

  pub unnumbered : little_number 8 (drop (tail_len form - 8) rest) / 256 ≡ 0 → None
  unnumbered none k kind h e = let m = is_made form bytes k kind h e in let l = h.sequence.least in let b = kind_below kind in omega (arith, m.trailer)

  pub unkind : ((k : Kind) → kind_number k ≡ little_number 8 (drop (tail_len form - 8) rest) % 256 → ⊥) → None
  unkind none k kind h e = let m = is_made form bytes k kind h e in let b = kind_below kind in none kind (omega (arith, m.trailer))

-- ---- what is read is spelled

IsBytes-drop : (n : ℕ) (bytes : List ℕ) → IsBytes bytes → IsBytes (drop n bytes)
IsBytes-drop n bytes h i = rw get_or-drop (h (n + i))

IsBytes-take : (n : ℕ) (bytes : List ℕ) → IsBytes bytes → IsBytes (take n bytes)
IsBytes-take n bytes h i =
    elim (cases_lt i n) [
      | inl lt ↦ rw (get_or-take n bytes i 0 lt) (h i)
      | inr le ↦ rw (get_or_past (take n bytes) i 0 (omega (arith, length-take n bytes))) (omega arith)
    ]

little_below_8 : (bs : List ℕ) → IsBytes bs → little_number 8 bs < 2 ^ 64
little_below_8 bs fits = omega (arith, fits 0, fits 1, fits 2, fits 3, fits 4, fits 5, fits 6, fits 7)

front_8 : (bs : List ℕ) → 8 ≤ length bs → IsBytes bs → number_bytes 8 (little_number 8 bs) ≡ take 8 bs
front_8 bs long fits =
    let same : little_number 8 (take 8 bs) ≡ little_number 8 bs = little_from-take 0 8 8 bs (omega arith) in
    ap (number_bytes 8) (sym same) ∙ little_back_8 (take 8 bs) (omega (arith, length-take 8 bs)) (IsBytes-take 8 bs fits)

-- the stamp and the trailer are the bytes after the key
tail_is : (form : Form) (rest : List ℕ) (ts trailer : ℕ) → IsBytes rest → length rest ≡ tail_len form → ts ≡ stamp_number form rest → trailer ≡ little_number 8 (drop (tail_len form - 8) rest) → stamp form ts ++ number_bytes 8 trailer ≡ rest
tail_is Persist rest ts trailer fits len t n =
    let a : number_bytes 8 ts ≡ take 8 rest = ap (number_bytes 8) t ∙ front_8 rest (omega arith) fits in
    let b : number_bytes 8 trailer ≡ drop 8 rest = ap (number_bytes 8) n ∙ little_back_8 (drop 8 rest) (omega (arith, length-drop 8 rest)) (IsBytes-drop 8 rest fits) in
    ap (λ (x : List ℕ). x ++ number_bytes 8 trailer) a ∙ ap (λ (x : List ℕ). take 8 rest ++ x) b ∙ take-append-drop 8 rest
tail_is Strip rest ts trailer fits len t n =
    ap (number_bytes 8) n ∙ little_back_8 rest len fits

stamp_fits : (form : Form) (rest : List ℕ) (ts : ℕ) → ts ≡ stamp_number form rest → ts ≤ 2 ^ 64 - 2 → IsStamp form ts
stamp_fits Persist rest ts t low = omega arith
stamp_fits Strip rest ts t low = t

pub is_spelled : (form : Form) (bytes key rest : List ℕ) (ts trailer : ℕ) (kind : Kind) → IsBytes bytes
    → tail_len form ≤ length bytes → length bytes - tail_len form ≤ 1024 → key ≡ take (length bytes - tail_len form) bytes → rest ≡ drop (length bytes - tail_len form) bytes
    → ts ≡ stamp_number form rest → ts ≤ 2 ^ 64 - 2 → trailer ≡ little_number 8 (drop (tail_len form - 8) rest) → (trailer / 256 ≡ 0 → ⊥) → kind_number kind ≡ trailer % 256
    → IsStored form (record { key = key; ts = ts; seq = trailer / 256 }) × (bytes ≡ stored_key form (record { key = key; ts = ts; seq = trailer / 256 }) kind)
unfolding stored_key
is_spelled form bytes key rest ts trailer kind fits long short key-is rest-is ts-is ts-low trailer-is seq-low kind-is =
    let rest-fits : IsBytes rest = subst IsBytes (sym rest-is) (IsBytes-drop (length bytes - tail_len form) bytes fits) in
    let rest-len : length rest ≡ tail_len form = ap length rest-is ∙ omega (arith, length-drop (length bytes - tail_len form) bytes) in
    let key-len : length key ≤ 1024 = omega (arith, ap length key-is, length-take (length bytes - tail_len form) bytes) in
    let trailer-fits : IsBytes (drop (tail_len form - 8) rest) = IsBytes-drop (tail_len form - 8) rest rest-fits in
    let trailer-low : trailer < 2 ^ 64 = let b = little_below_8 (drop (tail_len form - 8) rest) trailer-fits in omega (arith, trailer-is) in
    let whole : trailer / 256 * 256 + kind_number kind ≡ trailer = omega arith in
    let tail : stamp form ts ++ number_bytes 8 (trailer / 256 * 256 + kind_number kind) ≡ rest = ap (λ (n : ℕ). stamp form ts ++ number_bytes 8 n) whole ∙ tail_is form rest ts trailer rest-fits rest-len ts-is trailer-is in
    let spelled : key ++ stamp form ts ++ number_bytes 8 (trailer / 256 * 256 + kind_number kind) ≡ bytes = append_assoc key (stamp form ts) (number_bytes 8 (trailer / 256 * 256 + kind_number kind)) ∙ ap (λ (x : List ℕ). key ++ x) tail ∙ ap (λ (x : List ℕ). x ++ rest) key-is ∙ ap (λ (x : List ℕ). take (length bytes - tail_len form) bytes ++ x) rest-is ∙ take-append-drop (length bytes - tail_len form) bytes in
    (record { key = key-len; stamp = stamp_fits form rest ts ts-is ts-low; sequence = record { least = omega arith; most = omega arith } }, sym spelled)

-- ---- one spelling

kinds_apart : (a b : Kind) → kind_number a ≡ kind_number b → a ≡ b
kinds_apart Del Del e = refl
kinds_apart Put Put e = refl
kinds_apart Del Put e = absurd (omega (arith, e))
kinds_apart Put Del e = absurd (omega (arith, e))

pub one_spelling : (form : Form) (k l : SortKey) (a b : Kind) → IsStored form k → IsStored form l → stored_key form k a ≡ stored_key form l b → (k ≡ l) × (a ≡ b)
one_spelling form k l a b hk hl e =
    let mk = is_made form (stored_key form k a) k a hk refl in
    let ml = is_made form (stored_key form k a) l b hl e in
    let key : k.key ≡ l.key = sym mk.key ∙ ml.key in
    let ts : k.ts ≡ l.ts = sym mk.ts ∙ ml.ts in
    let trailer : k.seq * 256 + kind_number a ≡ l.seq * 256 + kind_number b = sym mk.trailer ∙ ml.trailer in
    let low-a = kind_below a in
    let low-b = kind_below b in
    let seq : k.seq ≡ l.seq = omega arith in
    (λ i. record { key = key i; ts = ts i; seq = seq i }, kinds_apart a b (omega arith))
