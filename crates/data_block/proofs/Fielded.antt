-- The parts of an entry are found again.
use Rattle.std.proofs.Common.{◌≡◌, ℕ, ◌^◌, ◌<◌, List, ◌++◌, length, take, drop, refl, sym, ap, ◌∙◌, append_assoc, length-append, arith}
use Rattle.std.proofs.lemmas.List.{take_at, drop_at}
use Rattle.ts_key.specs.Numbers.{number_bytes}
use Rattle.ts_key.proofs.NumberBytes.{length-number_bytes, number_bytes-unique}
use Rattle.data_block.specs.Fields.{fields, Fit}

-- two lists cut at the same place
pub cut : (a b x y : List ℕ) → length a ≡ length b → a ++ x ≡ b ++ y → (a ≡ b) × (x ≡ y)
cut a b x y len e =
    (sym (take_at a x (length b) len) ∙ ap (take (length b)) e ∙ take_at b y (length b) refl, sym (drop_at a x (length b) len) ∙ ap (drop (length b)) e ∙ drop_at b y (length b) refl)

opened_at : (a b c k v rest : List ℕ) → (a ++ b ++ c ++ k ++ v) ++ rest ≡ a ++ (b ++ (c ++ (k ++ (v ++ rest))))
opened_at a b c k v rest = simp append_assoc

-- an entry, part by part
pub opened : (s : ℕ) (k v rest : List ℕ) → fields s k v ++ rest ≡ number_bytes 2 s ++ (number_bytes 2 (length k) ++ (number_bytes 4 (length v) ++ (k ++ (v ++ rest))))
opened s k v rest =
    let a = number_bytes 2 s in
    let b = number_bytes 2 (length k) in
    let c = number_bytes 4 (length v) in
    opened_at a b c k v rest

pub joined : (bytes r1 r2 r3 r4 r5 k v : List ℕ) (s n m : ℕ) → bytes ≡ number_bytes 2 s ++ r1 → r1 ≡ number_bytes 2 n ++ r2 → r2 ≡ number_bytes 4 m ++ r3 → length k ≡ n → r3 ≡ k ++ r4 → length v ≡ m → r4 ≡ v ++ r5 → bytes ≡ fields s k v ++ r5
joined bytes r1 r2 r3 r4 r5 k v s n m e1 e2 e3 lk e4 lv e5 =
    e1 ∙ ap (λ (x : List ℕ). number_bytes 2 s ++ x) (e2 ∙ (λ i. number_bytes 2 (sym lk i) ++ (e3 ∙ (λ j. number_bytes 4 (sym lv j) ++ (e4 ∙ ap (λ (x : List ℕ). k ++ x) e5) j)) i)) ∙ sym (opened s k v r5)

-- what an entry at the front says of the parts
pub record Parts (bytes : List ℕ) (s : ℕ) (k v rest : List ℕ) : Type 0 where
  pub after : List ℕ
  pub one : bytes ≡ number_bytes 2 s ++ after
  pub after2 : List ℕ
  pub two : after ≡ number_bytes 2 (length k) ++ after2
  pub after3 : List ℕ
  pub three : after2 ≡ number_bytes 4 (length v) ++ after3
  pub after4 : List ℕ
  pub four : after3 ≡ k ++ after4
  pub five : after4 ≡ v ++ rest

pub parts : (bytes : List ℕ) (s : ℕ) (k v rest : List ℕ) → bytes ≡ fields s k v ++ rest → Parts bytes s k v rest
parts bytes s k v rest e = record { after = number_bytes 2 (length k) ++ (number_bytes 4 (length v) ++ (k ++ (v ++ rest))); one = e ∙ opened s k v rest; after2 = number_bytes 4 (length v) ++ (k ++ (v ++ rest)); two = refl; after3 = k ++ (v ++ rest); three = refl; after4 = v ++ rest; four = refl; five = refl }

-- the reader's parts are those
pub none_1 : (bytes : List ℕ) → length bytes < 2 → (s : ℕ) (k v rest : List ℕ) → Fit s k v → bytes ≡ fields s k v ++ rest → ⊥
none_1 bytes short s k v rest fit e =
    let p = parts bytes s k v rest e in omega (arith, ap length p.one, length-append (number_bytes 2 s) p.after, length-number_bytes 2 s)

pub none_2 : (bytes r1 : List ℕ) (x : ℕ) → x < 2 ^ 16 → bytes ≡ number_bytes 2 x ++ r1 → length r1 < 2 → (s : ℕ) (k v rest : List ℕ) → Fit s k v → bytes ≡ fields s k v ++ rest → ⊥
none_2 bytes r1 x lx e1 short s k v rest fit e =
    let p = parts bytes s k v rest e in
    let f = fit.shared in
    let c = number_bytes-unique 2 x s r1 p.after (omega arith) (omega arith) (sym e1 ∙ p.one) in
    omega (arith, ap length c.1, ap length p.two, length-append (number_bytes 2 (length k)) p.after2, length-number_bytes 2 (length k))

pub none_3 : (bytes r1 r2 : List ℕ) (x n : ℕ) → x < 2 ^ 16 → bytes ≡ number_bytes 2 x ++ r1 → n < 2 ^ 16 → r1 ≡ number_bytes 2 n ++ r2 → length r2 < 4 → (s : ℕ) (k v rest : List ℕ) → Fit s k v → bytes ≡ fields s k v ++ rest → ⊥
none_3 bytes r1 r2 x n lx e1 ln e2 short s k v rest fit e =
    let p = parts bytes s k v rest e in
    let f = fit.shared in
    let g = fit.key in
    let c = number_bytes-unique 2 x s r1 p.after (omega arith) (omega arith) (sym e1 ∙ p.one) in
    let d = number_bytes-unique 2 n (length k) r2 p.after2 (omega arith) (omega arith) (sym e2 ∙ c.1 ∙ p.two) in
    omega (arith, ap length d.1, ap length p.three, length-append (number_bytes 4 (length v)) p.after3, length-number_bytes 4 (length v))

pub record Read (bytes r3 : List ℕ) (a b c : ℕ) : Type 0 where
  pub r1 : List ℕ
  pub r2 : List ℕ
  pub one : bytes ≡ number_bytes 2 a ++ r1
  pub two : r1 ≡ number_bytes 2 b ++ r2
  pub three : r2 ≡ number_bytes 4 c ++ r3
  pub x : a < 2 ^ 16
  pub n : b < 2 ^ 16
  pub m : c < 2 ^ 32

pub heads : (bytes r3 : List ℕ) (x n m : ℕ) → Read bytes r3 x n m → (s : ℕ) (k v rest : List ℕ) → Fit s k v → bytes ≡ fields s k v ++ rest → (x ≡ s) × (n ≡ length k) × (m ≡ length v) × (r3 ≡ k ++ (v ++ rest))
heads bytes r3 x n m h s k v rest fit e =
    let p = parts bytes s k v rest e in
    let f = fit.shared in
    let g = fit.key in
    let i = fit.value in
    let hx = h.x in
    let hn = h.n in
    let hm = h.m in
    let c = number_bytes-unique 2 x s h.r1 p.after (omega arith) (omega arith) (sym h.one ∙ p.one) in
    let d = number_bytes-unique 2 n (length k) h.r2 p.after2 (omega arith) (omega arith) (sym h.two ∙ c.1 ∙ p.two) in
    let q = number_bytes-unique 4 m (length v) r3 p.after3 (omega arith) (omega arith) (sym h.three ∙ d.1 ∙ p.three) in
    (c.0, d.0, q.0, q.1 ∙ p.four ∙ ap (λ (y : List ℕ). k ++ y) p.five)

pub none_4 : (bytes r3 : List ℕ) (x n m : ℕ) → Read bytes r3 x n m → length r3 < n → (s : ℕ) (k v rest : List ℕ) → Fit s k v → bytes ≡ fields s k v ++ rest → ⊥
none_4 bytes r3 x n m h short s k v rest fit e =
    let p = heads bytes r3 x n m h s k v rest fit e in
    omega (arith, p.1, ap length p.3, length-append k (v ++ rest))

pub none_5 : (bytes r3 r4 key : List ℕ) (x n m : ℕ) → Read bytes r3 x n m → length key ≡ n → r3 ≡ key ++ r4 → length r4 < m → (s : ℕ) (k v rest : List ℕ) → Fit s k v → bytes ≡ fields s k v ++ rest → ⊥
none_5 bytes r3 r4 key x n m h len e4 short s k v rest fit e =
    let p = heads bytes r3 x n m h s k v rest fit e in
    let c = cut key k r4 (v ++ rest) (len ∙ p.1) (sym e4 ∙ p.3) in
    omega (arith, p.2, ap length c.1, length-append v rest)

-- no entry begins another, and each is read in one way
pub fields_once : (s t : ℕ) (k l v w r q : List ℕ) → Fit s k v → Fit t l w → fields s k v ++ r ≡ fields t l w ++ q → (s ≡ t) × (k ≡ l) × (v ≡ w) × (r ≡ q)
fields_once s t k l v w r q f g e =
    let o = opened s k v r in
    let h : Read (fields s k v ++ r) (k ++ (v ++ r)) s (length k) (length v) = record { r1 = number_bytes 2 (length k) ++ (number_bytes 4 (length v) ++ (k ++ (v ++ r))); r2 = number_bytes 4 (length v) ++ (k ++ (v ++ r)); one = o; two = refl; three = refl; x = f.shared; n = f.key; m = f.value } in
    let p = heads (fields s k v ++ r) (k ++ (v ++ r)) s (length k) (length v) h t l w q g e in
    let c = cut k l (v ++ r) (w ++ q) p.1 p.3 in
    let d = cut v w r q p.2 c.1 in
    (p.0, c.0, d.0, d.1)
