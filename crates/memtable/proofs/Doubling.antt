-- Runs that are at least twice as long as the next newer one.
use Rattle.std.proofs.Common.{◌≡◌, ℕ, zero, suc, ◌+◌, ◌-◌, ◌*◌, ◌/◌, ◌^◌, ◌<◌, ◌≤◌, ◌⊎◌, List, [], ◌∷◌, ◌++◌, length, get_or, map, take, drop, Option, Some, None, refl, sym, ap, subst, ◌∙◌, inl, inr, arith, length-append}
use Rattle.std.specs.Prelude.{slice_get}
use Rattle.std.proofs.Math.Nat.{pow-suc}
use Rattle.std.proofs.Math.Pow.{pow_mono}
use Rattle.std.proofs.lemmas.Bool.{cases_lt}
use Rattle.ts_key.specs.declared.version.Version.{Version}
use Rattle.memtable.specs.Memtables.{AreDoubled, joined}

-- ---- as many runs as powers of two fit

twice : (m p x : ℕ) → x ≡ p * 2 → m * x ≡ 2 * m * p
twice m p x e = rw e (omega arith)

doubled : (rs : List (List Version)) (xs : List Version) (m : ℕ) → AreDoubled (xs ∷ rs) → m ≤ length xs → m * 2 ^ length (xs ∷ rs) ≤ length (joined (xs ∷ rs)) + m
doubled [] xs m h l = omega (arith, length-append xs [])
doubled (ys ∷ rs) xs m h l =
    let d = h.1 in
    let r : 2 * m * 2 ^ length (ys ∷ rs) ≤ length (joined (ys ∷ rs)) + 2 * m = doubled rs ys (2 * m) h.2 (omega (arith, d, l)) in
    let q : m * 2 ^ suc (length (ys ∷ rs)) ≡ 2 * m * 2 ^ length (ys ∷ rs) = twice m (2 ^ length (ys ∷ rs)) (2 ^ suc (length (ys ∷ rs))) (pow-suc 2 (length (ys ∷ rs))) in
    omega (arith, q, r, length-append xs (joined (ys ∷ rs)))

pub one_first : (rs : List (List Version)) (xs : List Version) → AreDoubled (xs ∷ rs) → 1 ≤ length xs
one_first [] xs h = h
one_first (ys ∷ rs) xs h = h.0

pub few_runs : (rs : List (List Version)) → AreDoubled rs → 2 ^ length rs ≤ length (joined rs) + 1
few_runs [] h = omega arith
few_runs (xs ∷ rs) h = let r = doubled rs xs 1 h (one_first rs xs h) in omega (arith, r)

pub few_steps : (rs : List (List Version)) (k : ℕ) → AreDoubled rs → k ≤ length rs → 2 ^ k ≤ length (joined rs) + 1
few_steps rs k h l = let a = few_runs rs h in let b = pow_mono l in omega (arith, a, b)

-- the oldest run is at least half as long as all may be
last_long : (rs : List (List Version)) (xs : List Version) (m : ℕ) (last : List Version) → AreDoubled (xs ∷ rs) → m ≤ length xs → slice_get (xs ∷ rs) (length rs) ≡ Some last → m * 2 ^ length rs ≤ length last
last_long [] xs m last h l e = let q : xs ≡ last = cc in let z = ap length q in omega (arith, z)
last_long (ys ∷ rs) xs m last h l e =
    let d = h.1 in
    let r : 2 * m * 2 ^ length rs ≤ length last = last_long rs ys (2 * m) last h.2 (omega (arith, d, l)) e in
    let q : m * 2 ^ suc (length rs) ≡ 2 * m * 2 ^ length rs = twice m (2 ^ length rs) (2 ^ suc (length rs)) (pow-suc 2 (length rs)) in
    omega (arith, q, r)

short : (n m : ℕ) → 2 ^ n ≤ m → m < 2 ^ 64 → n < 64
short n m h l =
    elim (cases_lt n 64) [
      | inl y ↦ y
      | inr y ↦ let p : 2 ^ 64 ≤ 2 ^ n = pow_mono y in absurd (omega (arith, p, h, l))
    ]

pub fits : (rs : List (List Version)) (last : List Version) → AreDoubled rs → slice_get rs (length rs - 1) ≡ Some last → length last < 2 ^ 64 → length rs < 2 ^ 32
fits [] last h e l = absurd cc
fits (xs ∷ rs) last h e l =
    let n : suc (length rs) - 1 ≡ length rs = omega arith in
    let at : slice_get (xs ∷ rs) (length rs) ≡ Some last = subst (λ (k : ℕ). slice_get (xs ∷ rs) k ≡ Some last) n e in
    let long = last_long rs xs 1 last h (one_first rs xs h) at in
    let s = short (length rs) (length last) (omega (arith, long)) l in
    omega (arith, s)

-- ---- a run before the others

pub doubled-drop : (rs : List (List Version)) (n : ℕ) → AreDoubled rs → AreDoubled (drop n rs)
doubled-drop rs zero h = h
doubled-drop [] (suc n) h = tt
doubled-drop (xs ∷ rs) (suc n) h = doubled-drop rs n (rest rs xs h)
  where
    rest : (rs : List (List Version)) (xs : List Version) → AreDoubled (xs ∷ rs) → AreDoubled rs
    rest [] xs h = tt
    rest (ys ∷ rs) xs h = h.2

pub doubled-cons : (run : List Version) (rs : List (List Version)) (n : ℕ) → 1 ≤ length run → AreDoubled rs → ((next : List Version) → slice_get rs n ≡ Some next → 2 * length run ≤ length next) → AreDoubled (run ∷ drop n rs)
doubled-cons run [] zero l h g = l
doubled-cons run (xs ∷ rs) zero l h g = (l, g xs refl, h)
doubled-cons run [] (suc n) l h g = l
doubled-cons run (xs ∷ rs) (suc n) l h g = doubled-cons run rs n l (doubled-drop (xs ∷ rs) 1 h) g

pub get-map : {A : Type 0} (f : A → List Version) (xs : List A) (i : ℕ) (x : A) → slice_get xs i ≡ Some x → slice_get (map f xs) i ≡ Some (f x)
get-map f [] i x e = absurd cc
get-map f (y ∷ ys) zero x e = let q : y ≡ x = cc in ap (λ z. Some (f z)) q
get-map f (y ∷ ys) (suc i) x e = get-map f ys i x e

pub got_at : {A : Type 0} (f : A → List Version) (xs : List A) (i : ℕ) (x : A) → i < length xs → x ≡ get_or xs i x → slice_get (map f xs) i ≡ Some (f x)
got_at f [] i x l e = absurd (omega arith)
got_at f (y ∷ ys) zero x l e = ap (λ z. Some (f z)) (sym e)
got_at f (y ∷ ys) (suc i) x l e = got_at f ys i x (omega arith) e

-- a run before one that isn't twice as long
pub not_doubled : (run older : List Version) (rs : List (List Version)) (n : ℕ) → slice_get rs n ≡ Some older → length older / 2 < length run → AreDoubled (run ∷ drop n rs) → ⊥
not_doubled run older [] n e l h = absurd cc
not_doubled run older (xs ∷ rs) zero e l h = let q : xs ≡ older = cc in let d = h.1 in let z = ap length q in omega (arith, d, z, l)
not_doubled run older (xs ∷ rs) (suc n) e l h = not_doubled run older rs n e l h
