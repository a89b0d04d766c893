-- Common prefixes by blocks, and the block's by the mask of its differences.
use Rattle.std.proofs.Common.{◌≡◌, ℕ, zero, suc, ◌+◌, ◌-◌, ◌^◌, ◌%◌, ◌<◌, ◌≤◌, Bool, true, false, not, cond, List, [], ◌∷◌, length, take, drop, get_or, refl, sym, ap, ◌∙◌, arith, w8}
use Rattle.std.specs.Prelude.{nat_eq, map}
use Rattle.std.specs.List.{common_prefix_len, prefix_len}
use Rattle.std.proofs.Common.{Option, Some, None}
use Rattle.std.specs.Prelude.{nat_lt}
use Rattle.std.specs.List.{position, position_or_len}
use Rattle.std.proofs.lemmas.Bool.{le-ltb, lt-ltb}
use Rattle.std.proofs.lemmas.List.{drop-drop}
use Rattle.std.proofs.lemmas.List.Sums.{position_or_len_is}
use lib.Count.{count_trailing_zeros}
use lib.Lanes.{zip2, mask_l, top}
use mir.Val.{bits, hbits}
use Rattle.std.proofs.lemmas.Simd.{tops_compared, length-zip2, mask_l-mod, leading_from_mask_l, trailing_mask_l}

abbrev pub apart : ℕ → ℕ → Bool
apart x y = not (nat_eq x y)

-- where the first n are the same, and where they aren't
more_at : (t : Bool) (n k whole rest : ℕ) → cond t (1 + k) 0 ≡ suc n → (k ≡ n → whole ≡ n + rest) → cond t (1 + whole) 0 ≡ suc n + rest
more_at true n k whole rest h f = omega (arith, f (omega arith))
more_at false n k whole rest h f = absurd (omega (arith, h))

pub front_more : (n : ℕ) (xs ys : List ℕ) → n ≤ length xs → n ≤ length ys → common_prefix_len nat_eq (take n xs) (take n ys) ≡ n → common_prefix_len nat_eq xs ys ≡ n + common_prefix_len nat_eq (drop n xs) (drop n ys)
front_more zero xs ys a b h = omega arith
front_more (suc n) [] ys a b h = absurd (omega arith)
front_more (suc n) (x ∷ xs) [] a b h = absurd (omega arith)
front_more (suc n) (x ∷ xs) (y ∷ ys) a b h =
    more_at (nat_eq x y) n (common_prefix_len nat_eq (take n xs) (take n ys)) (common_prefix_len nat_eq xs ys) (common_prefix_len nat_eq (drop n xs) (drop n ys)) h (front_more n xs ys (omega arith) (omega arith))

less_at : (t : Bool) (n k whole : ℕ) → cond t (1 + k) 0 < suc n → (k < n → whole ≡ k) → cond t (1 + whole) 0 ≡ cond t (1 + k) 0
less_at true n k whole h f = omega (arith, f (omega arith))
less_at false n k whole h f = refl

pub front_less : (n : ℕ) (xs ys : List ℕ) → n ≤ length xs → n ≤ length ys → common_prefix_len nat_eq (take n xs) (take n ys) < n → common_prefix_len nat_eq xs ys ≡ common_prefix_len nat_eq (take n xs) (take n ys)
front_less zero xs ys a b h = absurd (omega arith)
front_less (suc n) [] ys a b h = absurd (omega arith)
front_less (suc n) (x ∷ xs) [] a b h = absurd (omega arith)
front_less (suc n) (x ∷ xs) (y ∷ ys) a b h =
    less_at (nat_eq x y) n (common_prefix_len nat_eq (take n xs) (take n ys)) (common_prefix_len nat_eq xs ys) h (front_less n xs ys (omega arith) (omega arith))

-- the lanes that differ
same_at : (t : Bool) (k m : ℕ) → k ≡ m → cond (not (not t)) (1 + k) 0 ≡ cond t (1 + m) 0
same_at true k m e = ap (λ (n : ℕ). 1 + n) e
same_at false k m e = refl

apart_prefix : (xs ys : List ℕ) → prefix_len (λ b. not b) (zip2 apart xs ys) ≡ common_prefix_len nat_eq xs ys
apart_prefix [] ys = refl
apart_prefix (x ∷ xs) [] = refl
apart_prefix (x ∷ xs) (y ∷ ys) = same_at (nat_eq x y) (prefix_len (λ b. not b) (zip2 apart xs ys)) (common_prefix_len nat_eq xs ys) (apart_prefix xs ys)

map_self : (ms : List Bool) → map (λ b. b) ms ≡ ms
map_self [] = refl
map_self (b ∷ ms) = ap (λ (r : List Bool). b ∷ r) (map_self ms)

-- the mask of the differences, as `to_bitmask` gives it
abbrev pub mask_of : List ℕ → List ℕ → ℕ
mask_of xs ys = mask_l (map (top (hbits w8)) (zip2 (λ a b. cond (apart a b) (2 ^ bits w8 - 1) 0) xs ys)) % 2 ^ 64

mask_is : (xs ys : List ℕ) → length xs ≡ length ys → length xs ≤ 64 → mask_of xs ys ≡ mask_l (map (λ b. b) (zip2 apart xs ys))
mask_is xs ys len short =
    ap (λ ms. mask_l ms % 2 ^ 64) (tops_compared w8 apart xs ys) ∙ mask_l-mod (zip2 apart xs ys) 64 (omega (arith, length-zip2 apart xs ys len)) ∙ ap mask_l (sym (map_self (zip2 apart xs ys)))

pub none_apart : (xs ys : List ℕ) → length xs ≡ length ys → length xs ≤ 64 → mask_of xs ys ≡ 0 → length xs ≡ common_prefix_len nat_eq xs ys
none_apart xs ys len short none =
    sym (sym (apart_prefix xs ys) ∙ leading_from_mask_l (λ b. b) (zip2 apart xs ys) (sym (mask_is xs ys len short) ∙ none) ∙ length-zip2 apart xs ys len)

pub first_apart : (xs ys : List ℕ) → length xs ≡ length ys → length xs ≤ 64 → 0 < mask_of xs ys → count_trailing_zeros 64 (mask_of xs ys) ≡ common_prefix_len nat_eq xs ys
first_apart xs ys len short some =
    let is = mask_is xs ys len short in
    let pos : 0 < mask_l (map (λ b. b) (zip2 apart xs ys)) = omega (arith, is) in
    ap (count_trailing_zeros 64) is ∙ trailing_mask_l (λ b. b) 64 (zip2 apart xs ys) (omega (arith, length-zip2 apart xs ys len)) pos ∙ apart_prefix xs ys

-- the first place that passes, from a search that has come to it, or to the end
pub some_at : (p : ℕ → Bool) (xs : List ℕ) (i : ℕ) → i < length xs → ((k : ℕ) → k < i → p (get_or xs k 0) ≡ false) → p (get_or xs i 0) ≡ true → Some i ≡ position p xs
some_at p xs i lt before here =
    let is : position_or_len p xs ≡ i = position_or_len_is p xs i 0 (omega arith) before (λ _. here) in
    let below : nat_lt i (length xs) ≡ true = lt-ltb _ _ lt in
    sym (rw (is, below) refl)

abbrev pub none_of : Option ℕ
none_of = None

pub none_at : (p : ℕ → Bool) (xs : List ℕ) → ((k : ℕ) → k < length xs → p (get_or xs k 0) ≡ false) → none_of ≡ position p xs
none_at p xs before =
    let is : position_or_len p xs ≡ length xs = position_or_len_is p xs (length xs) 0 (omega arith) before (λ lt. absurd (omega (arith, lt))) in
    let below : nat_lt (length xs) (length xs) ≡ false = le-ltb _ _ (omega arith) in
    sym (rw (is, below) refl)

pub steps_on : (at n : ℕ) (xs ys : List ℕ) → common_prefix_len nat_eq (drop at xs) (drop at ys) ≡ n + common_prefix_len nat_eq (drop n (drop at xs)) (drop n (drop at ys))
    → at + n + common_prefix_len nat_eq (drop (at + n) xs) (drop (at + n) ys) ≡ at + common_prefix_len nat_eq (drop at xs) (drop at ys)
steps_on at n xs ys e =
    let a : drop n (drop at xs) ≡ drop (at + n) xs = drop-drop n at xs in
    let b : drop n (drop at ys) ≡ drop (at + n) ys = drop-drop n at ys in
    let same : common_prefix_len nat_eq (drop n (drop at xs)) (drop n (drop at ys)) ≡ common_prefix_len nat_eq (drop (at + n) xs) (drop (at + n) ys) = λ i. common_prefix_len nat_eq (a i) (b i) in
    omega arith
