-- Tables put where they belong.
use Rattle.std.proofs.Common.{◌≡◌, ℕ, zero, suc, ◌+◌, ◌<◌, ◌≤◌, true, false, List, [], ◌∷◌, ◌++◌, length, get_or, map, take, drop, refl, sym, ap, ◌∙◌, inl, inr, arith}
use Rattle.std.proofs.lemmas.Bool.{cases_Bool}
use Rattle.super_version.specs.Live.{Live}
use Rattle.super_version.specs.Levels.{count_before, placed_on_level, placed_all, stands_before}

-- put between those that stand before it and the others
pub placed_parts : {A : Type 0} (f : A → Live) (level : ℕ) (t : Live) (xs : List A) → map f (take (count_before level t (map f xs)) xs) ++ t ∷ map f (drop (count_before level t (map f xs)) xs) ≡ placed_on_level level t (map f xs)
placed_parts f level t [] = refl
placed_parts f level t (x ∷ xs) =
    let n = count_before level t (map f xs) in
    elim (cases_Bool (stands_before level (f x) t)) [
      | inl y ↦ let m : n + 1 ≡ suc n = omega arith in rw (y, m) (ap (λ ys. f x ∷ ys) (placed_parts f level t xs))
      | inr y ↦ rw y refl
    ]

pub count_within : (level : ℕ) (t : Live) (os : List Live) → count_before level t os ≤ length os
count_within level t [] = omega arith
count_within level t (o ∷ os) =
    let h = count_within level t os in
    elim (cases_Bool (stands_before level o t)) [ inl y ↦ rw y (omega arith) | inr y ↦ rw y (omega arith) ]

-- one more that stands before it
pub count_more : {A : Type 0} (f : A → Live) (level : ℕ) (t : Live) (xs : List A) (i : ℕ) (x : A) → i < length xs → x ≡ get_or xs i x → stands_before level (f x) t ≡ true → count_before level t (map f (drop i xs)) ≡ count_before level t (map f (drop (i + 1) xs)) + 1
count_more f level t [] i x l is e = absurd (omega arith)
count_more f level t (y ∷ ys) zero x l is e = let z : stands_before level (f y) t ≡ true = ap (λ w. stands_before level (f w) t) (sym is) ∙ e in rw z refl
count_more f level t (y ∷ ys) (suc i) x l is e = let n : suc i + 1 ≡ suc (i + 1) = omega arith in rw n (count_more f level t ys i x (omega arith) is e)

-- the first that doesn't
pub count_ends : {A : Type 0} (f : A → Live) (level : ℕ) (t : Live) (xs : List A) (i : ℕ) (x : A) → i < length xs → x ≡ get_or xs i x → stands_before level (f x) t ≡ false → count_before level t (map f (drop i xs)) ≡ 0
count_ends f level t [] i x l is e = absurd (omega arith)
count_ends f level t (y ∷ ys) zero x l is e = let z : stands_before level (f y) t ≡ false = ap (λ w. stands_before level (f w) t) (sym is) ∙ e in rw z refl
count_ends f level t (y ∷ ys) (suc i) x l is e = count_ends f level t ys i x (omega arith) is e

pub count_all : {A : Type 0} (f : A → Live) (level : ℕ) (t : Live) (xs : List A) (n : ℕ) → length xs ≤ n → count_before level t (map f (drop n xs)) ≡ 0
count_all f level t [] zero l = refl
count_all f level t [] (suc n) l = refl
count_all f level t (y ∷ ys) zero l = absurd (omega arith)
count_all f level t (y ∷ ys) (suc n) l = count_all f level t ys n (omega arith)

-- one table more
pub placed_more : (level : ℕ) (ts : List Live) (i : ℕ) (t : Live) (tables : List Live) → i < length ts → t ≡ get_or ts i t → placed_on_level level t (placed_all level (take i ts) tables) ≡ placed_all level (take (i + 1) ts) tables
placed_more level [] i t tables l e = absurd (omega arith)
placed_more level (x ∷ xs) zero t tables l e = ap (λ y. placed_on_level level y tables) e
placed_more level (x ∷ xs) (suc i) t tables l e = let n : suc i + 1 ≡ suc (i + 1) = omega arith in rw n (placed_more level xs i t (placed_on_level level x tables) (omega arith) e)
