-- Lists one item after the other, and lists with one item changed.
use Rattle.std.proofs.Common.{◌≡◌, ℕ, zero, suc, ◌+◌, ◌<◌, Bool, true, false, cond, List, [], ◌∷◌, ◌++◌, length, get_or, map, take, drop, Some, None, refl, sym, ap, ◌∙◌, arith, append_assoc}
use Rattle.std.specs.Prelude.{filter, slice_get, slice_set}
use Rattle.std.specs.List.{flat_map}
use Rattle.std.proofs.lemmas.List.{append-nil, map-append}
use Rattle.super_version.specs.Levels.{item_changed_at}

module _ {A B : Type 0} (f : A → B) where
  pub map_more : (rs : List A) (i : ℕ) (r : A) → i < length rs → r ≡ get_or rs i r → map f (take (i + 1) rs) ≡ map f (take i rs) ++ f r ∷ []
  map_more [] i r l e = absurd (omega arith)
  map_more (x ∷ xs) zero r l e = ap (λ y. f y ∷ []) (sym e)
  map_more (x ∷ xs) (suc i) r l e = let n : suc i + 1 ≡ suc (i + 1) = omega arith in rw n (ap (λ ys. f x ∷ ys) (map_more xs i r (omega arith) e))

  pub flat_more : {C : Type 0} (F : B → List C) (rs : List A) (i : ℕ) (r : A) → i < length rs → r ≡ get_or rs i r → flat_map F (map f (take (i + 1) rs)) ≡ flat_map F (map f (take i rs)) ++ F (f r)
  flat_more F [] i r l e = absurd (omega arith)
  flat_more F (x ∷ xs) zero r l e = append-nil (F (f x)) ∙ ap (λ y. F (f y)) (sym e)
  flat_more F (x ∷ xs) (suc i) r l e = let n : suc i + 1 ≡ suc (i + 1) = omega arith in rw n (ap (λ ys. F (f x) ++ ys) (flat_more F xs i r (omega arith) e) ∙ sym (after (F (f x)) (flat_map F (map f (take i xs))) (F (f r))))
    where
      after : {C : Type 0} (a b c : List C) → (a ++ b) ++ c ≡ a ++ (b ++ c)
      after [] b c = refl
      after (y ∷ ys) b c = ap (λ zs. y ∷ zs) (after ys b c)

-- ---- one item changed

pub changed_set : {X : Type 0} (n : ℕ) (change : X → X) (xs : List X) (x : X) → slice_get xs n ≡ Some x → slice_set xs n (change x) ≡ item_changed_at n change xs
changed_set n change [] x e = absurd cc
changed_set zero change (y ∷ ys) x e = let q : x ≡ y = cc in ap (λ z. change z ∷ ys) q
changed_set (suc n) change (y ∷ ys) x e = ap (λ zs. y ∷ zs) (changed_set n change ys x e)

pub changed_none : {X : Type 0} (n : ℕ) (change : X → X) (xs : List X) → slice_get xs n ≡ None → xs ≡ item_changed_at n change xs
changed_none n change [] e = refl
changed_none zero change (y ∷ ys) e = absurd cc
changed_none (suc n) change (y ∷ ys) e = ap (λ zs. y ∷ zs) (changed_none n change ys e)

pub changed_to : {X : Type 0} (n : ℕ) (change : X → X) (xs : List X) (x y : X) → Some x ≡ slice_get xs n → y ≡ change x → slice_set xs n y ≡ item_changed_at n change xs
changed_to n change xs x y e is = ap (slice_set xs n) is ∙ changed_set n change xs x (sym e)

pub inside : {X : Type 0} (n : ℕ) (xs : List X) (x : X) → slice_get xs n ≡ Some x → n < length xs
inside n [] x e = absurd cc
inside zero (y ∷ ys) x e = omega arith
inside (suc n) (y ∷ ys) x e = let r = inside n ys x e in omega arith

-- an item put in the place of another
pub set_parts : {A B : Type 0} (f : A → B) (xs : List A) (n : ℕ) (item : A) → n < length xs → map f (take n xs) ++ f item ∷ map f (drop 1 (drop n xs)) ≡ slice_set (map f xs) n (f item)
set_parts f [] n item l = absurd (omega arith)
set_parts f (x ∷ xs) zero item l = refl
set_parts f (x ∷ xs) (suc n) item l = ap (λ ys. f x ∷ ys) (set_parts f xs n item (omega arith))

-- an item between two lists
pub between : {A B : Type 0} (f : A → B) (start first pushed out before after : List A) (item : A) → start ≡ [] → map f first ≡ map f start ++ map f before → pushed ≡ first ++ item ∷ [] → map f out ≡ map f pushed ++ map f after → map f out ≡ map f before ++ f item ∷ map f after
between f start first pushed out before after item e1 e2 e3 e4 =
    e4
    ∙ ap (λ l. map f l ++ map f after) e3
    ∙ ap (λ l. l ++ map f after) (map-append f first (item ∷ []) ∙ ap (λ l. l ++ f item ∷ []) (e2 ∙ ap (λ l. map f l ++ map f before) e1))
    ∙ append_assoc (map f before) (f item ∷ []) (map f after)

-- in the place of another
pub in_place : {A B : Type 0} (f : A → B) (out before after xs : List A) (item : A) (n : ℕ) → map f out ≡ map f before ++ f item ∷ map f after → before ≡ take n xs → after ≡ drop 1 (drop n xs) → n < length xs → map f out ≡ slice_set (map f xs) n (f item)
in_place f out before after xs item n e e5 e6 l =
    e
    ∙ ap (λ l. map f l ++ f item ∷ map f after) e5
    ∙ ap (λ l. map f (take n xs) ++ f item ∷ map f l) e6
    ∙ set_parts f xs n item l

pub map_take : {A B : Type 0} (f : A → B) (n : ℕ) (xs : List A) → map f (take n xs) ≡ take n (map f xs)
map_take f n [] = elim n as (λ k. map f (take k []) ≡ take k []) [ zero ↦ refl | suc k ↦ refl ]
map_take f zero (x ∷ xs) = refl
map_take f (suc n) (x ∷ xs) = ap (λ ys. f x ∷ ys) (map_take f n xs)

-- ---- those that pass a test

pub filter_more : {A B : Type 0} (f : A → B) (p : B → Bool) (rs : List A) (i : ℕ) (r : A) → i < length rs → r ≡ get_or rs i r → filter p (map f (take (i + 1) rs)) ≡ filter p (map f (take i rs)) ++ cond (p (f r)) (f r ∷ []) []
filter_more f p [] i r l e = absurd (omega arith)
filter_more f p (x ∷ xs) zero r l e = ap (λ y. cond (p (f y)) (f y ∷ []) []) (sym e)
filter_more f p (x ∷ xs) (suc i) r l e =
    let n : suc i + 1 ≡ suc (i + 1) = omega arith in
    rw n (ap (λ ys. cond (p (f x)) (f x ∷ ys) ys) (filter_more f p xs i r (omega arith) e) ∙ out (p (f x)) (f x) (filter p (map f (take i xs))) (cond (p (f r)) (f r ∷ []) []))
  where
    out : {C : Type 0} (b : Bool) (y : C) (ys zs : List C) → cond b (y ∷ (ys ++ zs)) (ys ++ zs) ≡ cond b (y ∷ ys) ys ++ zs
    out true y ys zs = refl
    out false y ys zs = refl

pub length_map : {A B : Type 0} (f : A → B) (xs : List A) → length (map f xs) ≡ length xs
length_map f [] = refl
length_map f (x ∷ xs) = ap suc (length_map f xs)
