-- The first element that passes a test.
use Rattle.std.proofs.Common.{◌≡◌, ℕ, zero, suc, ◌<◌, ◌≤◌, Bool, true, false, cond, List, [], ◌∷◌, length, get_or, take, drop, Option, Some, None, refl, sym, ap, subst, ◌∙◌, inl, inr, arith}
use Rattle.std.specs.Prelude.{find, option_map, slice_get, IfSome, Contains}
use Rattle.std.specs.Borrow.{Bor}
use Rattle.std.specs.Option.{option_copied}
use Rattle.std.specs.List.{AllWithin}
use Rattle.std.proofs.lemmas.Bool.{cases_Bool}
use Rattle.ts_key.specs.declared.version.Version.{Version}
use Rattle.ts_key.specs.Items.{Item, item_of, items_of}
use Rattle.ts_key.specs.Visible.{first_of}

-- what fails at the front may be left out
pub find-drop : {X : Type 0} (p : X → Bool) (xs : List X) (n : ℕ) → AllWithin (λ x. p x ≡ false) xs 0 n → find p (drop n xs) ≡ find p xs
find-drop p xs zero h = refl
find-drop p [] (suc n) h = refl
find-drop p (x ∷ xs) (suc n) h =
    let y : p x ≡ false = h 0 x (omega arith) (omega arith) in
    find-drop p xs n (λ k d l m. h (suc k) d (omega arith) (omega arith)) ∙ (rw y refl)

pub find_none : {X : Type 0} (p : X → Bool) (xs : List X) → AllWithin (λ x. p x ≡ false) xs 0 (length xs) → find p xs ≡ None
find_none p [] h = refl
find_none p (x ∷ xs) h =
    let y : p x ≡ false = h 0 x (omega arith) (omega arith) in
    rw y (find_none p xs (λ k d l m. h (suc k) d (omega arith) (omega arith)))

-- and so may what fails at the end
pub find-take : {X : Type 0} (p : X → Bool) (xs : List X) (n : ℕ) → AllWithin (λ x. p x ≡ false) xs n (length xs) → find p (take n xs) ≡ find p xs
find-take p [] zero h = refl
find-take p [] (suc n) h = refl
find-take p (x ∷ xs) zero h = sym (find_none p (x ∷ xs) h)
find-take p (x ∷ xs) (suc n) h = ap (λ r. cond (p x) (Some x) r) (find-take p xs n (λ k d l m. h (suc k) d (omega arith) (omega arith)))

pub find_alike : {X : Type 0} (p q : X → Bool) (xs : List X) → AllWithin (λ x. p x ≡ q x) xs 0 (length xs) → find p xs ≡ find q xs
find_alike p q [] h = refl
find_alike p q (x ∷ xs) h =
    let y : p x ≡ q x = h 0 x (omega arith) (omega arith) in
    λ i. cond (y i) (Some x) (find_alike p q xs (λ k d l m. h (suc k) d (omega arith) (omega arith)) i)

pub find_items : (p : Item → Bool) (vs : List Version) → option_map item_of (find (λ v. p (item_of v)) vs) ≡ first_of p (items_of vs)
find_items p [] = refl
find_items p (v ∷ vs) =
    elim (cases_Bool (p (item_of v))) [
      | inl y ↦ rw y refl
      | inr y ↦ rw y (find_items p vs)
    ]

pub find_among : {X : Type 0} (p : X → Bool) (xs : List X) → IfSome (find p xs) (Contains xs)
find_among p [] = tt
find_among p (x ∷ xs) = at (p x) (find p xs) (find_among p xs)
  where
    later : (o : Option _) → IfSome o (Contains xs) → IfSome o (Contains (x ∷ xs))
    later None h = tt
    later (Some y) h = (suc h.0, omega (arith, h.1), h.2)

    at : (b : Bool) (o : Option _) → IfSome o (Contains xs) → IfSome (cond b (Some x) o) (Contains (x ∷ xs))
    at true o h = (0, omega arith, refl)
    at false o h = later o h

-- ---- the head of a list

pub head_none : {X : Type 0} (p : X → Bool) (xs : List X) → None ≡ slice_get xs 0 → find p xs ≡ None
head_none p [] e = refl
head_none p (x ∷ xs) e = absurd cc

pub head_some : {X : Type 0} (p : X → Bool) (xs : List X) (x : X) → Some x ≡ slice_get xs 0 → p x ≡ true → find p xs ≡ Some x
head_some p [] x e h = absurd cc
head_some p (y ∷ ys) x e h =
    let q : x ≡ y = cc in
    let z : p y ≡ true = ap p (sym q) ∙ h in
    rw z (ap Some (sym q))

-- ---- parts of a list

pub drop_past : {X : Type 0} (xs : List X) (n : ℕ) → length xs ≤ n → drop n xs ≡ []
drop_past [] zero l = refl
drop_past [] (suc n) l = refl
drop_past (x ∷ xs) zero l = absurd (omega arith)
drop_past (x ∷ xs) (suc n) l = drop_past xs n (omega arith)

pub within-drop : {X : Type 0} (P : X → Type 0) (xs : List X) (n : ℕ) → AllWithin P xs n (length xs) → AllWithin P (drop n xs) 0 (length (drop n xs))
within-drop P xs zero h = h
within-drop P [] (suc n) h = λ k d l m. absurd (omega arith)
within-drop P (x ∷ xs) (suc n) h = within-drop P xs n (λ k d l m. h (suc k) d (omega arith) (omega arith))

-- the element at an index, whatever stands in for one that is missing
pub at_same : {X : Type 0} (xs : List X) (i : ℕ) (x y : X) → i < length xs → x ≡ get_or xs i x → y ≡ get_or xs i y → x ≡ y
at_same [] i x y l e f = absurd (omega arith)
at_same (z ∷ zs) zero x y l e f = e ∙ sym f
at_same (z ∷ zs) (suc i) x y l e f = at_same zs i x y (omega arith) e f

-- ---- what is lent

pub lent_some : {X : Type 0} (P : X → Type 0) (lent : Option (Bor X)) (o : Option X) → option_copied lent ≡ o → IfSome o P → IfSome lent (λ x. P x.now)
lent_some P None o e h = tt
lent_some P (Some x) o e h = subst (λ (q : Option _). IfSome q P) (sym e) h

pub option_map-twice : {X Y Z : Type 0} (f : Y → Z) (g : X → Y) (o : Option X) → option_map f (option_map g o) ≡ option_map (λ x. f (g x)) o
option_map-twice f g None = refl
option_map-twice f g (Some x) = refl

-- ---- a list in two parts

pub within-take : {X : Type 0} (P : X → Type 0) (xs : List X) (n : ℕ) → n ≤ length xs → AllWithin P (take n xs) 0 (length (take n xs)) → AllWithin P xs 0 n
within-take P xs zero l h = λ k d a b. absurd (omega arith)
within-take P [] (suc n) l h = absurd (omega arith)
within-take P (x ∷ xs) (suc n) l h = front (h 0 x (omega arith) (omega arith)) (within-take P xs n (omega arith) (λ k d a b. h (suc k) d (omega arith) (omega arith)))
  where
    front : P x → AllWithin P xs 0 n → AllWithin P (x ∷ xs) 0 (suc n)
    front p g zero d a b = p
    front p g (suc k) d a b = g k d (omega arith) (omega arith)

pub within-back : {X : Type 0} (P : X → Type 0) (xs : List X) (n : ℕ) → AllWithin P (drop n xs) 0 (length (drop n xs)) → AllWithin P xs n (length xs)
within-back P xs zero h = h
within-back P [] (suc n) h = λ k d a b. absurd (omega arith)
within-back P (x ∷ xs) (suc n) h = later (within-back P xs n h)
  where
    later : AllWithin P xs n (length xs) → AllWithin P (x ∷ xs) (suc n) (length (x ∷ xs))
    later g zero d a b = absurd (omega arith)
    later g (suc k) d a b = g k d (omega arith) (omega arith)

pub at_index : {X : Type 0} (xs : List X) (i : ℕ) (x d : X) → Some x ≡ slice_get xs i → get_or xs i d ≡ x
at_index [] i x d e = absurd cc
at_index (y ∷ ys) zero x d e = cc
at_index (y ∷ ys) (suc i) x d e = at_index ys i x d e
