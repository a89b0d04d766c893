-- What is in a list.
use Rattle.std.proofs.Common.{◌≡◌, ◌⊎◌, ℕ, zero, suc, ◌<◌, Bool, true, false, List, [], ◌∷◌, ◌++◌, length, map, refl, sym, ap, ◌∙◌, inl, inr, arith}
use Rattle.std.specs.Prelude.{All, Contains, slice_index_or}
use Rattle.std.specs.List.{filter, list_any, list_all}
use Rattle.std.proofs.lemmas.Bool.{cases_Bool, and_parts, or_left, or_right, or_cases, false≢true}
use Rattle.std.proofs.lemmas.List.Elements.{All-contains, All-cons, All-nil}

-- `Contains`, by recursion on the list
abbrev pub In : {X : Type 0} → X → List X → Type 0
In v [] = ⊥
In v (x ∷ xs) = (x ≡ v) ⊎ In v xs

pub In-contains : {X : Type 0} (xs : List X) (v : X) → In v xs → Contains xs v
In-contains [] v h = absurd h
In-contains (x ∷ xs) v (inl q) = (0, omega arith, q)
In-contains (x ∷ xs) v (inr h) = let r = In-contains xs v h in let l = r.1 in (suc r.0, omega (arith, l), r.2)

contains_at : {X : Type 0} (xs : List X) (v : X) (k : ℕ) → k < length xs → slice_index_or xs k v ≡ v → In v xs
contains_at [] v k h e = absurd (omega arith)
contains_at (x ∷ xs) v zero h e = inl e
contains_at (x ∷ xs) v (suc k) h e = inr (contains_at xs v k (omega arith) e)

pub contains_In : {X : Type 0} (xs : List X) (v : X) → Contains xs v → In v xs
contains_In xs v h = contains_at xs v h.0 h.1 h.2

pub All-In : {X : Type 0} (P : X → Type 0) (xs : List X) (v : X) → All P xs → In v xs → P v
All-In P xs v h i = All-contains P xs v h (In-contains xs v i)

pub All-from : {X : Type 0} (P : X → Type 0) (xs : List X) → ((v : X) → In v xs → P v) → All P xs
All-from P [] h = All-nil P
All-from P (x ∷ xs) h = All-cons P x xs (h x (inl refl)) (All-from P xs (λ v i. h v (inr i)))

-- each of the one list is in the other
abbrev pub Within : {X : Type 0} → List X → List X → Type 0
Within {X} v w = (x : X) → In x v → In x w

pub filter-In : {X : Type 0} (p : X → Bool) (v : X) (w : List X) → In v (filter p w) → In v w × (p v ≡ true)
filter-In p v [] h = absurd h
filter-In p v (x ∷ xs) h =
    elim (cases_Bool (p x)) [
      | inl y ↦ let h2 : In v (x ∷ filter p xs) = rw y at h in elim h2 [
        | inl q ↦ (inl q, ap p (sym q) ∙ y)
        | inr i ↦ let r = filter-In p v xs i in (inr r.0, r.1)
      ]
      | inr y ↦ let h2 : In v (filter p xs) = rw y at h in let r = filter-In p v xs h2 in (inr r.0, r.1)
    ]

pub In-filter : {X : Type 0} (p : X → Bool) (v : X) (xs : List X) → In v xs → p v ≡ true → In v (filter p xs)
In-filter p v [] h e = absurd h
In-filter p v (x ∷ xs) (inl q) e = let k : p x ≡ true = ap p q ∙ e in rw k (inl q)
In-filter p v (x ∷ xs) (inr h) e =
    let r = In-filter p v xs h e in
    elim (cases_Bool (p x)) [ inl y ↦ rw y (inr r) | inr y ↦ rw y r ]

pub In-left : {X : Type 0} (v : X) (xs ys : List X) → In v xs → In v (xs ++ ys)
In-left v [] ys h = absurd h
In-left v (x ∷ xs) ys (inl q) = inl q
In-left v (x ∷ xs) ys (inr h) = inr (In-left v xs ys h)

pub In-right : {X : Type 0} (v : X) (xs ys : List X) → In v ys → In v (xs ++ ys)
In-right v [] ys h = h
In-right v (x ∷ xs) ys h = inr (In-right v xs ys h)

pub In-append : {X : Type 0} (v : X) (xs ys : List X) → In v (xs ++ ys) → In v xs ⊎ In v ys
In-append v [] ys h = inr h
In-append v (x ∷ xs) ys (inl q) = inl (inl q)
In-append v (x ∷ xs) ys (inr h) = elim (In-append v xs ys h) [ inl i ↦ inl (inr i) | inr i ↦ inr i ]

pub In-map : {X Y : Type 0} (f : X → Y) (v : X) (xs : List X) → In v xs → In (f v) (map f xs)
In-map f v [] h = absurd h
In-map f v (x ∷ xs) (inl q) = inl (ap f q)
In-map f v (x ∷ xs) (inr h) = inr (In-map f v xs h)

pub map-In : {X Y : Type 0} (f : X → Y) (b : Y) (xs : List X) → In b (map f xs) → (a : X) × In a xs × (f a ≡ b)
map-In f b [] h = absurd h
map-In f b (x ∷ xs) (inl q) = (x, inl refl, q)
map-In f b (x ∷ xs) (inr h) = let r = map-In f b xs h in (r.0, inr r.1, r.2)

pub any-In : {X : Type 0} (p : X → Bool) (v : X) (w : List X) → In v w → p v ≡ true → list_any p w ≡ true
any-In p v [] h e = absurd h
any-In p v (x ∷ xs) (inl q) e = or_left (p x) (list_any p xs) (ap p q ∙ e)
any-In p v (x ∷ xs) (inr h) e = or_right (p x) (list_any p xs) (any-In p v xs h e)

pub In-any : {X : Type 0} (p : X → Bool) (w : List X) → list_any p w ≡ true → (v : X) × In v w × (p v ≡ true)
In-any p [] h = absurd (false≢true h)
In-any p (x ∷ xs) h =
    elim (or_cases (p x) (list_any p xs) h) [
      | inl y ↦ (x, inl refl, y)
      | inr y ↦ let r = In-any p xs y in (r.0, inr r.1, r.2)
    ]

pub none-any : {X : Type 0} (p : X → Bool) (w : List X) → ((v : X) → In v w → p v ≡ true → ⊥) → list_any p w ≡ false
none-any p w h =
    elim (cases_Bool (list_any p w)) [
      | inl y ↦ let r = In-any p w y in absurd (h r.0 r.1 r.2)
      | inr y ↦ y
    ]

pub all-In : {X : Type 0} (p : X → Bool) (x : X) (xs : List X) → list_all p xs ≡ true → In x xs → p x ≡ true
all-In p x [] h i = absurd i
all-In p x (y ∷ ys) h (inl q) = sym (ap p q) ∙ (and_parts (p y) (list_all p ys) h).0
all-In p x (y ∷ ys) h (inr i) = all-In p x ys (and_parts (p y) (list_all p ys) h).1 i

pub filter_none : {X : Type 0} (p : X → Bool) (xs : List X) → ((v : X) → In v xs → p v ≡ false) → filter p xs ≡ []
filter_none p [] h = refl
filter_none p (x ∷ xs) h = let e = h x (inl refl) in rw e (filter_none p xs (λ v i. h v (inr i)))

pub filter_every : {X : Type 0} (p : X → Bool) (xs : List X) → ((v : X) → In v xs → p v ≡ true) → filter p xs ≡ xs
filter_every p [] h = refl
filter_every p (x ∷ xs) h = let e = h x (inl refl) in rw e (ap (λ z. x ∷ z) (filter_every p xs (λ v i. h v (inr i))))

-- a filter that lets through all that another does
pub filter_within : {X : Type 0} (p q : X → Bool) (xs : List X) → ((x : X) → p x ≡ true → q x ≡ true) → filter p (filter q xs) ≡ filter p xs
filter_within p q [] h = refl
filter_within p q (x ∷ xs) h =
    let k = filter_within p q xs h in
    elim (cases_Bool (p x)) [
      | inl a ↦ let b = h x a in rw (a, b) (rw a (ap (λ z. x ∷ z) k))
      | inr a ↦ elim (cases_Bool (q x)) [ inl b ↦ rw (a, b) (rw a k) | inr b ↦ rw (a, b) k ]
    ]
