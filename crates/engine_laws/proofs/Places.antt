-- Places in lists, and filters.
use Rattle.std.proofs.Common.{◌≡◌, ◌⊎◌, ℕ, zero, suc, Bool, List, [], ◌∷◌, map, length, Some, refl, ap, inl, inr, arith}
use Rattle.std.specs.Prelude.{slice_get, slice_set}
use Rattle.std.specs.List.{filter}
use Rattle.std.proofs.lemmas.Bool.{cases_Bool}
use Rattle.floor_laws.proofs.Members.{In}
use Rattle.floor_laws.proofs.States.{some_same}

-- two filters in either order
pub filter_swap : {X : Type 0} (p q : X → Bool) (xs : List X) → filter p (filter q xs) ≡ filter q (filter p xs)
filter_swap p q [] = refl
filter_swap p q (x ∷ xs) =
    let h = filter_swap p q xs in
    elim (cases_Bool (p x)) [
      | inl a ↦ elim (cases_Bool (q x)) [ inl b ↦ rw (a, b) (rw a (ap (λ z. x ∷ z) h)) | inr b ↦ rw (a, b) h ]
      | inr a ↦ elim (cases_Bool (q x)) [ inl b ↦ rw (a, b) (rw a h) | inr b ↦ rw (a, b) h ]
    ]

pub filter-map : {X Y : Type 0} (p : Y → Bool) (g : X → Y) (xs : List X) → filter p (map g xs) ≡ map g (filter (λ x. p (g x)) xs)
filter-map p g [] = refl
filter-map p g (x ∷ xs) =
    let h = filter-map p g xs in
    elim (cases_Bool (p (g x))) [ inl a ↦ rw a (ap (λ z. g x ∷ z) h) | inr a ↦ rw a h ]

pub get-map : {X Y : Type 0} (g : X → Y) (xs : List X) (i : ℕ) (y : Y) → slice_get (map g xs) i ≡ Some y → (x : X) × (slice_get xs i ≡ Some x) × (g x ≡ y)
get-map g [] i y h = absurd (cc)
get-map g (x ∷ xs) zero y h = (x, refl, some_same (g x) y h)
get-map g (x ∷ xs) (suc i) y h = get-map g xs i y h

pub map-get : {X Y : Type 0} (g : X → Y) (xs : List X) (i : ℕ) (x : X) → slice_get xs i ≡ Some x → slice_get (map g xs) i ≡ Some (g x)
map-get g [] i x h = absurd (cc)
map-get g (z ∷ xs) zero x h = ap (λ y. Some (g y)) (some_same z x h)
map-get g (z ∷ xs) (suc i) x h = map-get g xs i x h

pub get-In : {X : Type 0} (xs : List X) (i : ℕ) (x : X) → slice_get xs i ≡ Some x → In x xs
get-In [] i x h = absurd (cc)
get-In (z ∷ xs) zero x h = inl (some_same z x h)
get-In (z ∷ xs) (suc i) x h = inr (get-In xs i x h)

pub In-get : {X : Type 0} (xs : List X) (x : X) → In x xs → (i : ℕ) × (slice_get xs i ≡ Some x)
In-get [] x h = absurd h
In-get (y ∷ xs) x (inl q) = (0, ap Some q)
In-get (y ∷ xs) x (inr h) = let r = In-get xs x h in (suc r.0, r.1)

-- what stands at a place once another one is set
pub get-set : {X : Type 0} (xs : List X) (n k : ℕ) (y x : X) → slice_get (slice_set xs n y) k ≡ Some x → ((k ≡ n) × (y ≡ x)) ⊎ ((k ≡ n → ⊥) × (slice_get xs k ≡ Some x))
get-set [] n k y x h = absurd (cc)
get-set (z ∷ xs) zero zero y x h = inl (refl, some_same y x h)
get-set (z ∷ xs) zero (suc k) y x h = inr ((λ q. omega arith), h)
get-set (z ∷ xs) (suc n) zero y x h = inr ((λ q. omega arith), h)
get-set (z ∷ xs) (suc n) (suc k) y x h = elim (get-set xs n k y x h) [ inl a ↦ inl (ap suc a.0, a.1) | inr a ↦ inr ((λ q. a.0 (omega arith)), a.1) ]

pub length-set : {X : Type 0} (xs : List X) (i : ℕ) (x : X) → length (slice_set xs i x) ≡ length xs
length-set [] i x = refl
length-set (z ∷ xs) zero x = refl
length-set (z ∷ xs) (suc i) x = ap suc (length-set xs i x)

-- two maps that agree on the elements
pub map_same : {X Y : Type 0} (g h : X → Y) (xs : List X) → ((x : X) → In x xs → g x ≡ h x) → map g xs ≡ map h xs
map_same g h [] k = refl
map_same g h (x ∷ xs) k = let e = k x (inl refl) in let t = map_same g h xs (λ z i. k z (inr i)) in cc
