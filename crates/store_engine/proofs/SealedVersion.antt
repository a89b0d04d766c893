-- A super version with a family sealed.
use Rattle.std.proofs.Common.{◌≡◌, ℕ, zero, suc, ◌<◌, ◌≤◌, ◌==◌, Bool, true, false, not, List, [], ◌∷◌, ◌++◌, length, map, reverse, Some, None, refl, sym, ap, ◌∙◌, arith}
use Rattle.std.proofs.lemmas.Bool.{false≢true, ne_eqb}
use Rattle.std.proofs.lemmas.List.{map-append, reverse-append}
use Rattle.std.specs.Prelude.{slice_get}
use Rattle.super_version.specs.Levels.{item_changed_at}

-- the place of a change is one of the list's
pub changed_there : {X : Type 0} (n : ℕ) (change : X → X) (xs : List X) → n < length xs → slice_get (item_changed_at n change xs) n ≡ None → ⊥
changed_there n change [] low none = absurd (omega (arith, low))
changed_there zero change (x ∷ xs) low none = cc
changed_there (suc n) change (x ∷ xs) low none = changed_there n change xs (omega (arith, low)) none

-- a list from its last item on, item by item
pub map_reverse : {X Y : Type 0} (f : X → Y) (xs : List X) → map f (reverse xs) ≡ reverse (map f xs)
map_reverse f [] = refl
map_reverse f (x ∷ xs) = ap (map f) (reverse-append (x ∷ []) xs) ∙ map-append f (reverse xs) (x ∷ []) ∙ ap (λ z. z ++ f x ∷ []) (map_reverse f xs) ∙ sym (reverse-append (f x ∷ []) (map f xs))

-- what a test for an item says
pub none_there : {X : Type 0} (xs : List X) (b : Bool) → b ≡ not (length xs == 0) → b ≡ false → xs ≡ []
none_there [] b is no_item = refl
none_there (x ∷ xs) b is no_item = absurd (let e : (length (x ∷ xs) == 0) ≡ false = ne_eqb (length (x ∷ xs)) 0 (λ q. omega (arith, q)) in false≢true (sym no_item ∙ is ∙ ap not e))

pub some_there : {X : Type 0} (xs : List X) (b : Bool) → b ≡ not (length xs == 0) → b ≡ true → 1 ≤ length xs
some_there [] b is item = absurd (false≢true (sym is ∙ item))
some_there (x ∷ xs) b is item = omega arith

-- an item that is got is at a place of the list
pub got_within : {X : Type 0} (xs : List X) (n : ℕ) (x : X) → slice_get xs n ≡ Some x → n < length xs
got_within [] n x there = absurd (let e : None ≡ Some x = there in cc)
got_within (y ∷ ys) zero x there = omega arith
got_within (y ∷ ys) (suc n) x there = let r = got_within ys n x there in omega (arith, r)
