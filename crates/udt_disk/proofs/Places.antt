-- What stands under a path after a change of one place.
use Rattle.std.proofs.Common.{◌≡◌, ◌≢◌, ℕ, ◌<◌, ◌≤◌, Bool, true, false, List, [], ◌∷◌, ◌++◌, Option, Some, None, length, get_or, set, refl, sym, ap, ◌∙◌, arith, position, rules, inl, inr, length-set, length-append}
use Rattle.std.specs.List.{position_or_len}
use Rattle.std.specs.Prelude.{IsSome}
use Rattle.std.proofs.lemmas.Slice.Eq.{bytes_eq-Decides}
use Rattle.std.proofs.lemmas.Bool.{false_from_ne_true, cases_Bool, false≢true}
use Rattle.std.proofs.lemmas.Bool.Decides.{nat_tests}
use Rattle.std.proofs.Math.ListN.{get_or-append}
use Rattle.std.proofs.Math.Seq.{get_or-append_seam}
use Rattle.std.proofs.lemmas.List.{get_or-set_same, get_or-set_other}
use Rattle.std.proofs.lemmas.List.Sums.{fails_before_first, passes_at_first}
use Rattle.std.proofs.lemmas.List.Folds.{position_or_len-set}
use Rattle.std.proofs.lemmas.List.Recursion.{found_at, found_nowhere, found_set_other, found_push_other}
use Rattle.udt_disk.specs.declared.mem_host.Place.{Place}
use Rattle.udt_disk.specs.declared.mem_host.Occupant.{Occupant}
use Rattle.udt_disk.specs.declared.mem_host.Occupant.TheVariants.{Nothing}
use Rattle.udt_disk.specs.Places.{has_path, stands_in, with_stands}
use Rattle.std.specs.Str.{bytes_eq}

position_none : {X : Type 0} (p : X → Bool) (xs : List X) → position p xs ≡ None → length xs ≤ position_or_len p xs
position_none p xs e = grind (arith, nat_tests)

position_some : {X : Type 0} (p : X → Bool) (xs : List X) (i : ℕ) → position p xs ≡ Some i → (i ≡ position_or_len p xs) × (i < length xs)
position_some p xs i e = grind (arith, nat_tests)

same_position : {X : Type 0} (p : X → Bool) (xs ys : List X) → position_or_len p xs ≡ position_or_len p ys → length xs ≡ length ys → position p xs ≡ position p ys
same_position p xs ys at long = rw (at, long) refl

path_differs : (path other : List ℕ) (place : Place) → has_path path place ≡ true → other ≢ path → has_path other place ≡ false
path_differs path other place h apart =
    false_from_ne_true (has_path other place) (λ t. apart (sym ((bytes_eq-Decides place.path other).0 t) ∙ (bytes_eq-Decides place.path path).0 h))

pub no_place : Place
no_place = record { path = []; stands = Nothing }

-- no source stands under a path that has no place
pub stands_in-none : (path : List ℕ) (places : List Place) → None ≡ position (has_path path) places → stands_in places path ≡ Nothing
stands_in-none path places e =
    found_nowhere (λ xs. stands_in xs path) (has_path path) (λ place. place.stands) Nothing refl (λ _ _. refl) places no_place
    (λ k h. fails_before_first (has_path path) places k no_place (omega (arith, position_none (has_path path) places (sym e))))

-- the source under a path that has a place
pub stands_in-at : (path : List ℕ) (places : List Place) (i : ℕ) (d : Place) → Some i ≡ position (has_path path) places → stands_in places path ≡ (get_or places i d).stands
stands_in-at path places i d e =
    let at = position_some (has_path path) places i (sym e) in
    found_at (λ xs. stands_in xs path) (has_path path) (λ place. place.stands) Nothing refl (λ _ _. refl) places i d at.1
    (λ k h. fails_before_first (has_path path) places k d (omega (arith, at.0)))
    (rw at.0 (passes_at_first (has_path path) places d (omega (arith, at.0, at.1))))

-- the source under a path whose place is written
pub stands_in-set : (path : List ℕ) (places : List Place) (i : ℕ) (place d : Place) → Some i ≡ position (has_path path) places → place.path ≡ (get_or places i d).path → stands_in (set places i place) path ≡ place.stands
stands_in-set path places i place d e same =
    let at = position_some (has_path path) places i (sym e) in
    let here : get_or (set places i place) i d ≡ place = get_or-set_same places i place d at.1 in
    found_at (λ xs. stands_in xs path) (has_path path) (λ p. p.stands) Nothing refl (λ _ _. refl) (set places i place) i d (omega (arith, at.1, length-set places i place))
    (λ k h. let apart : k ≢ i = omega arith in rw (get_or-set_other places i k place d apart) (fails_before_first (has_path path) places k d (omega (arith, at.0))))
    (rw here (rw same (rw at.0 (passes_at_first (has_path path) places d (omega (arith, at.0, at.1))))))
    ∙ ap (λ p. p.stands) here

-- the sources under the other paths
pub stands_in-set_other : (path other : List ℕ) (places : List Place) (i : ℕ) (place d : Place) → Some i ≡ position (has_path path) places → place.path ≡ (get_or places i d).path → other ≢ path → stands_in (set places i place) other ≡ stands_in places other
stands_in-set_other path other places i place d e same apart =
    let at = position_some (has_path path) places i (sym e) in
    let was : has_path path (get_or places i d) ≡ true = rw at.0 (passes_at_first (has_path path) places d (omega (arith, at.0, at.1))) in
    let differs : has_path other (get_or places i d) ≡ false = path_differs path other (get_or places i d) was apart in
    found_set_other (λ xs. stands_in xs other) (has_path other) (λ p. p.stands) Nothing refl (λ _ _. refl) places i place d differs (rw same differs)

-- a place more, of a path that has none
pub stands_in-push : (path : List ℕ) (places : List Place) (place : Place) → None ≡ position (has_path path) places → place.path ≡ path → stands_in (places ++ place ∷ []) path ≡ place.stands
stands_in-push path places place e same =
    let len = position_none (has_path path) places (sym e) in
    let here : get_or (places ++ place ∷ []) (length places) no_place ≡ place = get_or-append_seam places place [] no_place in
    found_at (λ xs. stands_in xs path) (has_path path) (λ p. p.stands) Nothing refl (λ _ _. refl) (places ++ place ∷ []) (length places) no_place (omega (arith, length-append places (place ∷ [])))
    (λ k h. rw (get_or-append places (place ∷ []) no_place k h) (fails_before_first (has_path path) places k no_place (omega arith)))
    (rw here (rw same ((bytes_eq-Decides path path).1 refl)))
    ∙ ap (λ p. p.stands) here

pub stands_in-push_other : (path other : List ℕ) (places : List Place) (place : Place) → place.path ≡ path → other ≢ path → stands_in (places ++ place ∷ []) other ≡ stands_in places other
stands_in-push_other path other places place same apart =
    found_push_other (λ xs. stands_in xs other) (has_path other) (λ p. p.stands) Nothing refl (λ _ _. refl) places place
    (path_differs path other place (rw same ((bytes_eq-Decides path path).1 refl)) apart)

module _ (path : List ℕ) (places new : List Place) (i : ℕ) (stands : Occupant) (at : Some i ≡ position (has_path path) places) (is : (d : Place) → new ≡ set places i (with_stands (get_or places i d) stands)) where
  pub exchanged : stands_in new path ≡ stands
  exchanged = ap (λ xs. stands_in xs path) (is no_place) ∙ stands_in-set path places i (with_stands (get_or places i no_place) stands) no_place at refl

  pub exchanged_others : (other : List ℕ) → other ≢ path → stands_in new other ≡ stands_in places other
  exchanged_others other apart =
      ap (λ xs. stands_in xs other) (is no_place) ∙ stands_in-set_other path other places i (with_stands (get_or places i no_place) stands) no_place at refl apart

  pub exchanged_places : (q : List ℕ) → position (has_path q) new ≡ position (has_path q) places
  exchanged_places q =
      let place = with_stands (get_or places i no_place) stands in
      ap (position (has_path q)) (is no_place) ∙ same_position (has_path q) (set places i place) places (position_or_len-set (has_path q) places i place no_place refl) (length-set places i place)

some_from : (r : Option ℕ) → (None ≡ r → ⊥) → IsSome r
some_from None h = absurd (h refl)
some_from (Some i) h = search rules

-- a place more, where nothing stands
module _ (path : List ℕ) (places : List Place) (place : Place) (at : None ≡ position (has_path path) places) (same : place.path ≡ path) (empty : place.stands ≡ Nothing) where
  pub pushed_place : IsSome (position (has_path path) (places ++ place ∷ []))
  pushed_place =
      let here : get_or (places ++ place ∷ []) (length places) no_place ≡ place = get_or-append_seam places place [] no_place in
      let passes : has_path path place ≡ true = rw same ((bytes_eq-Decides path path).1 refl) in
      some_from (position (has_path path) (places ++ place ∷ [])) (λ none. false≢true
      (sym (fails_before_first (has_path path) (places ++ place ∷ []) (length places) no_place (omega (arith, length-append places (place ∷ []), position_none (has_path path) (places ++ place ∷ []) (sym none))))
      ∙ ap (has_path path) here ∙ passes))

  pub pushed_stands : (q : List ℕ) → stands_in (places ++ place ∷ []) q ≡ stands_in places q
  pushed_stands q = elim (cases_Bool (bytes_eq q path)) [
    | inl t ↦ ap (stands_in (places ++ place ∷ [])) ((bytes_eq-Decides q path).0 t) ∙ stands_in-push path places place at same ∙ empty
        ∙ sym (stands_in-none path places at) ∙ ap (stands_in places) (sym ((bytes_eq-Decides q path).0 t))
    | inr f ↦ stands_in-push_other path q places place same (λ e. false≢true (sym f ∙ (bytes_eq-Decides q path).1 e))
  ]
