-- What a step of the top cursor makes of all.
use Rattle.std.proofs.Common.{◌≡◌, ◌≢◌, ℕ, zero, suc, ◌+◌, ◌-◌, ◌/◌, ◌<◌, ◌≤◌, List, [], ◌∷◌, length, get_or, set, Option, Some, None, refl, sym, ap, subst, ◌∙◌, arith}
use Rattle.std.specs.Prelude.{slice_get, All}
use Rattle.std.proofs.lemmas.List.{length-map}
use Rattle.std.proofs.lemmas.List.Elements.{All-map}
use Rattle.ts_key.specs.Order.{SortKey}
use Rattle.ts_key.specs.Items.{Item}
use Rattle.ts_key.specs.Lists.{IsOrdered, standing, onward}
use Rattle.merge_cursor.specs.Sides.{AreSidesCut, IsMerge, Side, all, front, front_of, key_in, passed, side, sides}
use Rattle.merge_cursor.specs.Cuts.{first_cut}
use Rattle.merge_cursor.specs.Shows.{ends_none, ends_passed}
use Rattle.merge_cursor.proofs.Loops.{side_at}
use Rattle.merge_cursor.proofs.Steps.{on_all, on_merge, on_passed, on_started, shown_is}
use Rattle.merge_tree.specs.Games.{AreWon, AreWonBut, front_at, winner_at}
use Rattle.merge_tree.proofs.Wins.{low_none, low_some, moved_but, some_low}

no_key : (o : Option Item) → key_in o ≡ None → o ≡ None
no_key None e = refl
no_key (Some v) e = absurd cc

standing_front : (vs : List Item) (p : ℕ) → 1 ≤ p → standing vs p ≡ slice_get vs (p - 1)
standing_front vs zero l = absurd (omega (arith, l))
standing_front vs (suc n) l = let e : suc n - 1 ≡ n = omega arith in ap (slice_get vs) (sym e)

module _ {C : Type 0} (items : C → List Item) (place : C → ℕ) where
  -- where a version is left there is a cursor
  pub some_cursor : (cs : List C) → passed (sides items place cs) < length (all (sides items place cs)) → 0 < length cs
  some_cursor [] l = absurd (omega (arith, l))
  some_cursor (c ∷ cs) l = omega arith

  other : (cs : List C) (k i : ℕ) (x : C) → i ≢ k → slice_get (sides items place (set cs k x)) i ≡ slice_get (sides items place cs) i
  other [] k i x ne = refl
  other (y ∷ ys) zero zero x ne = absurd (ne refl)
  other (y ∷ ys) zero (suc i) x ne = refl
  other (y ∷ ys) (suc k) zero x ne = refl
  other (y ∷ ys) (suc k) (suc i) x ne = other ys k i x (λ e. ne (ap suc e))

  sides_count : (cs : List C) (ws : List ℕ) → length ws ≡ length cs → length ws ≡ length (sides items place cs)
  sides_count cs ws count = count ∙ sym (length-map cs (side items place))

  pub first_is_cut : (cs : List C) → All (λ c. place c ≡ 1) cs → AreSidesCut (sides items place cs)
  first_is_cut cs first = first_cut (sides items place cs) (All-map (λ (s : Side). s.passed ≡ 0) (side items place) cs (λ k d l. let h = first k d l in omega (arith, h)))

  module _ (law : (c : C) → IsOrdered (items c)) (cs : List C) (ws : List ℕ)
      (cut : AreSidesCut (sides items place cs)) (started : All (λ y. 1 ≤ place y) cs) (count : length ws ≡ length cs) (won : AreWon (sides items place cs) ws)
      (first : ℕ) (at_top : first ≡ winner_at ws 1) (inside : first < length cs) (c : C) (is : c ≡ get_or cs first c)
    where
      abbrev ss : List Side
      ss = sides items place cs

      front_top : front_at ss (winner_at ws 1) ≡ front (side items place c)
      front_top = ap (front_at ss) (sym at_top) ∙ ap front_of (side_at items place cs first c inside is)

      merge_at : (p : SortKey) → front (side items place c) ≡ Some p → IsMerge ss first
      merge_at p e = subst (λ q. IsMerge ss q) (sym at_top) (record { cut = cut; low = low_some ss ws won (sides_count cs ws count) p (front_top ∙ e) })

      merge_none : front (side items place c) ≡ None → IsMerge ss (length ss)
      merge_none e = record { cut = cut; low = low_none ss ws won (sides_count cs ws count) (front_top ∙ e) }

      shown_by_front : (o : Option SortKey) → front (side items place c) ≡ o → standing (items c) (place c) ≡ slice_get (all ss) (passed ss)
      shown_by_front None e =
          let b : 1 ≤ place c = let x = started first c inside in let p : place c ≡ place (get_or cs first c) = ap place is in omega (arith, x, p) in
          standing_front (items c) (place c) b ∙ no_key (slice_get (items c) (place c - 1)) e ∙ sym (ends_none ss (length ss) (merge_none e) (omega arith))
      shown_by_front (Some p) e = shown_is items place law cs first c (merge_at p e) started inside is

      pub top_shown : standing (items c) (place c) ≡ slice_get (all ss) (passed ss)
      top_shown = shown_by_front (front (side items place c)) refl

      module _ (more : passed ss < length (all ss)) (x : C) (same : items x ≡ items c) (moves : place x ≡ onward (length (items c)) (place c)) where
        abbrev new : List Side
        new = sides items place (set cs first x)

        merge_by_front : (o : Option SortKey) → front (side items place c) ≡ o → IsMerge ss first
        merge_by_front None e = let n = ends_passed ss (length ss) (merge_none e) (omega arith) in absurd (omega (arith, n, more))
        merge_by_front (Some p) e = merge_at p e

        merge_now : IsMerge ss first
        merge_now = merge_by_front (front (side items place c)) refl

        pub step_all : all new ≡ all ss
        step_all = on_all items place law cs first c x merge_now started inside is same moves

        pub step_passed : passed new ≡ passed ss + 1
        step_passed = on_passed items place law cs first c x merge_now started inside is same moves

        pub step_started : All (λ y. 1 ≤ place y) (set cs first x)
        step_started = on_started items place law cs first c x merge_now started inside is same moves

        pub step_but : AreWonBut new ws ((length ws + first) / 2)
        step_but = moved_but ss ws won new first (λ i ne. ap front_of (other cs first i x ne))

        pub step_cut : (played : List ℕ) → length played ≡ length (set cs first x) → AreWon new played → AreSidesCut new
        step_cut played n w =
            let low = some_low new played w (sides_count (set cs first x) played n) (front_at new (winner_at played 1)) refl in
            (on_merge items place law cs first c x merge_now started inside is same moves low.0 low.1).cut
