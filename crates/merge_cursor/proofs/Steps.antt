-- What a step of one cursor makes of all.
use Rattle.std.proofs.Common.{◌≡◌, ℕ, zero, suc, ◌+◌, ◌-◌, ◌<◌, ◌≤◌, Bool, true, false, List, [], ◌∷◌, length, get_or, set, Option, Some, None, refl, sym, ap, subst, ◌∙◌, inl, inr, arith, get_or-set_same, get_or-set_other}
use Rattle.std.specs.Prelude.{slice_get, All, nat_le, if◌then◌else◌}
use Rattle.std.proofs.lemmas.Bool.{le-leb, cases_eq}
use Rattle.std.proofs.lemmas.List.{map-set, length-map}
use Rattle.std.proofs.lemmas.List.Elements.{All-set, All-map, All-head, All-tail}
use Rattle.std.proofs.lemmas.Option.{slice_get-get_or, slice_get_past}
use Rattle.ts_key.specs.Order.{SortKey, is_before}
use Rattle.ts_key.specs.Items.{Item}
use Rattle.ts_key.specs.Lists.{IsOrdered, standing, onward, below, joined_lists, merged}
use Rattle.ts_key.specs.Counts.{get_inside, count_of-stored}
use Rattle.ts_key.specs.Ordered.{past_end}
use Rattle.merge_cursor.specs.Sides.{Side, side, sides, key_in, front, back, front_of, back_of, passed, lists, all, is_lower, is_higher, IsLow, IsTop, AreSidesCut, IsMerge}
use Rattle.merge_cursor.specs.Cuts.{AreOrdered, moved, next_cut, prev_cut, prev_low, seek_cut, first_cut, end_cut}
use Rattle.merge_cursor.specs.Shows.{lists_same, passed_moved, shows_at, count_joined, passed_end}
use Rattle.merge_cursor.proofs.Loops.{side_at, side_or}

-- an item that a place is of
item_from : (o : Option Item) (p : Option SortKey) → key_in o ≡ p → (p ≡ None → ⊥) → (v : Item) × (o ≡ Some v) × (p ≡ Some v.sort_key)
item_from None p e n = absurd (n (sym e))
item_from (Some v) p e n = (v, refl, sym e)

pub none_some : (p : SortKey) → Some p ≡ None → ⊥
none_some p q = cc

module _ (ss : List Side) (low : ℕ) (m : IsMerge ss low) (sorted : AreOrdered ss) (inside : low < length ss) (s : Side) (is : s ≡ get_or ss low s) where
  here : slice_get ss low ≡ Some s
  here = slice_get-get_or ss low s inside ∙ ap Some (sym is)

  pub front_here : (v : Item) × (slice_get s.versions s.passed ≡ Some v) × (front_of (slice_get ss low) ≡ Some v.sort_key)
  front_here = item_from (slice_get s.versions s.passed) (front_of (slice_get ss low)) (sym (ap front_of here)) (λ q. let n = m.low.none q in omega (arith, n))

  pub on_cut : AreSidesCut (set ss low (moved s (suc s.passed)))
  on_cut =
      let v = front_here in
      next_cut ss low s v.0 sorted m.cut inside is v.1
      (λ k d l. ap (is_lower (front (get_or ss k d))) (sym v.2) ∙ m.low.least k d l)
      (λ k d o l. m.low.first v.0.sort_key v.2 k d o l)

pub standing_at : (vs : List Item) (n : ℕ) (before : Bool) → before ≡ false → standing vs (if before then 0 else n + 1) ≡ slice_get vs n
standing_at vs n true e = absurd cc
standing_at vs n false e = let q : n + 1 ≡ suc n = omega arith in ap (standing vs) q

module _ {C : Type 0} (items : C → List Item) (place : C → ℕ) where
  pub are_sorted : ((c : C) → IsOrdered (items c)) → (cs : List C) → AreOrdered (sides items place cs)
  are_sorted law cs = All-map (λ (s : Side). IsOrdered s.versions) (side items place) cs (λ k d l. law (get_or cs k d))

  -- the cursor that moved has another count_of of versions behind it
  set_side : (cs : List C) (k : ℕ) (c x : C) (n : ℕ) → items x ≡ items c → place x - 1 ≡ n → sides items place (set cs k x) ≡ set (sides items place cs) k (moved (side items place c) n)
  set_side cs k c x n e q = map-set (side items place) cs k x ∙ ap (set (sides items place cs) k) (λ i. record { versions = e i; passed = q i })

  onward_is : (len p : ℕ) → p ≤ len → onward len p ≡ p + 1
  onward_is len p h = let y : nat_le p len ≡ true = le-leb p len h in rw y refl

  module _ (law : (c : C) → IsOrdered (items c)) (cs : List C) (low : ℕ) (c x : C)
      (m : IsMerge (sides items place cs) low) (started : All (λ y. 1 ≤ place y) cs) (inside : low < length cs) (is : c ≡ get_or cs low c)
      (same : items x ≡ items c) (moves : place x ≡ onward (length (items c)) (place c))
    where
      abbrev ss : List Side
      ss = sides items place cs

      abbrev s : Side
      s = side items place c

      abbrev new : List C
      new = set cs low x

      in_sides : low < length ss
      in_sides = let e = length-map cs (side items place) in omega arith

      side_is : s ≡ get_or ss low s
      side_is = sym (side_or items place cs low c s inside is)

      place_is : place x ≡ place c + 1
      place_is =
          let f = front_here ss low m (are_sorted law cs) in_sides s side_is in
          let l = get_inside (items c) (place c - 1) f.0 f.1 in
          let b = started low c inside in
          let p : place c ≡ place (get_or cs low c) = ap place is in
          moves ∙ onward_is (length (items c)) (place c) (omega (arith, l, b, p))

      sides_on : sides items place new ≡ set ss low (moved s (suc s.passed))
      sides_on =
          let b = started low c inside in
          let p : place c ≡ place (get_or cs low c) = ap place is in
          set_side cs low c x (suc s.passed) same (omega (arith, place_is, b, p))

      pub on_merge : (low' : ℕ) → IsLow (sides items place new) low' → IsMerge (sides items place new) low'
      on_merge low' f = record {
        cut = subst AreSidesCut (sym sides_on) (on_cut ss low m (are_sorted law cs) in_sides s side_is);
        low = f;
      }

      pub on_all : all (sides items place new) ≡ all ss
      on_all = ap all sides_on ∙ ap merged (lists_same ss low s (suc s.passed) in_sides side_is)

      pub on_passed : passed (sides items place new) ≡ passed ss + 1
      on_passed = let h = passed_moved ss low s (suc s.passed) in_sides side_is in let e = ap passed sides_on in omega (arith, h, e)

      pub on_started : All (λ y. 1 ≤ place y) new
      on_started = All-set (λ y. 1 ≤ place y) cs low x (omega (arith, place_is)) started

  -- ---- one back

  no_back : (o : Option Item) → is_higher (key_in o) None ≡ false → o ≡ None
  no_back None h = refl
  no_back (Some v) h = absurd cc

  stand_none : (vs : List Item) (n : ℕ) → standing vs n ≡ None → n ≤ length vs → n ≡ 0
  stand_none vs zero e l = refl
  stand_none vs (suc n) e l = absurd (past_end vs n e l)

  stand_some : (vs : List Item) (p : ℕ) (v : Item) → standing vs p ≡ Some v → (n : ℕ) × (p ≡ suc n) × (slice_get vs n ≡ Some v)
  stand_some vs zero v e = absurd cc
  stand_some vs (suc n) v e = (n, refl, e)

  none_passed : (ss : List Side) → All (λ s. s.passed ≡ 0) ss → passed ss ≡ 0
  none_passed [] h = refl
  none_passed (s ∷ ss) h = let x = All-head (λ (y : Side). y.passed ≡ 0) s ss h in let r = none_passed ss (All-tail (λ (y : Side). y.passed ≡ 0) s ss h) in omega (arith, x, r)

  module _ (law : (c : C) → IsOrdered (items c)) (cs : List C) (low top : ℕ)
      (m : IsMerge (sides items place cs) low) (started : All (λ y. 1 ≤ place y) cs)
      (high : IsTop (sides items place cs) top)
    where
      abbrev all_sides : List Side
      all_sides = sides items place cs

      pub back_none : length cs ≤ top → passed all_sides ≡ 0
      back_none l =
          let len = length-map cs (side items place) in
          let none : back_of (slice_get all_sides top) ≡ None = ap back_of (slice_get_past all_sides top (omega arith)) in
          none_passed all_sides (λ k d i.
          let s = get_or all_sides k d in
          let a : is_higher (back s) None ≡ false = ap (is_higher (back s)) (sym none) ∙ high.most k d i in
          stand_none s.versions s.passed (no_back (standing s.versions s.passed) a) (m.cut.inside k d i))

      module _ (c x : C) (inside : top < length cs) (is : c ≡ get_or cs top c) (same : items x ≡ items c) (moves : place x ≡ place c - 1) where
        abbrev old_side : Side
        old_side = side items place c

        abbrev back_new : List C
        back_new = set cs top x

        in_all : top < length all_sides
        in_all = let e = length-map cs (side items place) in omega arith

        old_is : old_side ≡ get_or all_sides top old_side
        old_is = sym (side_or items place cs top c old_side inside is)

        found : (v : Item) × (standing old_side.versions old_side.passed ≡ Some v) × (back_of (slice_get all_sides top) ≡ Some v.sort_key)
        found = item_from (standing old_side.versions old_side.passed) (back_of (slice_get all_sides top)) (sym (ap back_of (side_at items place cs top c inside is))) (λ q. let n = high.none q in omega (arith, n, in_all))

        last : (n : ℕ) × (old_side.passed ≡ suc n) × (slice_get old_side.versions n ≡ Some found.0)
        last = stand_some old_side.versions old_side.passed found.0 found.1

        sides_back : sides items place back_new ≡ set all_sides top (moved old_side last.0)
        sides_back = set_side cs top c x last.0 same (let p = last.1 in omega (arith, p, moves))

        most : (k : ℕ) (d : Side) → k < length all_sides → is_higher (back (get_or all_sides k d)) (Some found.0.sort_key) ≡ false
        most k d l = ap (is_higher (back (get_or all_sides k d))) (sym found.2) ∙ high.most k d l

        pub back_merge : IsMerge (sides items place back_new) top
        back_merge =
            let so = are_sorted law cs in
            let lasts = λ (k : ℕ) (d : Side) (o : top < k) (l : k < length all_sides). high.last found.0.sort_key found.2 k d o l in
            subst (λ t. IsMerge t top) (sym sides_back) (record {
              cut = prev_cut all_sides top old_side found.0 so m.cut in_all old_is last.0 last.1 last.2 most lasts;
              low = prev_low all_sides top old_side found.0 so m.cut in_all old_is last.0 last.1 last.2 most lasts;
            })

        pub back_all : all (sides items place back_new) ≡ all all_sides
        back_all = ap all sides_back ∙ ap merged (lists_same all_sides top old_side last.0 in_all old_is)

        pub back_passed : passed (sides items place back_new) + 1 ≡ passed all_sides
        back_passed = let h = passed_moved all_sides top old_side last.0 in_all old_is in let e = ap passed sides_back in let p = last.1 in omega (arith, h, e, p)

        pub back_started : All (λ y. 1 ≤ place y) back_new
        back_started = All-set (λ y. 1 ≤ place y) cs top x (let p = last.1 in omega (arith, p, moves)) started

  -- ---- all to a place

  module _ (law : (c : C) → IsOrdered (items c)) (old new : List C) (to : SortKey)
      (same : lists (sides items place new) ≡ lists (sides items place old))
      (at : All (λ c. place c ≡ below to (items c) + 1) new)
    where
      abbrev to_sides : List Side
      to_sides = sides items place new

      are_to : All (λ s. s.passed ≡ below to s.versions) to_sides
      are_to = All-map (λ (s : Side). s.passed ≡ below to s.versions) (side items place) new (λ k d l. let h = at k d l in omega (arith, h))

      pub seek_merge : (low : ℕ) → IsLow to_sides low → IsMerge to_sides low
      seek_merge low f = record {
        cut = seek_cut to_sides to (are_sorted law new) are_to;
        low = f;
      }

      pub seek_all_same : all to_sides ≡ all (sides items place old)
      seek_all_same = ap merged same

      pub seek_passed : passed to_sides ≡ below to (all (sides items place old))
      seek_passed =
          sym (count_joined (λ u. is_before u.sort_key to) to_sides (λ k d l. sym (are_to k d l)))
          ∙ sym (count_of-stored (λ u. is_before u.sort_key to) (joined_lists (lists to_sides))) ∙ ap (below to) seek_all_same

      pub seek_started : All (λ y. 1 ≤ place y) new
      seek_started = λ k d l. let h = at k d l in omega (arith, h)

  -- ---- all to the end

  module _ (law : (c : C) → IsOrdered (items c)) (old new : List C)
      (same : lists (sides items place new) ≡ lists (sides items place old))
      (at : All (λ c. place c ≡ length (items c) + 1) new)
    where
      abbrev end_sides : List Side
      end_sides = sides items place new

      are_ended : All (λ s. s.passed ≡ length s.versions) end_sides
      are_ended = All-map (λ (s : Side). s.passed ≡ length s.versions) (side items place) new (λ k d l. let h = at k d l in omega (arith, h))

      pub end_merge : (low : ℕ) → IsLow end_sides low → IsMerge end_sides low
      end_merge low f = record { cut = end_cut end_sides are_ended; low = f }

      pub end_all_same : all end_sides ≡ all (sides items place old)
      end_all_same = ap merged same

      pub end_passed : passed end_sides ≡ length (all (sides items place old))
      end_passed = passed_end end_sides are_ended ∙ ap length end_all_same

      pub end_started : All (λ y. 1 ≤ place y) new
      end_started = λ k d l. let h = at k d l in omega (arith, h)

  -- as many sides, as many cursors
  pub same_count : (xs ys : List C) → sides items place xs ≡ sides items place ys → length xs ≡ length ys
  same_count xs ys e = sym (length-map xs (side items place)) ∙ ap length e ∙ length-map ys (side items place)

  pub lists_kept : (cs : List C) (k : ℕ) (c x : C) → c ≡ get_or cs k c → items x ≡ items c → lists (sides items place (set cs k x)) ≡ lists (sides items place cs)
  lists_kept cs k c x is e = go cs k is
    where
      go : (cs : List C) (k : ℕ) → c ≡ get_or cs k c → lists (sides items place (set cs k x)) ≡ lists (sides items place cs)
      go [] k is = refl
      go (y ∷ ys) zero is = ap (λ vs. vs ∷ lists (sides items place ys)) (e ∙ ap items is)
      go (y ∷ ys) (suc k) is = ap (λ r. items y ∷ r) (go ys k is)

  -- one cursor more that stands where f says
  pub each_more : (f : List Item → ℕ) (cs : List C) (i : ℕ) (x : C) → i < length cs → ((k : ℕ) (d : C) → k < i → place (get_or cs k d) ≡ f (items (get_or cs k d)) + 1) → place x ≡ f (items x) + 1
      → (k : ℕ) (d : C) → k < i + 1 → place (get_or (set cs i x) k d) ≡ f (items (get_or (set cs i x) k d)) + 1
  each_more f cs i x l h here k d m =
      elim (cases_eq k i) [
        | inl e ↦ subst (λ y. place y ≡ f (items y) + 1) (sym (ap (λ n. get_or (set cs i x) n d) e ∙ get_or-set_same cs i x d l)) here
        | inr ne ↦ subst (λ y. place y ≡ f (items y) + 1) (sym (get_or-set_other cs i k x d ne)) (h k d (omega arith))
      ]

  standing_front : (vs : List Item) (p : ℕ) → 1 ≤ p → standing vs p ≡ slice_get vs (p - 1)
  standing_front vs zero l = absurd (omega arith)
  standing_front vs (suc n) l = let e : suc n - 1 ≡ n = omega arith in ap (slice_get vs) (sym e)

  pub shown_is : ((c : C) → IsOrdered (items c)) → (cs : List C) (low : ℕ) (c : C) → IsMerge (sides items place cs) low → All (λ y. 1 ≤ place y) cs → low < length cs → c ≡ get_or cs low c → standing (items c) (place c) ≡ slice_get (all (sides items place cs)) (passed (sides items place cs))
  shown_is law cs low c m started inside is =
      let ss = sides items place cs in
      let s : Side = side items place c in
      let l : low < length ss = let e = length-map cs (side items place) in omega arith in
      let is' : s ≡ get_or ss low s = sym (side_or items place cs low c s inside is) in
      let f = front_here ss low m (are_sorted law cs) l s is' in
      let b : 1 ≤ place c = let x = started low c inside in let p : place c ≡ place (get_or cs low c) = ap place is in omega (arith, x, p) in
      standing_front (items c) (place c) b ∙ f.1 ∙ sym (shows_at ss low s f.0 (are_sorted law cs) m l is' f.1)

  -- cursors that stand at their first
  module _ (cs : List C) (first : All (λ c. place c ≡ 1) cs) where
    firsts : All (λ s. s.passed ≡ 0) (sides items place cs)
    firsts = All-map (λ (s : Side). s.passed ≡ 0) (side items place) cs (λ k d l. let h = first k d l in omega (arith, h))

    pub new_merge : (low : ℕ) → IsLow (sides items place cs) low → IsMerge (sides items place cs) low
    new_merge low f = record { cut = first_cut (sides items place cs) firsts; low = f }

    pub new_passed : passed (sides items place cs) ≡ 0
    new_passed = none_passed (sides items place cs) firsts
