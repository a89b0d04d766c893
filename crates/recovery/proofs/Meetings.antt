-- The first table of a level that meets one with a smaller number: two walks together, and the walk along a level.
use Rattle.std.proofs.Common.{◌≡◌, ◌⊎◌, inl, inr, ⊎_elim, ℕ, ◌+◌, ◌<◌, ◌≤◌, Bool, true, false, not, ◌==◌, List, [], ◌∷◌, ◌++◌, filter, length, take, map, get_or, Option, Some, None, refl, sym, ap, ◌∙◌, subst, arith}
use Rattle.std.specs.Prelude.{Contains, nat_lt, if◌then◌else◌, slice_get}
use Rattle.std.specs.List.Sorted.{IsPermutation, IsSortedBy}
use Rattle.std.proofs.lemmas.Bool.{and_from, and_parts, cases_Bool, cases_lt, cases_order, eq-eqb, eqb-true, false≢true, le-ltb, lt-ltb, ltb-false, ltb-true}
use Rattle.std.proofs.lemmas.List.{get_or-map, get_or_read, length-map, take_all, take_more}
use Rattle.std.proofs.lemmas.List.Sorted.{Contains-permutation, IsPermutation-sym, sorted_far}
use Rattle.ts_key.specs.declared.numbers.Family.{Family}
use Rattle.udt_model.specs.Orders.{is_at_most, is_below, meets}
use Rattle.udt_model.specs.declared.reply.KeySpan.{KeySpan}
use Rattle.floor_laws.proofs.Keys.{at_most_trans, below_not, meets_swap, not_below}
use Rattle.floor_laws.proofs.Members.{In, In-append, In-contains, In-filter, In-map, contains_In, filter-In, map-In}
use Rattle.super_version.specs.Levels.{stands_before}
use Rattle.super_version.specs.Live.{Live}
use Rattle.super_version.specs.declared.family.TheConstants.{LEVELS}
use Rattle.recovery.specs.Meeting.{AreOfFiles, AreOnLevels, ClashesAmong, ClashesBelow, ClashesIn, ClashesOn, IsFirst, IsMet, IsUpto, Meets, kept_of_two, lesser_of, live_number, number_met, opened_number, span_at, table_in}
use Rattle.recovery.specs.Versions.{is_on, level_tables}
use Rattle.recovery.specs.declared.tables.Opened.{Opened}
use Rattle.recovery.proofs.Stating.{least_order}

-- ---- the lesser of two

upto_left : (f g : Option ℕ) (n : ℕ) → IsUpto f n → IsUpto (lesser_of f g) n
upto_left None g n up = absurd up
upto_left (Some m) None n up = up
upto_left (Some m) (Some k) n up = elim (cases_Bool (nat_lt k m)) [ inl less ↦ rw less (omega (arith, up, ltb-true k m less)) | inr other ↦ rw other up ]

upto_right : (f g : Option ℕ) (n : ℕ) → IsUpto g n → IsUpto (lesser_of f g) n
upto_right None g n up = up
upto_right (Some m) None n up = absurd up
upto_right (Some m) (Some k) n up = elim (cases_Bool (nat_lt k m)) [ inl less ↦ rw less up | inr other ↦ rw other (omega (arith, up, ltb-false k m other)) ]

upto_more : (f : Option ℕ) (m n : ℕ) → m ≤ n → IsUpto f m → IsUpto f n
upto_more None m n more up = absurd up
upto_more (Some k) m n more up = omega (arith, more, up)

one_of_two : (f g : Option ℕ) (n : ℕ) → lesser_of f g ≡ Some n → (f ≡ Some n) ⊎ (g ≡ Some n)
one_of_two None g n is = inr is
one_of_two (Some m) None n is = inl is
one_of_two (Some m) (Some k) n is =
    elim (cases_Bool (nat_lt k m)) [
      | inl less ↦ inr (ap (λ (b : Bool). Some (if b then k else m)) (sym less) ∙ is)
      | inr other ↦ inl (ap (λ (b : Bool). Some (if b then k else m)) (sym other) ∙ is)
    ]

module _ {X : Type 0} (number : X → ℕ) (R S T : X → X → Type 0) (xs : List X) where
  -- of two kinds of meeting together
  pub first_of_both : (f g : Option ℕ) → ((a b : X) → Contains xs b → T a b → R a b ⊎ S a b) → ((a b : X) → R a b → T a b) → ((a b : X) → S a b → T a b) → IsFirst number R xs f → IsFirst number S xs g → IsFirst number T xs (lesser_of f g)
  first_of_both f g split left right p q = record {
    least = λ a b has_a has_b met. ⊎_elim (λ r. upto_left f g (number b) (p.least a b has_a has_b r)) (λ s. upto_right f g (number b) (q.least a b has_a has_b s)) (split a b has_b met);
    met = λ n is. ⊎_elim
        (λ l. (let m = p.met n l in record { a = m.a; b = m.b; has_a = m.has_a; has_b = m.has_b; meet = left m.a m.b m.meet; is = m.is }))
        (λ r. (let m = q.met n r in record { a = m.a; b = m.b; has_a = m.has_a; has_b = m.has_b; meet = right m.a m.b m.meet; is = m.is }))
        (one_of_two f g n is);
  }

module _ {X : Type 0} (number : X → ℕ) (T : X → X → Type 0) (xs : List X) where
  -- where none meet
  pub first_of_none : ((a b : X) → Contains xs b → T a b → ⊥) → IsFirst number T xs None
  first_of_none none = record { least = λ a b has_a has_b met. none a b has_b met; met = λ n is. absurd cc }

-- ---- spans

below_to : (a b c : List ℕ) → is_below a b ≡ true → is_at_most b c ≡ true → is_below a c ≡ true
below_to a b c below up =
    elim (cases_Bool (is_at_most c a)) [
      | inl back ↦ absurd (false≢true (sym (below_not a b ∙ ap not (at_most_trans b c a up back)) ∙ below))
      | inr apart ↦ below_not a c ∙ ap not apart
    ]

-- what ends below another's least key doesn't meet it
apart_before : (a b : KeySpan) → is_below a.high b.low ≡ true → meets a b ≡ true → ⊥
apart_before a b below met =
    let p = and_parts (is_at_most a.low b.high) (is_at_most b.low a.high) met in
    false≢true (sym (below_not a.high b.low ∙ ap not p.1) ∙ below)

apart_behind : (a b : KeySpan) → is_below a.high b.low ≡ true → meets b a ≡ true → ⊥
apart_behind a b below met = apart_before a b below (meets_swap b a met)

-- what starts at or above another's least key and doesn't meet it stands behind its greatest
ends_below : (a b : KeySpan) → is_at_most a.low b.low ≡ true → is_at_most b.low b.high ≡ true → meets a b ≡ false → is_below a.high b.low ≡ true
ends_below a b up rising apart =
    elim (cases_Bool (is_at_most b.low a.high)) [
      | inl met ↦ absurd (false≢true (sym apart ∙ and_from (is_at_most a.low b.high) (is_at_most b.low a.high) (at_most_trans a.low b.low b.high up rising) met))
      | inr below ↦ below_not a.high b.low ∙ ap not below
    ]

-- ---- the walk along a level

-- A table that was passed doesn't make another the first: its number is at or above the first, or it has the number and the span of
-- the last one that is kept, or it ends before that.
abbrev Passed : Option ℕ → Live → Live → Type 0
Passed first last x = IsUpto first x.number ⊎ (((x.number ≡ last.number) × (span_at x ≡ span_at last)) ⊎ (is_below (span_at x).high (span_at last).low ≡ true))

pub record Walked (ts : List Live) (i : ℕ) (last : Live) (first : Option ℕ) : Type 0 where
  pub held : In last ts
  pub ahead : (j : ℕ) (d : Live) → i ≤ j → j < length ts → is_at_most (span_at last).low (span_at (get_or ts j d)).low ≡ true
  pub passed : (x : Live) → In x (take i ts) → Passed first last x
  pub least : (a b : Live) → In a (take i ts) → In b (take i ts) → Meets a b → IsUpto first b.number
  pub met : (n : ℕ) → first ≡ Some n → IsMet live_number Meets ts n

module _ (ts : List Live) (sorted : IsSortedBy (stands_before 1) ts) where
  rising_from : (i j : ℕ) (d : Live) → i ≤ j → j < length ts → is_at_most (span_at (get_or ts i d)).low (span_at (get_or ts j d)).low ≡ true
  rising_from i j d up within = not_below (span_at (get_or ts j d)).low (span_at (get_or ts i d)).low (sorted_far (stands_before 1) least_order ts sorted i j d up within)

  -- at the first table
  walked_none : (t : Live) → 0 < length ts → t ≡ get_or ts 0 t → Walked ts 0 t None
  walked_none t within at = record {
    held = contains_In ts t (0, within, sym at);
    ahead = λ j d up below. subst (λ (x : Live). is_at_most (span_at x).low (span_at (get_or ts j d)).low ≡ true) (sym (get_or_read ts 0 t within at d)) (rising_from 0 j d up below);
    passed = λ x held. absurd held;
    least = λ a b held other met. absurd held;
    met = λ n is. absurd cc;
  }

  -- past one table more
  module _ (files : AreOfFiles ts) (i : ℕ) (within : i < length ts) (t : Live) (at : t ≡ get_or ts i t) (last : Live) (first : Option ℕ) (so_far : Walked ts i last first) where
    here : In t ts
    here = contains_In ts t (i, within, sym at)

    up : is_at_most (span_at last).low (span_at t).low ≡ true
    up = subst (λ (x : Live). is_at_most (span_at last).low (span_at x).low ≡ true) (sym at) (so_far.ahead i t (omega arith) within)

    before_or_here : (x : Live) → In x (take (i + 1) ts) → In x (take i ts) ⊎ (t ≡ x)
    before_or_here x held =
        elim (In-append x (take i ts) (t ∷ []) (subst (In x) (take_more ts i t within ∙ ap (λ (y : Live). take i ts ++ y ∷ []) (sym at)) held)) [
          | inl before ↦ inl before
          | inr now ↦ inr (⊎_elim (λ is. is) (λ none. absurd none) now)
        ]

    ahead_here : (j : ℕ) (d : Live) → i + 1 ≤ j → j < length ts → is_at_most (span_at t).low (span_at (get_or ts j d)).low ≡ true
    ahead_here j d far below = subst (λ (x : Live). is_at_most (span_at x).low (span_at (get_or ts j d)).low ≡ true) (sym (get_or_read ts i t within at d)) (rising_from i j d (omega (arith, far)) below)

    ahead_still : (j : ℕ) (d : Live) → i + 1 ≤ j → j < length ts → is_at_most (span_at last).low (span_at (get_or ts j d)).low ≡ true
    ahead_still j d far below = so_far.ahead j d (omega (arith, far)) below

    -- what a step has to show
    record Step (kept : Live) (next : Option ℕ) : Type 0 where
      held : In kept ts
      ahead : (j : ℕ) (d : Live) → i + 1 ≤ j → j < length ts → is_at_most (span_at kept).low (span_at (get_or ts j d)).low ≡ true
      less : (n : ℕ) → IsUpto first n → IsUpto next n
      passed : (x : Live) → Passed first last x → Passed next kept x
      passed_here : Passed next kept t
      behind : (x : Live) → Passed first last x → Meets x t → IsUpto next t.number
      before : (x : Live) → Passed first last x → Meets t x → IsUpto next x.number
      met : (n : ℕ) → next ≡ Some n → IsMet live_number Meets ts n

    walked_by : (kept : Live) (next : Option ℕ) → Step kept next → Walked ts (i + 1) kept next
    walked_by kept next s = record {
      held = s.held;
      ahead = s.ahead;
      passed = λ x held. ⊎_elim (λ old. s.passed x (so_far.passed x old)) (λ is. subst (Passed next kept) is s.passed_here) (before_or_here x held);
      least = λ a b held_a held_b met. pair a b (before_or_here a held_a) (before_or_here b held_b) met;
      met = s.met;
    } where
      pair : (a b : Live) → In a (take i ts) ⊎ (t ≡ a) → In b (take i ts) ⊎ (t ≡ b) → Meets a b → IsUpto next b.number
      pair a b (inl old_a) (inl old_b) met = s.less b.number (so_far.least a b old_a old_b met)
      pair a b (inl old_a) (inr is) met = subst (λ (y : Live). IsUpto next y.number) is (s.behind a (so_far.passed a old_a) (subst (Meets a) (sym is) met))
      pair a b (inr is) (inl old_b) met = s.before b (so_far.passed b old_b) (subst (λ (y : Live). Meets y b) (sym is) met)
      pair a b (inr is_a) (inr is_b) met = (let less = met.before in absurd (omega (arith, less, ap live_number is_a, ap live_number is_b)))

    -- where it doesn't meet the last one
    past_apart : meets (span_at last) (span_at t) ≡ false → Step t first
    past_apart apart = record {
      held = here;
      ahead = ahead_here;
      less = λ n is. is;
      passed = λ x p. later x p;
      passed_here = inr (inl (refl, refl));
      behind = λ x p met. ⊎_elim (λ old. upto_more first x.number t.number (let less = met.before in omega (arith, less)) old) (λ q. absurd (far x q met.meet)) p;
      before = λ x p met. ⊎_elim (λ old. old) (λ q. absurd (far x q (meets_swap (span_at t) (span_at x) met.meet))) p;
      met = so_far.met;
    } where
      ends : is_below (span_at last).high (span_at t).low ≡ true
      ends = ends_below (span_at last) (span_at t) up (files.rising t (In-contains ts t here)) apart

      stands : (x : Live) → ((x.number ≡ last.number) × (span_at x ≡ span_at last)) ⊎ (is_below (span_at x).high (span_at last).low ≡ true) → is_below (span_at x).high (span_at t).low ≡ true
      stands x (inl same) = subst (λ (s : KeySpan). is_below s.high (span_at t).low ≡ true) (sym same.1) ends
      stands x (inr below) = below_to (span_at x).high (span_at last).low (span_at t).low below up

      far : (x : Live) → ((x.number ≡ last.number) × (span_at x ≡ span_at last)) ⊎ (is_below (span_at x).high (span_at last).low ≡ true) → meets (span_at x) (span_at t) ≡ true → ⊥
      far x q met = apart_before (span_at x) (span_at t) (stands x q) met

      later : (x : Live) → Passed first last x → Passed first t x
      later x (inl old) = inl old
      later x (inr q) = inr (inr (stands x q))

    -- where it meets the last one, whose number is smaller
    past_greater : meets (span_at last) (span_at t) ≡ true → last.number < t.number → Step last (lesser_of first (Some t.number))
    past_greater met less = record {
      held = so_far.held;
      ahead = ahead_still;
      less = λ n is. upto_left first (Some t.number) n is;
      passed = λ x p. ⊎_elim (λ old. inl (upto_left first (Some t.number) x.number old)) (λ q. inr q) p;
      passed_here = inl (upto_right first (Some t.number) t.number (omega arith));
      behind = λ x p clash. upto_right first (Some t.number) t.number (omega arith);
      before = λ x p clash. upto_right first (Some t.number) x.number (let more = clash.before in omega (arith, more));
      met = λ n is. ⊎_elim (λ l. so_far.met n l) (λ r. record {
        a = last;
        b = t;
        has_a = In-contains ts last so_far.held;
        has_b = In-contains ts t here;
        meet = record { before = less; meet = met };
        is = (let same : Some t.number ≡ Some n = r in cc);
      }) (one_of_two first (Some t.number) n is);
    }

    -- whose number is greater
    past_smaller : meets (span_at last) (span_at t) ≡ true → t.number < last.number → Step t (lesser_of first (Some last.number))
    past_smaller met less = record {
      held = here;
      ahead = ahead_here;
      less = λ n is. upto_left first (Some last.number) n is;
      passed = λ x p. later x p;
      passed_here = inr (inl (refl, refl));
      behind = λ x p clash. behind_it x p clash;
      before = λ x p clash. before_it x p clash;
      met = λ n is. ⊎_elim (λ l. so_far.met n l) (λ r. record {
        a = t;
        b = last;
        has_a = In-contains ts t here;
        has_b = In-contains ts last so_far.held;
        meet = record { before = less; meet = meets_swap (span_at last) (span_at t) met };
        is = (let same : Some last.number ≡ Some n = r in cc);
      }) (one_of_two first (Some last.number) n is);
    } where
      later : (x : Live) → Passed first last x → Passed (lesser_of first (Some last.number)) t x
      later x (inl old) = inl (upto_left first (Some last.number) x.number old)
      later x (inr (inl same)) = (let is = same.0 in inl (upto_right first (Some last.number) x.number (omega (arith, is))))
      later x (inr (inr below)) = inr (inr (below_to (span_at x).high (span_at last).low (span_at t).low below up))

      behind_it : (x : Live) → Passed first last x → Meets x t → IsUpto (lesser_of first (Some last.number)) t.number
      behind_it x (inl old) clash = (let more = clash.before in upto_left first (Some last.number) t.number (upto_more first x.number t.number (omega (arith, more)) old))
      behind_it x (inr (inl same)) clash = (let more = clash.before in let is = same.0 in absurd (omega (arith, more, is, less)))
      behind_it x (inr (inr below)) clash = absurd (apart_before (span_at x) (span_at t) (below_to (span_at x).high (span_at last).low (span_at t).low below up) clash.meet)

      before_it : (x : Live) → Passed first last x → Meets t x → IsUpto (lesser_of first (Some last.number)) x.number
      before_it x (inl old) clash = upto_left first (Some last.number) x.number old
      before_it x (inr (inl same)) clash = (let is = same.0 in upto_right first (Some last.number) x.number (omega (arith, is)))
      before_it x (inr (inr below)) clash = absurd (apart_behind (span_at x) (span_at t) (below_to (span_at x).high (span_at last).low (span_at t).low below up) clash.meet)

    -- or it is the last one again
    past_same : meets (span_at last) (span_at t) ≡ true → last.number ≡ t.number → Step last first
    past_same met is = record {
      held = so_far.held;
      ahead = ahead_still;
      less = λ n known. known;
      passed = λ x p. p;
      passed_here = inr (inl (sym is, sym span));
      behind = λ x p clash. behind_it x p clash;
      before = λ x p clash. before_it x p clash;
      met = so_far.met;
    } where
      span : span_at last ≡ span_at t
      span = files.same last t (In-contains ts last so_far.held) (In-contains ts t here) is

      behind_it : (x : Live) → Passed first last x → Meets x t → IsUpto first t.number
      behind_it x (inl old) clash = (let more = clash.before in upto_more first x.number t.number (omega (arith, more)) old)
      behind_it x (inr (inl same)) clash = (let more = clash.before in let one = same.0 in absurd (omega (arith, more, one, is)))
      behind_it x (inr (inr below)) clash = absurd (apart_before (span_at x) (span_at last) below (subst (λ (s : KeySpan). meets (span_at x) s ≡ true) (sym span) clash.meet))

      before_it : (x : Live) → Passed first last x → Meets t x → IsUpto first x.number
      before_it x (inl old) clash = old
      before_it x (inr (inl same)) clash = (let more = clash.before in let one = same.0 in absurd (omega (arith, more, one, is)))
      before_it x (inr (inr below)) clash = absurd (apart_behind (span_at x) (span_at last) below (subst (λ (s : KeySpan). meets s (span_at x) ≡ true) (sym span) clash.meet))

    none_more : (f : Option ℕ) → lesser_of f None ≡ f
    none_more None = refl
    none_more (Some m) = refl

    -- the step that is taken
    walked_more : Walked ts (i + 1) (kept_of_two last t) (lesser_of first (number_met last t))
    walked_more =
        elim (cases_Bool (meets (span_at last) (span_at t))) [
          | inl met ↦ elim (cases_order last.number t.number) [
            | inl is ↦ walked_as last first
                (rw (met, le-ltb t.number last.number (omega (arith, is))) refl)
                (rw (met, le-ltb last.number t.number (omega (arith, is)), le-ltb t.number last.number (omega (arith, is))) (none_more first))
                (past_same met is)
            | inr order ↦ elim order [
              | inl less ↦ walked_as last (lesser_of first (Some t.number))
                  (rw (met, le-ltb t.number last.number (omega (arith, less))) refl)
                  (rw (met, lt-ltb last.number t.number less) refl)
                  (past_greater met less)
              | inr more ↦ walked_as t (lesser_of first (Some last.number))
                  (rw (met, lt-ltb t.number last.number more) refl)
                  (rw (met, le-ltb last.number t.number (omega (arith, more)), lt-ltb t.number last.number more) refl)
                  (past_smaller met more)
            ]
          ]
          | inr apart ↦ walked_as t first (rw apart refl) (rw apart (none_more first)) (past_apart apart)
        ]
      where
        walked_as : (kept : Live) (next : Option ℕ) → kept_of_two last t ≡ kept → lesser_of first (number_met last t) ≡ next → Step kept next → Walked ts (i + 1) (kept_of_two last t) (lesser_of first (number_met last t))
        walked_as kept next one two step =
            subst (λ (f : Option ℕ). Walked ts (i + 1) (kept_of_two last t) f) (sym two) (subst (λ (k : Live). Walked ts (i + 1) k next) (sym one) (walked_by kept next step))

  -- behind the last table
  walked_all : (i : ℕ) (last : Live) (first : Option ℕ) → length ts ≤ i → Walked ts i last first → IsFirst live_number Meets ts first
  walked_all i last first all w =
      let whole = take_all i ts all in
      record {
        least = λ a b has_a has_b met. w.least a b (subst (In a) (sym whole) (contains_In ts a has_a)) (subst (In b) (sym whole) (contains_In ts b has_b)) met;
        met = w.met;
      }

first_at : {X : Type 0} (xs : List X) (x : X) → Some x ≡ slice_get xs 0 → (0 < length xs) × (x ≡ get_or xs 0 x)
first_at [] x is = absurd cc
first_at (y ∷ ys) x is = (let same : x ≡ y = cc in (omega arith, same))

-- ---- the walk along tables that are shared

module _ {A : Type 0} (f : A → Live) (xs : List A) (sorted : IsSortedBy (stands_before 1) (map f xs)) where
  pub walked_first : (x : A) → Some x ≡ slice_get xs 0 → Walked (map f xs) 0 (f x) None
  walked_first x is =
      let at = first_at xs x is in
      let some = at.0 in
      walked_none (map f xs) sorted (f x) (omega (arith, some, length-map xs f)) (sym (get_or-map f xs 0 x (f x) some ∙ ap f (sym at.1)))

  pub walked_next : AreOfFiles (map f xs) → (i : ℕ) (x : A) (last : Live) (first : Option ℕ) → i < length xs → x ≡ get_or xs i x → Walked (map f xs) i last first → Walked (map f xs) (i + 1) (kept_of_two last (f x)) (lesser_of first (number_met last (f x)))
  walked_next files i x last first within at so_far = walked_more (map f xs) sorted files i (omega (arith, within, length-map xs f)) (f x) (sym (get_or-map f xs i x (f x) within ∙ ap f (sym at))) last first so_far

  pub walked_end : (i : ℕ) (last : Live) (first : Option ℕ) → length xs ≤ i → Walked (map f xs) i last first → IsFirst live_number Meets (map f xs) first
  walked_end i last first all w = walked_all (map f xs) sorted i last first (omega (arith, all, length-map xs f)) w

-- ---- a level of a family

pub files_within : (ts us : List Live) → ((x : Live) → In x ts → In x us) → AreOfFiles us → AreOfFiles ts
files_within ts us within files = record {
  rising = λ t has. files.rising t (In-contains us t (within t (contains_In ts t has)));
  same = λ t u has_t has_u is. files.same t u (In-contains us t (within t (contains_In ts t has_t))) (In-contains us u (within u (contains_In ts u has_u))) is;
}

module _ (family : Family) (level : ℕ) (opened : List Opened) (tables shown : List Live) (are : tables ≡ level_tables family level opened) (moved : IsPermutation tables shown) where
  opened_on : (x : Live) → In x shown → (o : Opened) × In o opened × (is_on family level o ≡ true) × (o.table ≡ x)
  opened_on x held =
      let there = contains_In tables x (Contains-permutation shown tables x (IsPermutation-sym tables shown moved) (In-contains shown x held)) in
      let m = map-In (λ (o : Opened). o.table) x (filter (is_on family level) opened) (subst (In x) are there) in
      let k = filter-In (is_on family level) m.0 opened m.1 in
      (m.0, k.0, k.1, m.2)

  shown_on : (o : Opened) → In o opened → o.family.0 ≡ family.0 → o.level ≡ level → In o.table shown
  shown_on o held of on =
      let is : is_on family level o ≡ true = and_from (o.family.0 == family.0) (o.level == level) (eq-eqb o.family.0 family.0 of) (eq-eqb o.level level on) in
      let there = In-map (λ (p : Opened). p.table) o (filter (is_on family level) opened) (In-filter (is_on family level) o opened held is) in
      contains_In shown o.table (Contains-permutation tables shown o.table moved (In-contains tables o.table (subst (In o.table) (sym are) there)))

  pub level_files : AreOfFiles (map table_in opened) → AreOfFiles shown
  level_files files = files_within shown (map table_in opened) (λ x held. (let o = opened_on x held in subst (λ (y : Live). In y (map table_in opened)) o.3 (In-map table_in o.0 opened o.1))) files

  pub first_on_level : (first : Option ℕ) → 0 < level → IsFirst live_number Meets shown first → IsFirst opened_number (ClashesOn family level) opened first
  first_on_level first deep f = record {
    least = λ a b has_a has_b clash.
        let c = clash.0 in
        let of = clash.1 in
        let on = clash.2 in
        f.least a.table b.table (In-contains shown a.table (shown_on a (contains_In opened a has_a) (c.family ∙ of) (c.level ∙ on))) (In-contains shown b.table (shown_on b (contains_In opened b has_b) of on)) c.meet;
    met = λ n is.
        let m = f.met n is in
        let oa = opened_on m.a (contains_In shown m.a m.has_a) in
        let ob = opened_on m.b (contains_In shown m.b m.has_b) in
        let pa = and_parts (oa.0.family.0 == family.0) (oa.0.level == level) oa.2 in
        let pb = and_parts (ob.0.family.0 == family.0) (ob.0.level == level) ob.2 in
        let fa = eqb-true oa.0.family.0 family.0 pa.0 in
        let fb = eqb-true ob.0.family.0 family.0 pb.0 in
        let la = eqb-true oa.0.level level pa.1 in
        let lb = eqb-true ob.0.level level pb.1 in
        record {
          a = oa.0;
          b = ob.0;
          has_a = In-contains opened oa.0 oa.1;
          has_b = In-contains opened ob.0 ob.1;
          meet = (record { family = fa ∙ sym fb; level = la ∙ sym lb; deep = omega (arith, deep, lb); meet = subst (λ (x : Live). Meets x ob.0.table) (sym oa.3) (subst (Meets m.a) (sym ob.3) m.meet) }, fb, lb);
          is = ap live_number ob.3 ∙ m.is;
        };
  }

-- ---- all levels, and all families

module _ (opened : List Opened) where
  -- below level 1 none clash
  pub clash_nowhere : (family : Family) → IsFirst opened_number (ClashesBelow family 1) opened None
  clash_nowhere family = first_of_none opened_number (ClashesBelow family 1) opened (λ a b has_b clash. (let deep = clash.0.deep in let below = clash.2 in absurd (omega (arith, deep, below))))

  -- one level more
  pub first_more : (family : Family) (level : ℕ) (f g : Option ℕ) → IsFirst opened_number (ClashesBelow family level) opened f → IsFirst opened_number (ClashesOn family level) opened g → IsFirst opened_number (ClashesBelow family (level + 1)) opened (lesser_of f g)
  first_more family level f g p q = first_of_both opened_number (ClashesBelow family level) (ClashesOn family level) (ClashesBelow family (level + 1)) opened f g
      (λ a b has_b clash. (let below = clash.2 in ⊎_elim (λ less. inl (clash.0, clash.1, less)) (λ other. inr (clash.0, clash.1, omega (arith, below, other))) (cases_lt b.level level)))
      (λ a b clash. (let below = clash.2 in (clash.0, clash.1, omega (arith, below))))
      (λ a b clash. (let on = clash.2 in (clash.0, clash.1, omega (arith, on)))) p q

  -- they are all
  pub first_of_family : (family : Family) (level : ℕ) (first : Option ℕ) → LEVELS ≤ level → AreOnLevels opened → IsFirst opened_number (ClashesBelow family level) opened first → IsFirst opened_number (ClashesIn family) opened first
  first_of_family family level first all on p = record {
    least = λ a b has_a has_b clash. (let below = on.levels b has_b in p.least a b has_a has_b (clash.0, clash.1, omega (arith, below, all)));
    met = λ n is. (let m = p.met n is in record { a = m.a; b = m.b; has_a = m.has_a; has_b = m.has_b; meet = (m.meet.0, m.meet.1); is = m.is });
  }

  -- no family
  pub clash_in_none : IsFirst opened_number (ClashesAmong 0) opened None
  clash_in_none = first_of_none opened_number (ClashesAmong 0) opened (λ a b has_b clash. (let below = clash.1 in absurd (omega (arith, below))))

  -- one family more
  pub first_among_more : (count : ℕ) (f g : Option ℕ) → IsFirst opened_number (ClashesAmong count) opened f → IsFirst opened_number (ClashesIn (record { 0 = count })) opened g → IsFirst opened_number (ClashesAmong (count + 1)) opened (lesser_of f g)
  first_among_more count f g p q = first_of_both opened_number (ClashesAmong count) (ClashesIn (record { 0 = count })) (ClashesAmong (count + 1)) opened f g
      (λ a b has_b clash. (let below = clash.1 in ⊎_elim (λ less. inl (clash.0, less)) (λ other. inr (clash.0, omega (arith, below, other))) (cases_lt b.family.0 count)))
      (λ a b clash. (let below = clash.1 in (clash.0, omega (arith, below))))
      (λ a b clash. (let on = clash.1 in (clash.0, omega (arith, on)))) p q
