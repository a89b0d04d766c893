-- Plans are closed.
use Rattle.std.proofs.Common.{◌≡◌, ◌≢◌, ◌⊎◌, ℕ, zero, suc, ◌+◌, ◌<◌, ◌≤◌, Bool, true, false, not, ◌&&◌, ◌||◌, List, [], ◌∷◌, length, map, refl, sym, ap, subst, ◌∙◌, arith, inl, inr}
use Rattle.std.specs.Prelude.{◌==◌, nat_lt, nat_le, Option, Some, None, option_map}
use Rattle.std.specs.List.{AllByRecursion, filter, list_any, list_all}
use Rattle.std.proofs.lemmas.Bool.Decides.{nat_tests}
use Rattle.std.proofs.lemmas.Bool.{cases_Bool, false≢true, and_from, and_parts, or_cases, or_left, or_right, or_parts, false_from_ne_true, eqb-true, eq-eqb, ltb-true, lt-ltb}
use Rattle.ts_key.specs.declared.numbers.Family.{Family}
use Rattle.ts_key.specs.Lists.{IsSorted}
use Rattle.udt_model.specs.declared.reply.KeySpan.{KeySpan}
use Rattle.udt_model.specs.Orders.{hull_with, meets, span_of}
use Rattle.udt_model.specs.State.{State, LiveTable, numbers_of, tables_of}
use Rattle.udt_model.specs.Jobs as jobs
use Rattle.udt_model.specs.Jobs.{IsClosed, deeper_of, goes_with, has_number, inputs_of, is_amid, is_ascending, is_input, is_wanted, spans_of}
use Rattle.floor_laws.proofs.Members.{In, In-filter, filter-In, In-map, map-In, any-In, In-any, In-contains}
use Rattle.super_version.specs.Live.{Live}
use Rattle.super_version.specs.declared.family.FamilyState.{FamilyState}
use Rattle.super_version.specs.declared.jobs.Plan.{Plan}
use Rattle.compaction.specs.declared.plans.Choice.{Choice}
use Rattle.compaction.specs.declared.sizes.TheConstants.{LOWEST_LEVEL}
use Rattle.compaction.specs.Plans.{Leveled, choice_of, due_from, due_level, every, bytes_limit, file_bytes, first_number, hull_if_any, is_level_due, is_number, is_picked, is_taken, meets_some, of_level, whole_of, plan_of, table_span, ranges_of, tables_in}
use Rattle.compaction.specs.Closed.{model_table, ShowsTables, input_numbers, IsPlanOf, WholePlansAreClosed, PickedPlansAreClosed}
use Rattle.compaction.proofs.Hulls.{span_sorted, span_up, IsUp, Lies, lies_within, lies_meets, meets_wider, apart_hull}

abbrev number : Leveled → ℕ
number t = t.table.number

-- ---- lists of which two filters take the same

filter_same : {X : Type 0} (p q : X → Bool) (xs : List X) → ((x : X) → In x xs → p x ≡ q x) → filter p xs ≡ filter q xs
filter_same p q [] h = refl
filter_same p q (x ∷ xs) h =
    let e = h x (inl refl) in
    let ih = filter_same p q xs (λ y i. h y (inr i)) in
    elim (cases_Bool (q x)) [
      | inl y ↦ (let k : p x ≡ true = e ∙ y in rw (k, y) (ap (λ l. x ∷ l) ih))
      | inr y ↦ (let k : p x ≡ false = e ∙ y in rw (k, y) ih)
    ]

filter_map : {X Y : Type 0} (f : X → Y) (p : Y → Bool) (xs : List X) → filter p (map f xs) ≡ map f (filter (λ x. p (f x)) xs)
filter_map f p [] = refl
filter_map f p (x ∷ xs) = elim (cases_Bool (p (f x))) [ inl y ↦ rw y (ap (λ l. f x ∷ l) (filter_map f p xs)) | inr y ↦ rw y (filter_map f p xs) ]

map_same : {X Y : Type 0} (f g : X → Y) (xs : List X) → ((x : X) → In x xs → f x ≡ g x) → map f xs ≡ map g xs
map_same f g [] h = refl
map_same f g (x ∷ xs) h = ap (λ z. z ∷ map f xs) (h x (inl refl)) ∙ ap (λ l. g x ∷ l) (map_same f g xs (λ y i. h y (inr i)))

map_twice : {X Y Z : Type 0} (f : X → Y) (g : Y → Z) (xs : List X) → map g (map f xs) ≡ map (λ x. g (f x)) xs
map_twice f g [] = refl
map_twice f g (x ∷ xs) = ap (λ l. g (f x) ∷ l) (map_twice f g xs)

all_from : {X : Type 0} (p : X → Bool) (xs : List X) → ((x : X) → In x xs → p x ≡ true) → list_all p xs ≡ true
all_from p [] h = refl
all_from p (x ∷ xs) h = and_from (p x) (list_all p xs) (h x (inl refl)) (all_from p xs (λ y i. h y (inr i)))

all_in : {X : Type 0} (P : X → Type 0) (xs : List X) (x : X) → AllByRecursion P xs → In x xs → P x
all_in P [] x h i = absurd i
all_in P (y ∷ ys) x h (inl e) = subst P e h.0
all_in P (y ∷ ys) x h (inr i) = all_in P ys x h.1 i

-- ---- ascending numbers

ascends_rest : (n : ℕ) (ns : List ℕ) → is_ascending (n ∷ ns) ≡ true → is_ascending ns ≡ true
ascends_rest n [] h = refl
ascends_rest n (m ∷ ns) h = (and_parts (nat_lt n m) (is_ascending (m ∷ ns)) h).1

ascends_above : (n : ℕ) (ns : List ℕ) → is_ascending (n ∷ ns) ≡ true → (m : ℕ) → In m ns → n < m
ascends_above n [] h m i = absurd i
ascends_above n (o ∷ ns) h m (inl e) = let l = ltb-true n o (and_parts (nat_lt n o) (is_ascending (o ∷ ns)) h).0 in omega (arith, l, e)
ascends_above n (o ∷ ns) h m (inr i) =
    let p = and_parts (nat_lt n o) (is_ascending (o ∷ ns)) h in
    let l = ltb-true n o p.0 in
    let k = ascends_above o ns p.1 m i in
    omega (arith, l, k)

ascends_from : (n : ℕ) (ns : List ℕ) → ((m : ℕ) → In m ns → n < m) → is_ascending ns ≡ true → is_ascending (n ∷ ns) ≡ true
ascends_from n [] h a = refl
ascends_from n (m ∷ ns) h a = and_from (nat_lt n m) (is_ascending (m ∷ ns)) (lt-ltb n m (h m (inl refl))) a

ascends_filter : (p : Leveled → Bool) (ts : List Leveled) → is_ascending (map number ts) ≡ true → is_ascending (map number (filter p ts)) ≡ true
ascends_filter p [] h = refl
ascends_filter p (t ∷ ts) h =
    let ih = ascends_filter p ts (ascends_rest (number t) (map number ts) h) in
    let above : (m : ℕ) → In m (map number (filter p ts)) → number t < m = λ m i.
    let r = map-In number m (filter p ts) i in
    let j = filter-In p r.0 ts r.1 in
    ascends_above (number t) (map number ts) h m (subst (λ z. In z (map number ts)) r.2 (In-map number r.0 ts j.0)) in
    elim (cases_Bool (p t)) [
      | inl y ↦ rw y (ascends_from (number t) (map number (filter p ts)) above ih)
      | inr y ↦ rw y ih
    ]

-- two of one number are one
one_of_number : (ts : List Leveled) → is_ascending (map number ts) ≡ true → (t u : Leveled) → In t ts → In u ts → number t ≡ number u → t ≡ u
one_of_number [] h t u i j e = absurd i
one_of_number (x ∷ xs) h t u (inl a) (inl b) e = sym a ∙ b
one_of_number (x ∷ xs) h t u (inl a) (inr j) e =
    let l = ascends_above (number x) (map number xs) h (number u) (In-map number u xs j) in
    let k : number x ≡ number u = ap number a ∙ e in absurd (omega (arith, l, k))
one_of_number (x ∷ xs) h t u (inr i) (inl b) e =
    let l = ascends_above (number x) (map number xs) h (number t) (In-map number t xs i) in
    let k : number x ≡ number t = ap number b ∙ sym e in absurd (omega (arith, l, k))
one_of_number (x ∷ xs) h t u (inr i) (inr j) e = one_of_number xs (ascends_rest (number x) (map number xs) h) t u i j e

-- ---- a plan of tables that pass a test

module _ (m : State) (family : Family) (f : FamilyState) (shows : ShowsTables m family f) where
  abbrev ts : List Leveled
  ts = tables_in f

  abbrev g : Leveled → LiveTable
  g t = model_table family t

  ascending : is_ascending (map number ts) ≡ true
  ascending = sym (ap is_ascending (ap numbers_of shows.tables ∙ map_twice g (λ t. t.number) ts)) ∙ shows.ordered.ascending

  span_is : (t : Leveled) → In t ts → span_of (g t).versions ≡ table_span t
  span_is t i = span_sorted family t.table.table.contents.items (all_in (λ (z : Leveled). IsSorted z.table.table.contents.items) ts t shows.sorted i)

  range_up : (t : Leveled) → In t ts → IsUp (table_span t)
  range_up t i = subst IsUp (span_is t i) (span_up (g t).versions)

  module _ (p : Leveled → Bool) (level : ℕ) where
    abbrev plan : Plan
    plan = plan_of family level p ts

    abbrev nums : List ℕ
    nums = input_numbers plan

    nums_are : nums ≡ map number (filter p ts)
    nums_are = map_twice (λ (t : Leveled). t.table) (λ (t : Live). t.number) (filter p ts)

    has_is : (t : Leveled) → In t ts → has_number nums (number t) ≡ p t
    has_is t i =
        elim (cases_Bool (p t)) [
          | inl y ↦ subst (λ z. has_number z (number t) ≡ true) (sym nums_are) (any-In (λ o. o == number t) (number t) (map number (filter p ts)) (In-map number t (filter p ts) (In-filter p t ts i y)) (eq-eqb (number t) (number t) refl)) ∙ sym y
          | inr y ↦ false_from_ne_true (has_number nums (number t)) (λ h.
              let r = In-any (λ o. o == number t) (map number (filter p ts)) (subst (λ z. has_number z (number t) ≡ true) nums_are h) in
              let s = map-In number r.0 (filter p ts) r.1 in
              let j = filter-In p s.0 ts s.1 in
              let e : number s.0 ≡ number t = s.2 ∙ eqb-true r.0 (number t) r.2 in
              let k : s.0 ≡ t = one_of_number ts ascending s.0 t j.0 i e in
              false≢true (sym y ∙ ap p (sym k) ∙ j.1)) ∙ sym y
        ]

    inputs_are : inputs_of m family nums ≡ map g (filter p ts)
    inputs_are = ap (filter (is_input nums)) shows.tables ∙ filter_map g (is_input nums) ts ∙ ap (map g) (filter_same (λ (t : Leveled). is_input nums (g t)) p ts (λ t i. has_is t i))

    deeper_is : plan.deeper ≡ deeper_of m family nums level
    deeper_is =
        map_same table_span (λ (t : Leveled). span_of (g t).versions) (filter (λ (t : Leveled). nat_lt level t.level && not (p t)) ts)
        (λ t i. sym (span_is t (filter-In (λ (z : Leveled). nat_lt level z.level && not (p z)) t ts i).0))
        ∙ sym (map_twice g (λ (t : LiveTable). span_of t.versions) (filter (λ (t : Leveled). nat_lt level t.level && not (p t)) ts))
        ∙ ap (λ l. spans_of (map g l)) (filter_same (λ (t : Leveled). nat_lt level t.level && not (p t)) (λ (t : Leveled). nat_lt level t.level && not (is_input nums (g t))) ts (λ t i. ap (λ b. nat_lt level t.level && not b) (sym (has_is t i))))
        ∙ ap spans_of (sym (filter_map g (λ (t : LiveTable). nat_lt level t.level && not (is_input nums t)) ts))
        ∙ ap (λ l. spans_of (filter (λ (t : LiveTable). nat_lt level t.level && not (is_input nums t)) l)) (sym shows.tables)

    some_from : (t : Leveled) → In t (filter p ts) → nat_lt 0 (length nums) ≡ true
    some_from t i = lt-ltb 0 (length nums) (longer (map number (filter p ts)) (number t) (In-map number t (filter p ts) i) (ap length (sym nums_are)))
      where
        longer : (ns : List ℕ) (n : ℕ) → In n ns → length ns ≡ length nums → 0 < length nums
        longer [] n i e = absurd i
        longer (o ∷ os) n i e = omega (arith, e)

    taken_in : ((t : Leveled) → In t ts → p t ≡ false → is_wanted level (map g (filter p ts)) (g t) ≡ false) → list_all (λ (t : LiveTable). is_input nums t || not (is_wanted level (inputs_of m family nums) t)) (tables_of m family) ≡ true
    taken_in h =
        all_from (λ (t : LiveTable). is_input nums t || not (is_wanted level (inputs_of m family nums) t)) (tables_of m family) (λ t i.
        let r = map-In g t ts (subst (In t) shows.tables i) in
        subst (λ (z : LiveTable). (is_input nums z || not (is_wanted level (inputs_of m family nums) z)) ≡ true) r.2 (one r.0 r.1))
      where
        one : (t : Leveled) → In t ts → (is_input nums (g t) || not (is_wanted level (inputs_of m family nums) (g t))) ≡ true
        one t i = elim (cases_Bool (p t)) [
          | inl y ↦ or_left (is_input nums (g t)) (not (is_wanted level (inputs_of m family nums) (g t))) (has_is t i ∙ y)
          | inr y ↦ or_right (is_input nums (g t)) (not (is_wanted level (inputs_of m family nums) (g t))) (ap (λ l. not (is_wanted level l (g t))) inputs_are ∙ ap not (h t i y))
        ]

    live_is : list_all (has_number (numbers_of (tables_of m family))) nums ≡ true
    live_is =
        all_from (has_number (numbers_of (tables_of m family))) nums (λ n i.
        let r = map-In number n (filter p ts) (subst (In n) nums_are i) in
        let j = filter-In p r.0 ts r.1 in
        let k : In (number r.0) (numbers_of (tables_of m family)) = subst (λ l. In (number r.0) (numbers_of l)) (sym shows.tables) (In-map (λ (z : LiveTable). z.number) (g r.0) (map g ts) (In-map g r.0 ts j.0)) in
        any-In (λ o. o == n) (number r.0) (numbers_of (tables_of m family)) k (eq-eqb (number r.0) n r.2))

    pub closed_from : (t : Leveled) → In t (filter p ts) → 1 ≤ level → level ≤ 6 → ((u : Leveled) → In u ts → p u ≡ false → is_wanted level (map g (filter p ts)) (g u) ≡ false) → IsPlanOf m family plan
    closed_from t i low high h = record {
      family_is = refl;
      closed = record {
        some = some_from t i;
        ascending = subst (λ l. is_ascending l ≡ true) (sym nums_are) (ascends_filter p ts ascending);
        live = live_is;
        level_is = and_from (nat_le 1 level) (nat_le level 6) (le_true 1 level low) (le_true level 6 high);
        taken_in = taken_in h;
      };
      deeper = deeper_is;
    }
      where
        le_true : (a b : ℕ) → a ≤ b → nat_le a b ≡ true
        le_true a b h = grind (arith, nat_tests, h)

  -- ---- what is picked of a level

  module _ (level : ℕ) where
    abbrev c : Choice
    c = choice_of ts level

    abbrev taken : Leveled → Bool
    taken t = is_taken level (first_number (of_level level ts)) t

    abbrev p : Leveled → Bool
    p t = is_picked c t

    taken_level : (t : Leveled) → taken t ≡ true → t.level ≡ level
    taken_level t h = eqb-true t.level level (and_parts (t.level == level) _ h).0

    abbrev ranges : List KeySpan
    ranges = ranges_of (filter taken ts)

    -- the first of the level is taken, where the level is due
    first_of : (us : List Leveled) → (us ≡ [] → ⊥) → (t : Leveled) × In t us × (first_number us ≡ Some (number t))
    first_of [] h = absurd (h refl)
    first_of (u ∷ us) h = (u, inl refl, refl)

    some_due : is_level_due ts level ≡ true → of_level level ts ≡ [] → ⊥
    some_due d e = elim (cases_Bool (level == 0)) [
      | inl y ↦
          let z : level ≡ 0 = eqb-true level 0 y in
          let n : of_level 0 ts ≡ [] = ap (λ l. of_level l ts) (sym z) ∙ e in
          let k : nat_le 4 (length (of_level 0 ts)) ≡ true = rw y at d in
          few (length (of_level 0 ts)) (ap length n) k
      | inr y ↦
          let k : nat_lt (bytes_limit level) (file_bytes (of_level level ts)) ≡ true = rw y at d in
          nothing (bytes_limit level) (file_bytes (of_level level ts)) (ap file_bytes e) k
    ]
      where
        few : (n : ℕ) → n ≡ 0 → nat_le 4 n ≡ true → ⊥
        few n e h = let k : nat_le 4 0 ≡ true = subst (λ z. nat_le 4 z ≡ true) e h in false≢true k

        nothing : (limit n : ℕ) → n ≡ 0 → nat_lt limit n ≡ true → ⊥
        nothing limit n e h = let k = ltb-true limit n h in omega (arith, e, k)

    pub taken_some : is_level_due ts level ≡ true → (t : Leveled) × In t ts × (taken t ≡ true)
    taken_some d =
        let r = first_of (of_level level ts) (some_due d) in
        let j = filter-In (λ (t : Leveled). t.level == level) r.0 ts r.1 in
        let n : is_number (first_number (of_level level ts)) (number r.0) ≡ true = ap (λ o. is_number o (number r.0)) r.2 ∙ eq-eqb (number r.0) (number r.0) refl in
        (r.0, j.0, and_from (r.0.level == level) (level == 0 || is_number (first_number (of_level level ts)) (number r.0)) j.1 (or_right (level == 0) (is_number (first_number (of_level level ts)) (number r.0)) n))

    -- there is a hull where something is picked
    hull_some : (ss : List KeySpan) (s : KeySpan) → In s ss → (hull : KeySpan) × (hull_if_any ss ≡ Some hull)
    hull_some [] s i = absurd i
    hull_some (a ∷ bs) s i = (hull_with a bs, refl)

    hull_met : (o : Option KeySpan) (s : KeySpan) → meets_some o s ≡ true → (hull : KeySpan) × (o ≡ Some hull)
    hull_met None s h = absurd (false≢true h)
    hull_met (Some hull) s h = (hull, refl)

    abbrev next : Leveled → Bool
    next t = t.level == level + 1 && meets_some (hull_if_any ranges) (table_span t)

    range_in : (t : Leveled) → In t ts → taken t ≡ true → In (table_span t) ranges
    range_in t i y = In-map table_span t (filter taken ts) (In-filter taken t ts i y)

    hull_there : (x : Leveled) → In x ts → p x ≡ true → (hull : KeySpan) × (hull_if_any ranges ≡ Some hull)
    hull_there x i h = elim (or_cases (taken x) (next x) h) [
      | inl y ↦ hull_some ranges (table_span x) (range_in x i y)
      | inr y ↦ hull_met (hull_if_any ranges) (table_span x) (and_parts (x.level == level + 1) (meets_some (hull_if_any ranges) (table_span x)) y).1
    ]

    module _ (hull : KeySpan) (hull_is : hull_if_any ranges ≡ Some hull) where
      -- a picked table is taken, or stands on the next level and meets the hull
      goes : (x : Leveled) → p x ≡ true → (taken x ≡ true) ⊎ ((x.level ≡ level + 1) × (meets (table_span x) hull ≡ true))
      goes x h = elim (or_cases (taken x) (next x) h) [
        | inl y ↦ inl y
        | inr y ↦ (let a = and_parts (x.level == level + 1) (meets_some (hull_if_any ranges) (table_span x)) y in inr (eqb-true x.level (level + 1) a.0, sym (ap (λ o. meets_some o (table_span x)) hull_is) ∙ a.1))
      ]

      level_of : (x : Leveled) → p x ≡ true → (x.level ≡ level) ⊎ (x.level ≡ level + 1)
      level_of x h = elim (goes x h) [ inl y ↦ inl (taken_level x y) | inr y ↦ inr y.0 ]

      taken_within : (x : Leveled) → In x ts → taken x ≡ true → Lies (table_span x) hull
      taken_within x i y = lies_within ranges hull (table_span x) hull_is (range_in x i y)

      meets_hull : (x : Leveled) → In x ts → p x ≡ true → meets (table_span x) hull ≡ true
      meets_hull x i h = elim (goes x h) [
        | inl y ↦ lies_meets (table_span x) hull (range_up x i) (taken_within x i y)
        | inr y ↦ y.1
      ]

      module _ (t : Leveled) (t_in : In t ts) (out : p t ≡ false) where
        not_next : t.level ≡ level + 1 → meets (table_span t) hull ≡ false
        not_next e =
            let n : next t ≡ false = (or_parts (taken t) (next t) out).1 in
            false_from_ne_true (meets (table_span t) hull) (λ y.
            false≢true (sym n ∙ and_from (t.level == level + 1) (meets_some (hull_if_any ranges) (table_span t)) (eq-eqb t.level (level + 1) e) (ap (λ o. meets_some o (table_span t)) hull_is ∙ y)))

        other_number : (y : Leveled) → In y ts → p y ≡ true → number t ≢ number y
        other_number y i h e = let k : t ≡ y = one_of_number ts ascending t y t_in i e in false≢true (sym out ∙ ap p k ∙ h)

        misses : t.level ≡ level + 1 → (y : Leveled) → In y ts → p y ≡ true → meets (table_span t) (table_span y) ≡ false
        misses e y i h = elim (goes y h) [
          | inl k ↦ false_from_ne_true (meets (table_span t) (table_span y)) (λ w. false≢true (sym (not_next e) ∙ meets_wider (table_span t) (table_span y) hull (taken_within y i k) w))
          | inr k ↦
              let here : In (g t) (tables_of m family) = subst (In (g t)) (sym shows.tables) (In-map g t ts t_in) in
              let there : In (g y) (tables_of m family) = subst (In (g y)) (sym shows.tables) (In-map g y ts i) in
              let apart : meets (span_of (g t).versions) (span_of (g y).versions) ≡ false =
              shows.ordered.spread (g t) (g y) (In-contains (tables_of m family) (g t) here) (In-contains (tables_of m family) (g y) there) (e ∙ sym k.0) (above level t.level e) (other_number y i h) in
              sym (λ j. meets (span_is t t_in j) (span_is y i j)) ∙ apart
        ]
          where
            above : (l n : ℕ) → n ≡ l + 1 → 0 < n
            above l n e = omega (arith, e)

        hull_apart : (e : t.level ≡ level + 1) (us : List Leveled) → ((y : Leveled) → In y us → In y ts × (p y ≡ true)) → (x : Leveled) → In x us → meets (table_span t) (jobs.hull_of (map g us)) ≡ false
        hull_apart e [] each x i = absurd i
        hull_apart e (u ∷ us) each x i =
            apart_hull (table_span t) hull (span_of (g u).versions) (spans_of (map g us)) (range_up t t_in) (not_next e) (λ s k.
            let r = map-In (λ (z : LiveTable). span_of z.versions) s (map g (u ∷ us)) k in
            let q = map-In g r.0 (u ∷ us) r.1 in
            let y = each q.0 q.1 in
            let same : table_span q.0 ≡ s = sym (span_is q.0 y.0) ∙ ap (λ (z : LiveTable). span_of z.versions) q.2 ∙ r.2 in
            (subst (λ z. meets z hull ≡ true) same (meets_hull q.0 y.0 y.1), subst (λ z. meets (table_span t) z ≡ false) same (misses e q.0 y.0 y.1)))

        between : (a b l : ℕ) → is_amid a b (l + 1) ≡ true → (a ≡ l) ⊎ (a ≡ l + 1) → ⊥
        between a b l h w = elim (or_cases (nat_lt a b && nat_lt b (l + 1)) (nat_lt (l + 1) b && nat_lt b a) h) [
          | inl y ↦
              let q = and_parts (nat_lt a b) (nat_lt b (l + 1)) y in
              let c1 = ltb-true a b q.0 in
              let c2 = ltb-true b (l + 1) q.1 in
              elim w [ inl e ↦ omega (arith, c1, c2, e) | inr e ↦ omega (arith, c1, c2, e) ]
          | inr y ↦
              let q = and_parts (nat_lt (l + 1) b) (nat_lt b a) y in
              let c1 = ltb-true (l + 1) b q.0 in
              let c2 = ltb-true b a q.1 in
              elim w [ inl e ↦ omega (arith, c1, c2, e) | inr e ↦ omega (arith, c1, c2, e) ]
        ]

        bottom : (x : Leveled) → p x ≡ true → (x.level == 0 && t.level == 0) ≡ true → ⊥
        bottom x h w =
            let q = and_parts (x.level == 0) (t.level == 0) w in
            let a : x.level ≡ 0 = eqb-true x.level 0 q.0 in
            let b : t.level ≡ 0 = eqb-true t.level 0 q.1 in
            let z : level ≡ 0 = zero_from x.level level a (level_of x h) in
            let first : taken t ≡ true = and_from (t.level == level) (level == 0 || is_number (first_number (of_level level ts)) (number t)) (eq-eqb t.level level (b ∙ sym z)) (or_left (level == 0) (is_number (first_number (of_level level ts)) (number t)) (eq-eqb level 0 z)) in
            false≢true (sym (or_parts (taken t) (next t) out).0 ∙ first)
          where
            zero_from : (a l : ℕ) → a ≡ 0 → (a ≡ l) ⊎ (a ≡ l + 1) → l ≡ 0
            zero_from a l e (inl q) = sym q ∙ e
            zero_from a l e (inr q) = absurd (omega (arith, e, q))

        not_wanted : is_wanted (level + 1) (map g (filter p ts)) (g t) ≡ false
        not_wanted =
            false_from_ne_true (is_wanted (level + 1) (map g (filter p ts)) (g t)) (λ w.
            let a = and_parts (meets (span_of (g t).versions) (jobs.hull_of (map g (filter p ts)))) (list_any (λ input. goes_with (level + 1) input (g t)) (map g (filter p ts))) w in
            let r = In-any (λ input. goes_with (level + 1) input (g t)) (map g (filter p ts)) a.1 in
            let s = map-In g r.0 (filter p ts) r.1 in
            let j = filter-In p s.0 ts s.1 in
            let with : goes_with (level + 1) (g s.0) (g t) ≡ true = subst (λ (z : LiveTable). goes_with (level + 1) z (g t) ≡ true) (sym s.2) r.2 in
            elim (or_cases (t.level == level + 1 || is_amid s.0.level t.level (level + 1)) (s.0.level == 0 && t.level == 0) with) [
              | inl b ↦ elim (or_cases (t.level == level + 1) (is_amid s.0.level t.level (level + 1)) b) [
                | inl y ↦
                    let e : t.level ≡ level + 1 = eqb-true t.level (level + 1) y in
                    let n = hull_apart e (filter p ts) (λ z i. filter-In p z ts i) s.0 s.1 in
                    false≢true (sym n ∙ ap (λ z. meets z (jobs.hull_of (map g (filter p ts)))) (sym (span_is t t_in)) ∙ a.0)
                | inr y ↦ between s.0.level t.level level y (level_of s.0 j.1)
              ]
              | inr b ↦ bottom s.0 j.1 b
            ])

    pub picked_closed : level < 6 → is_level_due ts level ≡ true → IsPlanOf m family (plan_of family (level + 1) (is_picked c) ts)
    picked_closed l d =
        let r = taken_some d in
        let y : p r.0 ≡ true = or_left (taken r.0) (next r.0) r.2 in
        let h = hull_there r.0 r.1 y in
        closed_from p (level + 1) r.0 (In-filter p r.0 ts r.1 y) (omega arith) (omega (arith, l)) (λ u i out. not_wanted h.0 h.1 u i out)

  pub whole_closed : (t : Leveled) → In t ts → IsPlanOf m family (plan_of family LOWEST_LEVEL every ts)
  whole_closed t i = closed_from every LOWEST_LEVEL t (In-filter every t ts i refl) (omega arith) (omega arith) (λ u j out. absurd (false≢true (sym out)))

-- ---- the plans

whole_is : (family : Family) (us : List Leveled) (plan : Plan) → whole_of family us ≡ Some plan → (t : Leveled) × In t us × (plan_of family LOWEST_LEVEL every us ≡ plan)
whole_is family [] plan e = cc
whole_is family (u ∷ us) plan e = (u, inl refl, some_is (plan_of family LOWEST_LEVEL every (u ∷ us)) plan e)
  where
    some_is : (a b : Plan) → Some a ≡ Some b → a ≡ b
    some_is a b e = cc

pub whole_plans : WholePlansAreClosed
whole_plans m family f plan shows e =
    let r = whole_is family (tables_in f) plan e in
    subst (IsPlanOf m family) r.2 (whole_closed m family f shows r.0 r.1)

due_is : (n l : ℕ) (us : List Leveled) (level : ℕ) → due_from n l us ≡ Some level → (level < l + n) × (is_level_due us level ≡ true)
due_is zero l us level e = cc
due_is (suc n) l us level e =
    elim (cases_Bool (is_level_due us l)) [
      | inl y ↦ (let k : l ≡ level = some_is l level (rw y at e) in (omega (arith, k), subst (λ z. is_level_due us z ≡ true) k y))
      | inr y ↦ (let r = due_is n (l + 1) us level (rw y at e) in let k = r.0 in (omega (arith, k), r.1))
    ]
  where
    some_is : (a b : ℕ) → Some a ≡ Some b → a ≡ b
    some_is a b e = cc

picked_is : (family : Family) (us : List Leveled) (plan : Plan) (o : Option ℕ) → option_map (λ level. plan_of family (level + 1) (is_picked (choice_of us level)) us) o ≡ Some plan → (level : ℕ) × (o ≡ Some level) × (plan_of family (level + 1) (is_picked (choice_of us level)) us ≡ plan)
picked_is family us plan None e = cc
picked_is family us plan (Some level) e = (level, refl, some_is (plan_of family (level + 1) (is_picked (choice_of us level)) us) plan e)
  where
    some_is : (a b : Plan) → Some a ≡ Some b → a ≡ b
    some_is a b e = cc

pub picked_plans : PickedPlansAreClosed
picked_plans m family f plan shows e =
    let r = picked_is family (tables_in f) plan (due_level (tables_in f)) e in
    let d = due_is LOWEST_LEVEL 0 (tables_in f) r.0 r.1 in
    subst (IsPlanOf m family) r.2 (picked_closed m family f shows r.0 d.0 d.1)
