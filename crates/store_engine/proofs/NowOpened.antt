-- The super version of an opened folder shows each state that the folder stands for.
use Rattle.std.proofs.Common.{◌≡◌, ℕ, zero, suc, ◌+◌, ◌<◌, ◌≤◌, ◌&&◌, ◌==◌, Bool, true, false, List, [], ◌∷◌, ◌++◌, get_or, length, map, Some, None, refl, sym, ap, ◌∙◌, subst, arith, inl, inr, append-nil}
use Rattle.std.specs.Prelude.{filter, nat_le, nat_lt, slice_get}
use Rattle.std.specs.Cmp.{IsStrictWeakOrder}
use Rattle.std.specs.List.{AllByRecursion, flat_map}
use Rattle.std.specs.List.Sorted.{IsPermutation, IsSortedBy, IsStrictlyIncreasing}
use Rattle.std.proofs.lemmas.Bool.{and_from, and_parts, cases_Bool, eq-eqb, eqb-true, false≢true, le-leb, leb-false, leb-true, lt-leb, ne_eqb}
use Rattle.std.proofs.lemmas.List.Sorted.{Contains-permutation, IsPermutation-sym, sorted_far}
use Rattle.ts_key.specs.declared.numbers.Family.{Family}
use Rattle.ts_key.specs.declared.numbers.Seq.{Seq}
use Rattle.ts_key.specs.declared.numbers.Ts.{Ts}
use Rattle.ts_key.specs.declared.version.Form.{Form}
use Rattle.ts_key.specs.declared.version.Version.{Version}
use Rattle.sorted_run.specs.Sorts.{sorted}
use Rattle.memtable.specs.Memtables.{Memtable, versions_of_memtable}
use Rattle.udt_disk.specs.Joint.{Folder}
use Rattle.udt_model.specs.Crashes.{Course}
use Rattle.udt_model.specs.State.{State, LiveTable}
use Rattle.udt_model.specs.State.{FamilyState as ModelFamily}
use Rattle.udt_model.specs.Versions.{between}
use Rattle.manifest_edit.specs.declared.edit.TableAt.{TableAt}
use Rattle.manifest_fold.specs.declared.fold.FamilyFold.{FamilyFold}
use Rattle.manifest_fold.specs.declared.fold.Folded.{Folded}
use Rattle.super_version.specs.Contents.{version_of_item}
use Rattle.super_version.specs.Levels.{StandInOrder, stands_before}
use Rattle.super_version.specs.Live.{Live}
use Rattle.super_version.specs.Numbers.{IsTableOf}
use Rattle.super_version.specs.Writes.{of_family}
use Rattle.super_version.specs.declared.family.FamilyState.{FamilyState}
use Rattle.super_version.specs.declared.family.TheConstants.{LEVELS}
use Rattle.super_version.specs.declared.version.SuperVersion.{SuperVersion}
use Rattle.super_version.proofs.Lists.{length_map}
use Rattle.floor_laws.proofs.Kept.{same_number}
use Rattle.floor_laws.proofs.Members.{In, In-append, In-contains, In-filter, In-left, In-map, In-right, contains_In, filter-In, map-In}
use Rattle.floor_laws.proofs.States.{holds_of, some_same, written_of}
use Rattle.floor_laws.proofs.Tables.{Sorted}
use Rattle.engine_laws.specs.Engine.{HoldsState}
use Rattle.engine_laws.specs.Logs.{above, batches_of, is_above_through}
use Rattle.engine_laws.specs.Logs as logs
use Rattle.engine_laws.specs.Manifests.{IsLive, IsWell}
use Rattle.engine_laws.specs.Standing.{TableSays, family_said, table_of}
use Rattle.engine_laws.proofs.Ascending.{rising_sorted}
use Rattle.recovery.specs.Laws.{account_of, said_in}
use Rattle.recovery.specs.Opening.{IsShown}
use Rattle.recovery.specs.Places.{AreOpened, number_at, place_in, table_place_of}
use Rattle.recovery.specs.Replayed.{above_through, is_unflushed}
use Rattle.recovery.specs.Tables.{says_of}
use Rattle.recovery.specs.Versions.{AreLevels, ShowsFamily, is_on, level_tables}
use Rattle.recovery.proofs.Stating.{least_on, newest_on, on_deeper, on_newest}
use Rattle.store_engine.specs.Now.{FitsFamily, IsFamilyNow, IsNow, table_shown, tables_shown, versions_held}
use Rattle.store_engine.proofs.NowRaised.{same_or_not}
use Rattle.store_engine.proofs.NowWritten.{filter_like, sorted_moves}
use Rattle.store_engine.proofs.OneForOne.{once-sorted, same_once, times, times-append, times-filter, times-map, times-moved}

-- an opened table, which recovery keeps to itself: what a function of one takes
abbrev taken_by : {A B : Type 0} → (A → B) → Type 0
taken_by {A} f = A

abbrev Opened : Type 0
Opened = taken_by table_place_of

-- ---- lists

get_there : {X : Type 0} (xs : List X) (n : ℕ) → n < length xs → (x : X) × (slice_get xs n ≡ Some x)
get_there [] n l = absurd (omega (arith, l))
get_there (x ∷ xs) zero l = (x, refl)
get_there (x ∷ xs) (suc n) l = get_there xs n (omega (arith, l))

index_of : {X : Type 0} (x : X) (xs : List X) → In x xs → (k : ℕ) × (slice_get xs k ≡ Some x)
index_of x [] i = absurd i
index_of x (y ∷ ys) (inl q) = (0, ap Some q)
index_of x (y ∷ ys) (inr i) = let r = index_of x ys i in (suc r.0, r.1)

get_map : {X Y : Type 0} (f : X → Y) (xs : List X) (n : ℕ) (y : Y) → slice_get (map f xs) n ≡ Some y → (x : X) × ((slice_get xs n ≡ Some x) × (f x ≡ y))
get_map f [] n y e = absurd cc
get_map f (x ∷ xs) zero y e = (x, (refl, cc))
get_map f (x ∷ xs) (suc n) y e = get_map f xs n y e

all_in : {X : Type 0} (P : X → Type 0) (xs : List X) → ((x : X) → In x xs → P x) → AllByRecursion P xs
all_in P [] h = tt
all_in P (x ∷ xs) h = (h x (inl refl), all_in P xs (λ z i. h z (inr i)))

all_at : {X : Type 0} (P : X → Type 0) (xs : List X) → ((j : ℕ) (d : X) → j < length xs → P (get_or xs j d)) → AllByRecursion P xs
all_at P [] h = tt
all_at P (x ∷ xs) h = (h 0 x (omega arith), all_at P xs (λ j d l. h (suc j) d (omega (arith, l))))

-- ---- the order of a level

stand_in : (level kind : ℕ) → ((a b : Live) → stands_before level a b ≡ stands_before kind a b) → IsStrictWeakOrder (stands_before kind) → (tables : List Live) → IsSortedBy (stands_before level) tables → StandInOrder level tables
stand_in level kind same order [] up = tt
stand_in level kind same order (t ∷ ts) up =
    let up2 : IsSortedBy (stands_before kind) (t ∷ ts) = λ k d low within. sym (same (get_or (t ∷ ts) (k + 1) d) (get_or (t ∷ ts) k d)) ∙ up k d low within in
    let tail : IsSortedBy (stands_before level) ts = λ k d low within.
    let e : suc k + 1 ≡ suc (k + 1) = omega arith in
    subst (λ (n : ℕ). stands_before level (get_or (t ∷ ts) n d) (get_or (t ∷ ts) (suc k) d) ≡ false) e (up (suc k) d (omega arith) (omega (arith, within))) in
    (all_at (λ (o : Live). stands_before level o t ≡ false) ts (λ j d l. same (get_or ts j d) t ∙ sorted_far (stands_before kind) order (t ∷ ts) up2 0 (suc j) d (omega arith) (omega (arith, l))), stand_in level kind same order ts tail)

in_order : (level : ℕ) (tables : List Live) → IsSortedBy (stands_before level) tables → StandInOrder level tables
in_order level tables up = elim (same_or_not level 0) [
  | inl e ↦ stand_in level 0 (on_newest level e) (newest_on (λ (t : Live). t)) tables up
  | inr n ↦ stand_in level 1 (on_deeper level n) (least_on (λ (t : Live). t)) tables up
]

-- ---- tables on levels

shown_at : (family : Family) (n : ℕ) (levels : List (List Live)) (k : ℕ) (tables : List Live) (t : Live) → slice_get levels k ≡ Some tables → In t tables → In (table_shown family (n + k) t) (tables_shown family n levels)
shown_at family n [] k tables t e i = absurd cc
shown_at family n (x ∷ xs) zero tables t e i =
    let here : x ≡ tables = some_same x tables e in
    let same : n ≡ n + zero = omega arith in
    In-left (table_shown family (n + zero) t) (map (table_shown family n) x) (tables_shown family (n + 1) xs)
    (subst (λ (l : ℕ). In (table_shown family l t) (map (table_shown family n) x)) same (In-map (table_shown family n) t x (subst (In t) (sym here) i)))
shown_at family n (x ∷ xs) (suc k) tables t e i =
    let same : n + 1 + k ≡ n + suc k = omega arith in
    In-right (table_shown family (n + suc k) t) (map (table_shown family n) x) (tables_shown family (n + 1) xs)
    (subst (λ (l : ℕ). In (table_shown family l t) (tables_shown family (n + 1) xs)) same (shown_at family (n + 1) xs k tables t e i))

record IsShownAt (family : Family) (n : ℕ) (levels : List (List Live)) (u : LiveTable) : Type 0 where
  k : ℕ
  tables : List Live
  there : slice_get levels k ≡ Some tables
  t : Live
  within : In t tables
  is : table_shown family (n + k) t ≡ u

at_shown : (family : Family) (n : ℕ) (levels : List (List Live)) (u : LiveTable) → In u (tables_shown family n levels) → IsShownAt family n levels u
at_shown family n [] u i = absurd i
at_shown family n (x ∷ xs) u i = elim (In-append u (map (table_shown family n) x) (tables_shown family (n + 1) xs) i) [
  | inl j ↦
      let r = map-In (table_shown family n) u x j in
      let same : n ≡ n + 0 = omega arith in
      record { k = 0; tables = x; there = refl; t = r.0; within = r.1; is = subst (λ (l : ℕ). table_shown family l r.0 ≡ u) same r.2 }
  | inr j ↦
      let r = at_shown family (n + 1) xs u j in
      let same : n + 1 + r.k ≡ n + suc r.k = omega arith in
      record { k = suc r.k; tables = r.tables; there = r.there; t = r.t; within = r.within; is = subst (λ (l : ℕ). table_shown family l r.t ≡ u) same r.is }
]

-- ---- the tables that were opened

abbrev number_of : LiveTable → ℕ
number_of t = t.number

abbrev opened_number : Opened → ℕ
opened_number o = o.table.number

-- the opened tables of a family from a level on
abbrev is_from : Family → ℕ → Opened → Bool
is_from family n o = o.family.0 == family.0 && nat_le n o.level

on_true : (family : Family) (level : ℕ) (o : Opened) → is_on family level o ≡ true → (o.family ≡ family) × (o.level ≡ level)
on_true family level o h = let r = and_parts (o.family.0 == family.0) (o.level == level) h in (same_number o.family family (eqb-true o.family.0 family.0 r.0), eqb-true o.level level r.1)

on_from : (family : Family) (level : ℕ) (o : Opened) → o.family ≡ family → o.level ≡ level → is_on family level o ≡ true
on_from family level o f l = and_from (o.family.0 == family.0) (o.level == level) (eq-eqb o.family.0 family.0 (ap (λ (z : Family). z.0) f)) (eq-eqb o.level level l)

-- a level and those behind it
split_levels : (family : Family) (n k : ℕ) (opened : List Opened) → times opened_number k (filter (is_on family n) opened) + times opened_number k (filter (is_from family (n + 1)) opened) ≤ times opened_number k (filter (is_from family n) opened)
split_levels family n k [] = omega arith
split_levels family n k (o ∷ opened) =
    let r = split_levels family n k opened in
    elim (cases_Bool (o.family.0 == family.0)) [
      | inr other ↦ rw other r
      | inl own ↦ elim (cases_Bool (o.level == n)) [
        | inl here ↦
            let e = eqb-true o.level n here in
            let a : nat_le (n + 1) o.level ≡ false = lt-leb (n + 1) o.level (omega (arith, e)) in
            let b : nat_le n o.level ≡ true = le-leb n o.level (omega (arith, e)) in
            rw (own, here, a, b) (omega (arith, r))
        | inr there ↦ elim (cases_Bool (nat_le (n + 1) o.level)) [
          | inl c ↦
              let l = leb-true (n + 1) o.level c in
              let b : nat_le n o.level ≡ true = le-leb n o.level (omega (arith, l)) in
              rw (own, there, c, b) (omega (arith, r))
          | inr c ↦ elim (cases_Bool (nat_le n o.level)) [
            | inl d ↦
                let l = leb-true n o.level d in
                let g = leb-false (n + 1) o.level c in
                absurd (false≢true (sym there ∙ eq-eqb o.level n (omega (arith, l, g))))
            | inr d ↦ rw (own, there, c, d) (omega (arith, r))
          ]
        ]
      ]
    ]

module _ (family : Family) (opened : List Opened) where
  -- no more tables of a number are on levels than were opened
  few_shown : (n : ℕ) (levels : List (List Live)) (k : ℕ) → ((i : ℕ) (tables : List Live) → slice_get levels i ≡ Some tables → IsPermutation (level_tables family (n + i) opened) tables)
      → times number_of k (tables_shown family n levels) ≤ times opened_number k (filter (is_from family n) opened)
  few_shown n [] k each = omega arith
  few_shown n (x ∷ xs) k each =
      let same0 : n + 0 ≡ n = omega arith in
      let moved : IsPermutation (level_tables family n opened) x = subst (λ (l : ℕ). IsPermutation (level_tables family l opened) x) same0 (each 0 x refl) in
      let rest = few_shown (n + 1) xs k (λ i tables e. let same : n + suc i ≡ n + 1 + i = omega arith in subst (λ (l : ℕ). IsPermutation (level_tables family l opened) tables) same (each (suc i) tables e)) in
      let a = times-append number_of k (map (table_shown family n) x) (tables_shown family (n + 1) xs) in
      let b : times number_of k (map (table_shown family n) x) ≡ times (λ (t : Live). t.number) k x = times-map number_of (table_shown family n) k x in
      let c : times (λ (t : Live). t.number) k x ≡ times (λ (t : Live). t.number) k (level_tables family n opened) = times-moved (λ (t : Live). t.number) k (level_tables family n opened) x moved in
      let d : times (λ (t : Live). t.number) k (level_tables family n opened) ≡ times opened_number k (filter (is_on family n) opened) = times-map (λ (t : Live). t.number) (λ (o : Opened). o.table) k (filter (is_on family n) opened) in
      let e = split_levels family n k opened in
      omega (arith, a, b, c, d, e, rest)

-- what is said under the number of a table that was opened
said_there : (opened : List Opened) (o : Opened) → Sorted (map opened_number opened) → In o opened → said_in opened o.table.number ≡ says_of o.table.table.contents
said_there [] o up i = absurd i
said_there (x ∷ xs) o up (inl q) =
    let e = eq-eqb x.table.number o.table.number (ap opened_number q) in
    rw e (ap (λ (z : Opened). says_of z.table.table.contents) q)
said_there (x ∷ xs) o up (inr i) =
    let l = up.0 o.table.number (In-map opened_number o xs i) in
    let e : (x.table.number == o.table.number) ≡ false = ne_eqb x.table.number o.table.number (λ q. omega (arith, l, q)) in
    rw e (said_there xs o up.1 i)

module _ (folder : Folder) (fold : Folded) (opened : List Opened) (tables : AreOpened folder fold opened) (up : Sorted (map opened_number opened)) (well : IsWell fold) (family : Family) (f : FamilyFold) (there : slice_get fold.families family.0 ≡ Some f) where
  abbrev said : ℕ → TableSays
  said = said_in opened

  -- a table that was opened is the model's
  opened_is : (o : Opened) → In o opened → o.family ≡ family → table_shown family o.level o.table ≡ table_of said (record { level = o.level; number = o.table.number })
  opened_is o i own =
      let here : slice_get fold.families o.family.0 ≡ Some f = subst (λ (z : Family). slice_get fold.families z.0 ≡ Some f) (sym own) there in
      let fits = (tables.each o f (In-contains opened o i) here).fitting.fits in
      let same : (says_of o.table.table.contents).family ≡ family = fits.family ∙ own in
      ap (λ (z : Family). let t : LiveTable = record { number = o.table.number; level = o.level; versions = map (version_of_item z) o.table.table.contents.items } in t) (sym same)
      ∙ ap (λ (z : TableSays). let t : LiveTable = record { number = o.table.number; level = o.level; versions = z.versions } in t) (sym (said_there opened o up i))

  module _ (levels : List (List Live)) (on : AreLevels family opened LEVELS levels) where
    to_shown : (t : LiveTable) → In t (map (table_of said) f.tables) → In t (tables_shown family 0 levels)
    to_shown t i =
        let ta = map-In (table_of said) t f.tables i in
        let live : IsLive fold family f ta.0 = record { family = there; table = In-contains f.tables ta.0 ta.1 } in
        let place = contains_In (map table_place_of opened) (place_in family ta.0) (tables.places.all (place_in family ta.0) (f, live)) in
        let o = map-In table_place_of (place_in family ta.0) opened place in
        let own : o.0.family ≡ family = ap (λ p. p.family) o.2 in
        let at : o.0.level ≡ ta.0.level = ap (λ p. p.table.level) o.2 in
        let low = well.levels family f ta.0 live in
        let all = on.all in
        let level = get_there levels ta.0.level (omega (arith, low, all)) in
        let same = (on.each ta.0.level level.0 level.1).same in
        let listed : In o.0.table (level_tables family ta.0.level opened) = In-map (λ (z : Opened). z.table) o.0 (filter (is_on family ta.0.level) opened) (In-filter (is_on family ta.0.level) o.0 opened o.1 (on_from family ta.0.level o.0 own at)) in
        let here = contains_In level.0 o.0.table (Contains-permutation (level_tables family ta.0.level opened) level.0 o.0.table same (In-contains (level_tables family ta.0.level opened) o.0.table listed)) in
        let zero_more : 0 + ta.0.level ≡ o.0.level = omega (arith, at) in
        let is : table_shown family (0 + ta.0.level) o.0.table ≡ t = ap (λ (l : ℕ). table_shown family l o.0.table) zero_more ∙ opened_is o.0 o.1 own ∙ ap (λ p. table_of said p.table) o.2 ∙ ta.2 in
        subst (λ (z : LiveTable). In z (tables_shown family 0 levels)) is (shown_at family 0 levels ta.0.level level.0 o.0.table level.1 here)

    -- a table on a level was opened there
    from_level : (k : ℕ) (shown : List Live) (t : Live) → slice_get levels k ≡ Some shown → In t shown → (o : Opened) × (In o opened × ((o.family ≡ family) × ((o.level ≡ k) × (o.table ≡ t))))
    from_level k shown t e i =
        let same = (on.each k shown e).same in
        let listed = contains_In (level_tables family k opened) t (Contains-permutation shown (level_tables family k opened) t (IsPermutation-sym (level_tables family k opened) shown same) (In-contains shown t i)) in
        let o = map-In (λ (z : Opened). z.table) t (filter (is_on family k) opened) listed in
        let p = filter-In (is_on family k) o.0 opened o.1 in
        let q = on_true family k o.0 p.1 in
        (o.0, (p.0, (q.0, (q.1, o.2))))

    from_shown : (t : LiveTable) → In t (tables_shown family 0 levels) → In t (map (table_of said) f.tables)
    from_shown t i =
        let s = at_shown family 0 levels t i in
        let r = from_level s.k s.tables s.t s.there s.within in
        let o = r.0 in
        let own : o.family ≡ family = r.1.1.0 in
        let live = tables.places.each (table_place_of o) (In-contains (map table_place_of opened) (table_place_of o) (In-map table_place_of o opened r.1.0)) in
        let same : f ≡ live.0 = some_same f live.0 (sym there ∙ subst (λ (z : Family). slice_get fold.families z.0 ≡ Some live.0) own live.1.family) in
        let ta : TableAt = record { level = o.level; number = o.table.number } in
        let held : In ta f.tables = subst (λ (z : FamilyFold). In ta z.tables) (sym same) (contains_In live.0.tables ta live.1.table) in
        let zero_more : 0 + s.k ≡ o.level = let e = r.1.1.1.0 in omega (arith, e) in
        let is : table_of said ta ≡ t = sym (opened_is o r.1.0 own) ∙ ap (table_shown family o.level) r.1.1.1.1 ∙ ap (λ (l : ℕ). table_shown family l s.t) (sym zero_more) ∙ s.is in
        subst (λ (z : LiveTable). In z (map (table_of said) f.tables)) is (In-map (table_of said) ta f.tables held)

    same_tables : IsPermutation (map (table_of said) f.tables) (tables_shown family 0 levels)
    same_tables =
        same_once number_of (map (table_of said) f.tables) (tables_shown family 0 levels)
        (λ k. let e = times-map number_of (table_of said) k f.tables in let l = once-sorted (λ (t : TableAt). t.number) f.tables (rising_sorted (map (λ (t : TableAt). t.number) f.tables) (well.ascending family f there)) k in omega (arith, e, l))
        (λ k.
        let a = few_shown family opened 0 levels k (λ i shown e. let same : i ≡ 0 + i = omega arith in subst (λ (l : ℕ). IsPermutation (level_tables family l opened) shown) same (on.each i shown e).same) in
        let b = times-filter opened_number k (is_from family 0) opened in
        let c = once-sorted opened_number opened up k in
        omega (arith, a, b, c))
        to_shown from_shown

    fit_all : AllByRecursion (AllByRecursion (FitsFamily f.form f.floor)) levels
    fit_all = all_in (AllByRecursion (FitsFamily f.form f.floor)) levels (λ shown i. all_in (FitsFamily f.form f.floor) shown (λ t j.
        let at = index_of shown levels i in
        let r = from_level at.0 shown t at.1 j in
        let here : slice_get fold.families r.0.family.0 ≡ Some f = subst (λ (z : Family). slice_get fold.families z.0 ≡ Some f) (sym r.1.1.0) there in
        let fits = (tables.each r.0 f (In-contains opened r.0 r.1.0) here).fitting.fits in
        subst (FitsFamily f.form f.floor) r.1.1.1.1 (record { form_is = fits.form; collected = fits.collected })))

    number_all : AllByRecursion (AllByRecursion (IsTableOf family.0)) levels
    number_all = all_in (AllByRecursion (IsTableOf family.0)) levels (λ shown i. all_in (IsTableOf family.0) shown (λ t j.
        let at = index_of shown levels i in
        let r = from_level at.0 shown t at.1 j in
        let here : slice_get fold.families r.0.family.0 ≡ Some f = subst (λ (z : Family). slice_get fold.families z.0 ≡ Some f) (sym r.1.1.0) there in
        let fits = (tables.each r.0 f (In-contains opened r.0 r.1.0) here).fitting.fits in
        subst (IsTableOf family.0) r.1.1.1.1 (ap (λ (z : Family). z.0) (fits.family ∙ r.1.1.0))))

-- ---- the versions that are in no table

above_between : (family : Family) (through last : ℕ) (w : List Version) → ((v : Version) → In v w → v.seq.0 ≤ last) → between family through last w ≡ above family through w
above_between family through last w bounded =
    filter_like (λ (v : Version). v.family.0 == family.0 && nat_lt through v.seq.0 && nat_le v.seq.0 last) (is_above_through family through) w
    (λ v i. let l = le-leb v.seq.0 last (bounded v i) in and_true (v.family.0 == family.0 && nat_lt through v.seq.0) (nat_le v.seq.0 last) l) where
      and_true : (a b : Bool) → b ≡ true → (a && b) ≡ a
      and_true a b y = rw y (elim (cases_Bool a) [ inl x ↦ rw x refl | inr x ↦ rw x refl ])

unflushed_own : (families : List FamilyFold) (family : Family) (f : FamilyFold) (w : List Version) → slice_get families family.0 ≡ Some f → of_family family (above_through families w) ≡ above family f.through.0 w
unflushed_own families family f [] there = refl
unflushed_own families family f (v ∷ vs) there =
    let r = unflushed_own families family f vs there in
    elim (cases_Bool (v.family.0 == family.0)) [
      | inl own ↦
          let at : slice_get families v.family.0 ≡ Some f = ap (slice_get families) (eqb-true v.family.0 family.0 own) ∙ there in
          elim (cases_Bool (nat_lt f.through.0 v.seq.0)) [
            | inl y ↦ rw at (rw y (rw own (ap (λ z. v ∷ z) r)))
            | inr y ↦ rw at (rw y (rw own r))
          ]
      | inr other ↦ elim (cases_Bool (is_unflushed families v)) [
        | inl y ↦ rw y (rw other r)
        | inr y ↦ rw y (rw other r)
      ]
    ]

-- ---- a family

family_opened : (folder : Folder) (fold : Folded) (opened : List Opened) (tables : AreOpened folder fold opened) (up : Sorted (map opened_number opened)) (well : IsWell fold) (family : Family) (f : FamilyFold) (w unflushed : List Version) (g : FamilyState)
    → slice_get fold.families family.0 ≡ Some f → ShowsFamily family opened (above_through fold.families w) f g → unflushed ≡ above family f.through.0 w → IsFamilyNow family unflushed (family_said (said_in opened) f) g
family_opened folder fold opened tables up well family f w unflushed g there shows is = record {
  form = shows.form;
  floor = shows.floor;
  through = shows.through;
  number = record {
    active = ap (λ (z : Family). z.0) shows.number;
    sealed = subst (AllByRecursion (λ (m : Memtable). m.family.0 ≡ family.0)) (sym shows.sealed) tt;
    tables = number_all folder fold opened tables up well family f there g.levels shows.levels;
  };
  holds =
      let own : versions_held g ≡ sorted unflushed =
      ap (λ (l : List Memtable). versions_of_memtable g.active ++ flat_map versions_of_memtable l) shows.sealed ∙ append-nil (versions_of_memtable g.active) ∙ shows.active ∙ ap sorted (unflushed_own fold.families family f w there ∙ sym is) in
      subst (IsPermutation unflushed) (sym own) (sorted_moves unflushed);
  tables = same_tables folder fold opened tables up well family f there g.levels shows.levels;
  levels = shows.levels.all;
  order = λ level shown at. in_order level shown (shows.levels.each level shown at).order;
  fit = subst (λ (z : Form). AllByRecursion (AllByRecursion (FitsFamily z g.floor)) g.levels) (sym shows.form) (subst (λ (z : Ts). AllByRecursion (AllByRecursion (FitsFamily f.form z)) g.levels) (sym shows.floor) (fit_all folder fold opened tables up well family f there g.levels shows.levels));
}

-- ---- the folder

numbers_are : (opened : List Opened) → map number_at (map table_place_of opened) ≡ map opened_number opened
numbers_are [] = refl
numbers_are (o ∷ opened) = ap (λ (ns : List ℕ). o.table.number ∷ ns) (numbers_are opened)

pub now_opened : (folder : Folder) (fold : Folded) (version : SuperVersion) (m : State) (c : Course) (shown : IsShown folder fold version) → IsStrictlyIncreasing (map number_at (map table_place_of shown.opened)) → m.flush ≡ None → HoldsState m c (account_of fold shown) [] → IsNow version m
now_opened folder fold version m c shown ascending idle holds =
    let up = rising_sorted (map opened_number shown.opened) (subst IsStrictlyIncreasing (numbers_are shown.opened) ascending) in
    let batches = batches_of shown.logs fold.logs in
    let h = holds_of m holds.sound in
    let bounded = (written_of (length m.families) m.last.0 m.versions h.written).bounded in
    record {
      last = shown.shows.sequence ∙ ap (λ (n : ℕ). let s : Seq = record { 0 = n } in s) (ap (logs.last_over fold.last.0) (sym (append-nil batches)) ∙ sym holds.last);
      count = shown.shows.families.all ∙ sym (ap length holds.families ∙ length_map (family_said (said_in shown.opened)) fold.families);
      families = λ i f g of there.
          let at : slice_get (map (family_said (said_in shown.opened)) fold.families) i.0 ≡ Some f = sym (ap (λ (l : List ModelFamily). slice_get l i.0) holds.families) ∙ of in
          let ff = get_map (family_said (said_in shown.opened)) fold.families i.0 f at in
          let through : ff.0.through ≡ f.through = ap (λ (z : ModelFamily). z.through) ff.1.1 in
          let is : between i f.through.0 m.last.0 m.versions ≡ above i ff.0.through.0 (logs.versions_of batches) =
          above_between i f.through.0 m.last.0 m.versions bounded ∙ holds.unflushed i f of ∙ ap (λ (bs : List _). above i f.through.0 (logs.versions_of bs)) (append-nil batches) ∙ ap (λ (s : Seq). above i s.0 (logs.versions_of batches)) (sym through) in
          subst (λ (z : ModelFamily). IsFamilyNow i (between i f.through.0 m.last.0 m.versions) z g) ff.1.1
          (family_opened folder fold shown.opened shown.tables up holds.well i ff.0 (logs.versions_of batches) (between i f.through.0 m.last.0 m.versions) g ff.1.0 (shown.shows.families.each i.0 ff.0 g ff.1.0 there) is);
      flush = λ job g is there. absurd (let e = sym idle ∙ is in cc);
    }
