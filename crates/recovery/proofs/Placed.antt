-- Which places the tables of a fold have, and when the table at one of them is in order.
use Rattle.std.proofs.Common.{◌≡◌, ℕ, zero, suc, ◌+◌, ◌<◌, ◌≤◌, Bool, true, false, List, [], ◌∷◌, ◌++◌, length, take, drop, map, get_or, Option, Some, None, refl, sym, ap, ◌∙◌, subst, arith, inl, inr, ⊎_elim, append_assoc, append-nil}
use Rattle.std.specs.Prelude.{Contains, nat_eq, slice_get}
use Rattle.std.specs.List.{AllByRecursion, IsDistinct}
use Rattle.std.specs.List.Sorted.{IsNonDecreasingBy, IsPermutation, IsStrictlyIncreasing}
use Rattle.std.proofs.lemmas.Bool.{cases_eq, cases_lt, eq-eqb, false≢true, ne_eqb}
use Rattle.std.proofs.lemmas.List.{get_or-map, get_or-take, get_or_read, length-map, length-take-le, take-append-drop, map-append, take_more}
use Rattle.std.proofs.lemmas.List.Kept.{AllPairs-from_increasing}
use Rattle.std.proofs.lemmas.List.Sorted.{Contains-permutation, IsPermutation-map, IsPermutation-sym}
use Rattle.std.proofs.lemmas.Map.Keys.{IsDistinct-IsPermutation, IsStrictlyIncreasing-from_distinct}
use Rattle.ts_key.specs.declared.numbers.Family.{Family}
use Rattle.udt_disk.specs.Crash.{Image}
use Rattle.udt_disk.specs.Joint.{Folder}
use Rattle.udt_disk.specs.declared.name.FileName.TheVariants.{Table}
use Rattle.udt_model.specs.Orders.{is_at_most, meets, span_of}
use Rattle.udt_model.specs.declared.reply.KeySpan.{KeySpan}
use Rattle.manifest_edit.specs.declared.edit.TableAt.{TableAt}
use Rattle.manifest_fold.specs.declared.fold.FamilyFold.{FamilyFold}
use Rattle.manifest_fold.specs.declared.fold.Folded.{Folded}
use Rattle.block_table.specs.Contents.{Contents}
use Rattle.block_table.specs.Held.{Held}
use Rattle.block_table.specs.Tables.{IsTable}
use Rattle.floor_laws.proofs.Members.{In, In-append, In-contains, In-left, In-map, In-right, contains_In, map-In}
use Rattle.floor_laws.proofs.Tables.{Sorted}
use Rattle.engine_laws.specs.Manifests.{IsLive, table_number}
use Rattle.engine_laws.proofs.Ascending.{rising_sorted}
use Rattle.engine_laws.specs.Standing.{Fits, TableReads, TableSays}
use Rattle.super_version.specs.Live.{Live}
use Rattle.super_version.specs.declared.family.TheConstants.{LEVELS}
use Rattle.recovery.specs.Meeting.{AreOfFiles, AreOnLevels, Clashes, ClashesAmong, IsFirst, IsUpto, opened_number, span_at, table_in}
use Rattle.recovery.specs.Places.{AreLivePlaces, AreOpened, HasPlaces, HoldsTable, IsFitting, IsLivePlace, IsTableOpened, IsTableIn, number_at, place_in, table_place_of, places_from, span_in}
use Rattle.recovery.specs.Refusals.{IsBadTable}
use Rattle.recovery.specs.Tables.{AreInOrderBelow, IsTableFlushed, IsTableInOrder, ReadsAsTable, says_of}
use Rattle.recovery.specs.declared.live.TablePlace.{TablePlace}
use Rattle.recovery.specs.declared.tables.Opened.{Opened}
use Rattle.recovery.proofs.Spans.{span_of_table, span_rises}

pub get_here : {X : Type 0} (xs : List X) (i : ℕ) (x : X) → i < length xs → x ≡ get_or xs i x → slice_get xs i ≡ Some x
get_here [] i x within is = absurd (omega (arith, within))
get_here (y ∷ ys) zero x within is = ap Some (sym is)
get_here (y ∷ ys) (suc i) x within is = get_here ys i x (omega (arith, within)) is

pub get_below : {X : Type 0} (xs : List X) (i : ℕ) (x : X) → slice_get xs i ≡ Some x → i < length xs
get_below [] i x is = absurd cc
get_below (y ∷ ys) zero x is = omega arith
get_below (y ∷ ys) (suc i) x is = let below = get_below ys i x is in omega (arith, below)

-- ---- the places of a fold

abbrev pub family_at : ℕ → Family
family_at n = record { 0 = n }

record IsPlaceIn (i : ℕ) (fs : List FamilyFold) (p : TablePlace) : Type 0 where
  f : FamilyFold
  k : ℕ
  number : p.family.0 ≡ i + k
  there : slice_get fs k ≡ Some f
  table : In p.table f.tables

places_in : (i : ℕ) (fs : List FamilyFold) (p : TablePlace) → In p (places_from i fs) → IsPlaceIn i fs p
places_in i [] p within = absurd within
places_in i (f ∷ fs) p within =
    elim (In-append p (map (place_in (family_at i)) f.tables) (places_from (i + 1) fs) within) [
      | inl here ↦
          let at = map-In (place_in (family_at i)) p f.tables here in
          record { f = f; k = 0; number = omega (arith, ap (λ (q : TablePlace). q.family.0) at.2); there = refl; table = subst (λ (t : TableAt). In t f.tables) (ap (λ (q : TablePlace). q.table) at.2) at.1 }
      | inr later ↦
          let r = places_in (i + 1) fs p later in
          record { f = r.f; k = suc r.k; number = omega (arith, r.number); there = r.there; table = r.table }
    ]

in_places : (i n k : ℕ) (fs : List FamilyFold) (f : FamilyFold) (t : TableAt) → n ≡ i + k → slice_get fs k ≡ Some f → In t f.tables → In (place_in (family_at n) t) (places_from i fs)
in_places i n k [] f t number there table = absurd cc
in_places i n zero (g ∷ fs) f t number there table =
    let same : g ≡ f = cc in
    let place : i ≡ n = omega (arith, number) in
    In-left (place_in (family_at n) t) (map (place_in (family_at i)) g.tables) (places_from (i + 1) fs)
    (subst (λ (m : ℕ). In (place_in (family_at n) t) (map (place_in (family_at m)) g.tables)) (sym place) (In-map (place_in (family_at n)) t g.tables (subst (λ (h : FamilyFold). In t h.tables) (sym same) table)))
in_places i n (suc k) (g ∷ fs) f t number there table =
    In-right (place_in (family_at n) t) (map (place_in (family_at i)) g.tables) (places_from (i + 1) fs) (in_places (i + 1) n k fs f t (omega (arith, number)) there table)

places_append : (i : ℕ) (fs : List FamilyFold) (f : FamilyFold) → places_from i (fs ++ f ∷ []) ≡ places_from i fs ++ map (place_in (family_at (i + length fs))) f.tables
places_append i [] f = append-nil (map (place_in (family_at i)) f.tables) ∙ ap (λ (n : ℕ). map (place_in (family_at n)) f.tables) (omega arith)
places_append i (g ∷ fs) f =
    let place : i + 1 + length fs ≡ i + length (g ∷ fs) = omega arith in
    ap (λ (ps : List TablePlace). map (place_in (family_at i)) g.tables ++ ps) (places_append (i + 1) fs f ∙ ap (λ (n : ℕ). places_from (i + 1) fs ++ map (place_in (family_at n)) f.tables) place)
    ∙ sym (append_assoc (map (place_in (family_at i)) g.tables) (places_from (i + 1) fs) (map (place_in (family_at (i + length (g ∷ fs)))) f.tables))

-- one family more
pub places_more : (families : List FamilyFold) (i : ℕ) (f : FamilyFold) (mid new : List TablePlace) (tables : List TableAt) → i < length families → f ≡ get_or families i f → mid ≡ places_from 0 (take i families) → tables ≡ f.tables
    → new ≡ mid ++ map (place_in (family_at i)) tables → new ≡ places_from 0 (take (i + 1) families)
places_more families i f mid new tables within is so_far listed more =
    let place : 0 + length (take i families) ≡ i = omega (arith, within, length-take-le i families (omega (arith, within))) in
    let front : take (i + 1) families ≡ take i families ++ f ∷ [] = take_more families i f within ∙ ap (λ (x : FamilyFold). take i families ++ x ∷ []) (sym is) in
    more ∙ ap (λ (ps : List TablePlace). ps ++ map (place_in (family_at i)) tables) so_far ∙ ap (λ (ts : List TableAt). places_from 0 (take i families) ++ map (place_in (family_at i)) ts) listed
    ∙ ap (λ (n : ℕ). places_from 0 (take i families) ++ map (place_in (family_at n)) f.tables) (sym place) ∙ sym (places_append 0 (take i families) f) ∙ ap (places_from 0) (sym front)

-- ---- each place once

all_in : {X : Type 0} (P : X → Type 0) (xs : List X) → ((x : X) → In x xs → P x) → AllByRecursion P xs
all_in P [] each = tt
all_in P (x ∷ xs) each = (each x (inl refl), all_in P xs (λ y held. each y (inr held)))

numbers_in : (family : Family) (n : ℕ) (ts : List TableAt) (q : TablePlace) → ((m : ℕ) → In m (map table_number ts) → n < m) → In q (map (place_in family) ts) → n ≡ number_at q → ⊥
numbers_in family n ts q above held is =
    let t = map-In (place_in family) q ts held in
    let more = above t.0.number (In-map table_number t.0 ts t.1) in
    absurd (omega (arith, more, is, ap number_at t.2))

once_more : (family : Family) (ts : List TableAt) (rest : List TablePlace) → Sorted (map table_number ts) → IsDistinct nat_eq (map number_at rest) → ((t : TableAt) (q : TablePlace) → In t ts → In q rest → t.number ≡ number_at q → ⊥)
    → IsDistinct nat_eq (map number_at (map (place_in family) ts ++ rest))
unfolding IsDistinct
once_more family [] rest sorted once apart = once
once_more family (t ∷ ts) rest sorted once apart = (
  all_in (λ (n : ℕ). nat_eq t.number n ≡ false) (map number_at (map (place_in family) ts ++ rest)) (λ n held. differs n (map-In number_at n (map (place_in family) ts ++ rest) held)),
  once_more family ts rest sorted.1 once (λ u q held there. apart u q (inr held) there),
) where
  differs : (n : ℕ) → (q : TablePlace) × In q (map (place_in family) ts ++ rest) × (number_at q ≡ n) → nat_eq t.number n ≡ false
  differs n q = ne_eqb t.number n (λ is. ⊎_elim
      (λ here. numbers_in family t.number ts q.0 sorted.0 here (is ∙ sym q.2))
      (λ later. apart t q.0 (inl refl) later (is ∙ sym q.2))
      (In-append q.0 (map (place_in family) ts) rest q.1))

-- the tables of families, where each family's numbers rise and no two families share one
places_once : (i : ℕ) (fs : List FamilyFold) → ((k : ℕ) (f : FamilyFold) → slice_get fs k ≡ Some f → IsStrictlyIncreasing (map table_number f.tables))
    → ((k m : ℕ) (f g : FamilyFold) (t u : TableAt) → slice_get fs k ≡ Some f → slice_get fs m ≡ Some g → In t f.tables → In u g.tables → t.number ≡ u.number → k ≡ m) → IsDistinct nat_eq (map number_at (places_from i fs))
unfolding IsDistinct
places_once i [] rising apart = tt
places_once i (f ∷ fs) rising apart =
    once_more (family_at i) f.tables (places_from (i + 1) fs) (rising_sorted (map table_number f.tables) (rising 0 f refl))
    (places_once (i + 1) fs (λ k g there. rising (suc k) g there) (λ k m g h t u at_g at_h held_t held_u same. (let one = apart (suc k) (suc m) g h t u at_g at_h held_t held_u same in omega (arith, one))))
    (λ t q held there same. (let r = places_in (i + 1) fs q there in let one = apart 0 (suc r.k) f r.f t q.table refl r.there held r.table same in absurd (omega (arith, one))))

fold_once : (fold : Folded) → HasPlaces fold → IsDistinct nat_eq (map number_at (places_from 0 fold.families))
fold_once fold well =
    places_once 0 fold.families (λ k f there. well.rising (family_at k) f there)
    (λ k m f g t u at_f at_g held_t held_u same. ap (λ (n : Family). n.0) (well.apart (place_in (family_at k) t) (place_in (family_at m) u)
    (f, record { family = at_f; table = In-contains f.tables t held_t }) (g, record { family = at_g; table = In-contains g.tables u held_u }) same))

nat_eq_flips : (m n : ℕ) → nat_eq m n ≡ nat_eq n m
nat_eq_flips m n =
    elim (cases_eq m n) [
      | inl same ↦ eq-eqb m n same ∙ sym (eq-eqb n m (sym same))
      | inr apart ↦ ne_eqb m n apart ∙ sym (ne_eqb n m (λ is. apart (sym is)))
    ]

-- numbers that rise don't fall
never_falls : (places : List TablePlace) → IsStrictlyIncreasing (map number_at places) → (i j : ℕ) (d : TablePlace) → i ≤ j → j < length places → number_at (get_or places i d) ≤ number_at (get_or places j d)
never_falls places rising i j d up within =
    elim (cases_lt i j) [
      | inl less ↦
          let long = length-map places number_at in
          let more = AllPairs-from_increasing (map number_at places) rising i j 0 less (omega (arith, within, long)) in
          omega (arith, more, get_or-map number_at places i d 0 (omega (arith, less, within)), get_or-map number_at places j d 0 within)
      | inr other ↦
          let same : i ≡ j = omega (arith, up, other) in
          omega (arith, ap (λ (k : ℕ). number_at (get_or places k d)) same)
    ]

-- places of a fold, in whatever order
pub live_places : (fold : Folded) → HasPlaces fold → (listed places : List TablePlace) → listed ≡ places_from 0 fold.families → IsPermutation listed places → IsNonDecreasingBy number_at places → AreLivePlaces fold places
live_places fold well listed places are moved ascending = record {
  each = λ p held.
      let r = places_in 0 fold.families p (subst (In p) are (contains_In listed p (Contains-permutation places listed p (IsPermutation-sym listed places moved) held))) in
      let number : r.k ≡ p.family.0 = omega (arith, r.number) in
      (r.f, record { family = subst (λ (n : ℕ). slice_get fold.families n ≡ Some r.f) number r.there; table = In-contains r.f.tables p.table r.table });
  all = λ p live.
      Contains-permutation listed places p moved (In-contains listed p (subst (In p) (sym are) (in_places 0 p.family.0 p.family.0 fold.families live.0 p.table (omega arith) live.1.family (contains_In live.0.tables p.table live.1.table))));
  ascending = IsStrictlyIncreasing-from_distinct (map number_at places)
      (λ i j d up within. (let long = length-map places number_at in let below : j < length places = omega (arith, within, long) in numbers_up i j d up below))
      (IsDistinct-IsPermutation nat_eq nat_eq_flips (map number_at listed) (map number_at places) (IsPermutation-map number_at listed places moved) (subst (λ (ps : List TablePlace). IsDistinct nat_eq (map number_at ps)) (sym are) (fold_once fold well)));
} where
  numbers_up : (i j d : ℕ) → i ≤ j → j < length places → get_or (map number_at places) i d ≤ get_or (map number_at places) j d
  numbers_up i j d up below =
      let e : TablePlace = record { family = family_at 0; table = record { level = 0; number = d } } in
      let more = ascending i j e up below in
      omega (arith, more, get_or-map number_at places i e d (omega (arith, up, below)), get_or-map number_at places j e d below)

-- ---- one place after another

-- the tables at these places are in order
abbrev pub AreInOrderAt : Folder → Folded → List TablePlace → Type 0
AreInOrderAt folder fold places = (p : TablePlace) (f : FamilyFold) → In p places → IsLive fold p.family f p.table → IsTableInOrder folder p.family f p.table

abbrev pub EachOpened : Folder → Folded → List Opened → Type 0
EachOpened folder fold opened = (o : Opened) (f : FamilyFold) → In o opened → slice_get fold.families o.family.0 ≡ Some f → IsTableOpened folder f o

-- the contents of a file are read once
read_once : (image : Image) (held : Held) (says : TableSays) → IsTableIn image held → TableReads ReadsAsTable image says → says ≡ says_of held.contents
read_once None held says stood reads = absurd reads
read_once (Some bytes) held says stood reads =
    let same : bytes ≡ held.image = cc in
    reads.is ∙ ap says_of (stood.table.only reads.contents (subst (IsTable reads.contents) same reads.table))

pub reads_held : (image : Image) (held : Held) → IsTableIn image held → TableReads ReadsAsTable image (says_of held.contents)
reads_held image held stood = subst (λ (c : Image). TableReads ReadsAsTable c (says_of held.contents)) (sym stood.stood) (record { short = stood.short; contents = held.contents; table = stood.table.is; is = refl })

span_held : (image : Image) (held : Held) → IsTableIn image held → span_of (says_of held.contents).versions ≡ span_in held.contents
span_held image held stood = span_of_table held.contents held.image stood.table.is

-- what is read is of contents
record IsContents (image : Image) (says : TableSays) (t : Contents) : Type 0 where
  holds : HoldsTable image t
  is : says ≡ says_of t

reads_at : (image : Image) (says : TableSays) → TableReads ReadsAsTable image says → (t : Contents) × IsContents image says t
reads_at None says reads = absurd reads
reads_at (Some bytes) says reads = (reads.contents, record { holds = reads.table; is = reads.is })

Contains-take : {X : Type 0} (xs : List X) (i : ℕ) (x : X) → Contains (take i xs) x → Contains xs x
Contains-take xs i x held = In-contains xs x (subst (In x) (take-append-drop i xs) (In-left x (take i xs) (drop i xs) (contains_In (take i xs) x held)))

one_of : (x y : FamilyFold) (o : Option FamilyFold) → o ≡ Some x → o ≡ Some y → x ≡ y
one_of x y o a b = cc

not_both : (b : Bool) → b ≡ true → b ≡ false → ⊥
not_both b yes_is no_is = false≢true (sym no_is ∙ yes_is)

there_not : (image : Image) (held : Held) → IsTableIn image held → image ≡ None → ⊥
there_not image held stood missing = (let is = stood.stood in cc)

false_from : (b : Bool) → (b ≡ true → ⊥) → b ≡ false
false_from true h = absurd (h refl)
false_from false h = refl

module _ (folder : Folder) (fold : Folded) (places : List TablePlace) (live : AreLivePlaces fold places) (i : ℕ) (upto : i ≤ length places) (opened : List Opened) (are : map table_place_of opened ≡ take i places) (each : EachOpened folder fold opened) where
  -- live tables with smaller numbers than one of these, or than the next one, were read
  earlier : (k : ℕ) → k ≤ i → k < length places → (p : TablePlace) → p ≡ get_or places k p → (q : TablePlace) → IsLivePlace fold q → number_at q < number_at p → In q (take i places)
  earlier k below within p at q islive less =
      let held = live.all q islive in
      let here : p ≡ get_or places k q = get_or_read places k p within at q in
      let later : k ≤ held.0 → ⊥ = λ above. (let up : number_at (get_or places k q) ≤ number_at (get_or places held.0 q) = never_falls places live.ascending k held.0 q above held.1 in omega (arith, up, less, ap number_at held.2, ap number_at here)) in
      let front : held.0 < k = ⊎_elim (λ less. less) (λ above. absurd (later above)) (cases_lt held.0 k) in
      contains_In (take i places) q (held.0, omega (arith, front, below, upto, length-take-le i places upto), get_or-take i places held.0 q (omega (arith, front, below)) ∙ held.2)

  opened_at : (q : TablePlace) → In q (take i places) → (o : Opened) × In o opened × (table_place_of o ≡ q)
  opened_at q there = map-In table_place_of q opened (subst (In q) (sym are) there)

  place_at : (o : Opened) → In o opened → In (table_place_of o) (take i places)
  place_at o held = subst (In (table_place_of o)) are (In-map table_place_of o opened held)

  pub live_of : (o : Opened) → In o opened → IsLivePlace fold (table_place_of o)
  live_of o held = live.each (table_place_of o) (Contains-take places i (table_place_of o) (In-contains (take i places) (table_place_of o) (place_at o held)))

  earlier_than : (o : Opened) → In o opened → (q : TablePlace) → IsLivePlace fold q → number_at q < o.table.number → In q (take i places)
  earlier_than o held q islive less =
      let there = In-contains (take i places) (table_place_of o) (place_at o held) in
      let short = length-take-le i places upto in
      let k = there.0 in
      let first : k < i = (let within = there.1 in omega (arith, within, short)) in
      earlier k (omega (arith, first)) (omega (arith, first, upto)) (table_place_of o) (sym (sym (get_or-take i places k (table_place_of o) first) ∙ there.2)) q islive less

  opened_in : (f : FamilyFold) (o : Opened) → In o opened → slice_get fold.families o.family.0 ≡ Some f → IsTableOpened folder f o
  opened_in f o held family = each o f held family

  -- ---- tables that were read, together

  pub rising_files : AreOfFiles (map table_in opened)
  rising_files = record {
    rising = λ t has. (let o = map-In table_in t opened (contains_In (map table_in opened) t has) in subst (λ (x : Live). is_at_most (span_at x).low (span_at x).high ≡ true) o.2 (rising_at o.0 o.1));
    same = λ t u has_t has_u is.
        let a = map-In table_in t opened (contains_In (map table_in opened) t has_t) in
        let b = map-In table_in u opened (contains_In (map table_in opened) u has_u) in
        subst (λ (x : Live). span_at x ≡ span_at u) a.2 (subst (λ (x : Live). span_at a.0.table ≡ span_at x) b.2 (same_at a.0 b.0 a.1 b.1 (ap (λ (x : Live). x.number) a.2 ∙ is ∙ sym (ap (λ (x : Live). x.number) b.2))));
  } where
    known : (o : Opened) → In o opened → IsTableIn (folder (Table o.table.number)) o.table.table
    known o held = (let l = live_of o held in (opened_in l.0 o held l.1.family).held)

    rising_at : (o : Opened) → In o opened → is_at_most (span_at o.table).low (span_at o.table).high ≡ true
    rising_at o held = (let k = known o held in span_rises o.table.table.contents o.table.table.image k.table.is)

    same_at : (a b : Opened) → In a opened → In b opened → a.table.number ≡ b.table.number → span_at a.table ≡ span_at b.table
    same_at a b held_a held_b is =
        let image = folder (Table b.table.number) in
        let at_a : IsTableIn image a.table.table = subst (λ (n : ℕ). IsTableIn (folder (Table n)) a.table.table) is (known a held_a) in
        let at_b = known b held_b in
        sym (span_held image a.table.table at_a) ∙ ap (λ (s : TableSays). span_of s.versions) (read_once image b.table.table (says_of a.table.table.contents) at_b (reads_held image a.table.table at_a)) ∙ span_held image b.table.table at_b

  pub on_levels : ((p : TablePlace) → IsLivePlace fold p → p.table.level < LEVELS) → AreOnLevels opened
  on_levels levels = record { files = rising_files; levels = λ o has. levels (table_place_of o) (live_of o (contains_In opened o has)) }

  -- what clashes does so among the families of the fold
  pub among_all : (first : Option ℕ) → IsFirst opened_number (ClashesAmong (length fold.families)) opened first → (a b : Opened) → In a opened → In b opened → Clashes a b → IsUpto first b.table.number
  among_all first f a b held_a held_b clash =
      let l = live_of b held_b in
      f.least a b (In-contains opened a held_a) (In-contains opened b held_b) (clash, get_below fold.families b.family.0 l.0 l.1.family)

  -- one that no table with a smaller number clashes with is in order
  in_order : (o : Opened) → In o opened → (f : FamilyFold) → IsLive fold o.family f (table_place_of o).table → ((a : Opened) → In a opened → Clashes a o → ⊥) → IsTableInOrder folder o.family f (table_place_of o).table
  in_order o held f islive none =
      let known = opened_in f o held islive.family in
      let image = folder (Table o.table.number) in
      record {
        says = says_of o.table.table.contents;
        reads = reads_held image o.table.table known.held;
        fits = known.fitting.fits;
        flushed = known.fitting.flushed;
        apart = λ u other there less level deep reads.
            let q = place_in o.family u in
            let at_u = opened_at q (earlier_than o held q (f, record { family = islive.family; table = there }) less) in
            let a = at_u.0 in
            let is = at_u.2 in
            let number : a.table.number ≡ u.number = ap (λ (x : TablePlace). x.table.number) is in
            let family : a.family.0 ≡ o.family.0 = ap (λ (x : TablePlace). x.family.0) is in
            let stood : IsTableIn (folder (Table u.number)) a.table.table = subst (λ (n : ℕ). IsTableIn (folder (Table n)) a.table.table) number (opened_in f a at_u.1 (subst (λ (n : ℕ). slice_get fold.families n ≡ Some f) (sym family) islive.family)).held in
            let free : meets (span_at a.table) (span_at o.table) ≡ false = false_from (meets (span_at a.table) (span_at o.table))
            (λ met. none a at_u.1 (record { family = family; level = ap (λ (x : TablePlace). x.table.level) is ∙ level; deep = deep; meet = record { before = omega (arith, number, less); meet = met } })) in
            ap (λ (s : TableSays). meets (span_of s.versions) (span_of (says_of o.table.table.contents).versions)) (read_once (folder (Table u.number)) a.table.table other stood reads)
            ∙ ap (λ (s : KeySpan). meets s (span_of (says_of o.table.table.contents).versions)) (span_held (folder (Table u.number)) a.table.table stood)
            ∙ ap (meets (span_at a.table)) (span_held image o.table.table known.held) ∙ free;
      }

  at_place : (p : TablePlace) (f : FamilyFold) → In p (take i places) → IsLive fold p.family f p.table → ((a b : Opened) → In a opened → In b opened → table_place_of b ≡ p → Clashes a b → ⊥) → IsTableInOrder folder p.family f p.table
  at_place p f there islive none =
      let o = opened_at p there in
      subst (λ (q : TablePlace). IsTableInOrder folder q.family f q.table) o.2 (in_order o.0 o.1 f (subst (λ (q : TablePlace). IsLive fold q.family f q.table) (sym o.2) islive) (λ a held. none a o.0 held o.1 o.2))

  -- where none clash all are in order
  pub none_clash : IsFirst opened_number (ClashesAmong (length fold.families)) opened None → AreInOrderAt folder fold (take i places)
  none_clash first p f there islive = at_place p f there islive (λ a b held_a held_b is clash. among_all None first a b held_a held_b clash)

  -- the first that does isn't, and those below it are
  pub clash_refused : (n : ℕ) → IsFirst opened_number (ClashesAmong (length fold.families)) opened (Some n) → IsBadTable fold folder n
  clash_refused n first =
      let m = first.met n refl in
      let held_a = contains_In opened m.a m.has_a in
      let held_b = contains_In opened m.b m.has_b in
      let clash = m.meet.0 in
      let number : m.b.table.number ≡ n = m.is in
      let there = live_of m.b held_b in
      let f = there.0 in
      let stood = (opened_in f m.b held_b there.1.family).held in
      record {
        family = m.b.family;
        f = f;
        table = (table_place_of m.b).table;
        number = number;
        reached = record {
          live = there.1;
          below = λ family g t islive less. at_place (place_in family t) g (earlier_than m.b held_b (place_in family t) (g, islive) less) islive
              (λ a b held_c held_d is other. (let up : n ≤ b.table.number = among_all (Some n) first a b held_c held_d other in absurd (omega (arith, up, less, number, ap number_at is))));
        };
        there = λ missing. there_not (folder (Table m.b.table.number)) m.b.table.table stood (ap (λ (k : ℕ). folder (Table k)) number ∙ missing);
        bad = λ order.
            let family : m.a.family.0 ≡ m.b.family.0 = clash.family in
            let live_a = live_of m.a held_a in
            let same : live_a.0 ≡ f = one_of live_a.0 f (slice_get fold.families m.a.family.0) live_a.1.family (subst (λ (k : ℕ). slice_get fold.families k ≡ Some f) (sym family) there.1.family) in
            let held : Contains f.tables (table_place_of m.a).table = subst (λ (x : FamilyFold). Contains x.tables (table_place_of m.a).table) same live_a.1.table in
            let at_a = (opened_in live_a.0 m.a held_a live_a.1.family).held in
            let image = folder (Table m.b.table.number) in
            let free = order.apart (table_place_of m.a).table (says_of m.a.table.table.contents) held clash.meet.before clash.level clash.deep (reads_held (folder (Table m.a.table.number)) m.a.table.table at_a) in
            let says : order.says ≡ says_of m.b.table.table.contents = read_once image m.b.table.table order.says stood order.reads in
            not_both (meets (span_at m.a.table) (span_at m.b.table)) clash.meet.meet
            (sym (ap (λ (s : KeySpan). meets s (span_at m.b.table)) (span_held (folder (Table m.a.table.number)) m.a.table.table at_a)) ∙ sym (ap (meets (span_of (says_of m.a.table.table.contents).versions)) (ap (λ (s : TableSays). span_of s.versions) says ∙ span_held image m.b.table.table stood)) ∙ free);
      }

module _ (folder : Folder) (fold : Folded) (places : List TablePlace) (live : AreLivePlaces fold places) (i : ℕ) (within : i < length places) (p : TablePlace) (at : p ≡ get_or places i p)
    (opened : List Opened) (are : map table_place_of opened ≡ take i places) (each : EachOpened folder fold opened) where
  pub below_in_order : AreInOrderAt folder fold (take i places) → AreInOrderBelow fold folder (number_at p)
  below_in_order order family f t islive less =
      order (place_in family t) f (earlier folder fold places live i (omega (arith, within)) opened are each i (omega arith) within p at (place_in family t) (f, islive) less) islive

  -- ---- one table more

  module _ (f : FamilyFold) (islive : IsLive fold p.family f p.table) where
    pub each_more : (o : Opened) → table_place_of o ≡ p → IsTableOpened folder f o → EachOpened folder fold (opened ++ o ∷ [])
    each_more o is known other x held there = ⊎_elim (λ before. each other x before there) (λ last. last_one last) (In-append other opened (o ∷ []) held)
      where
        last_one : In other (o ∷ []) → IsTableOpened folder x other
        last_one (inl same) =
            let family : other.family.0 ≡ p.family.0 = ap (λ (z : Opened). z.family.0) (sym same) ∙ ap (λ (q : TablePlace). q.family.0) is in
            let one : f ≡ x = one_of f x (slice_get fold.families other.family.0) (subst (λ (n : ℕ). slice_get fold.families n ≡ Some f) (sym family) islive.family) there in
            subst (IsTableOpened folder x) same (subst (λ (y : FamilyFold). IsTableOpened folder y o) one known)
        last_one (inr none) = absurd none

-- what a table says fits, or its file isn't in order
pub not_in_order : (folder : Folder) (family : Family) (f : FamilyFold) (t : TableAt) (k : ℕ) → k ≡ t.number → ((c : Contents) → HoldsTable (folder (Table k)) c → IsFitting family f c → ⊥) → IsTableInOrder folder family f t → ⊥
not_in_order folder family f t k number bad order =
    let r = reads_at (folder (Table t.number)) order.says order.reads in
    let says : order.says ≡ says_of r.0 = r.1.is in
    bad r.0 (subst (λ (n : ℕ). HoldsTable (folder (Table n)) r.0) (sym number) r.1.holds) (record { fits = subst (Fits family f) says order.fits; flushed = subst (IsTableFlushed f) says order.flushed })

-- the places of one table more
pub places_are : (places : List TablePlace) (i : ℕ) (p : TablePlace) (opened : List Opened) (o : Opened) → i < length places → p ≡ get_or places i p → map table_place_of opened ≡ take i places → table_place_of o ≡ p → map table_place_of (opened ++ o ∷ []) ≡ take (i + 1) places
places_are places i p opened o within at are is =
    map-append table_place_of opened (o ∷ []) ∙ ap (λ (ps : List TablePlace). ps ++ table_place_of o ∷ []) are ∙ ap (λ (q : TablePlace). take i places ++ q ∷ []) is
    ∙ sym (take_more places i p within ∙ ap (λ (q : TablePlace). take i places ++ q ∷ []) (sym at))

-- a place that was read is that of a live table of the family that stands there
pub live_at : (fold : Folded) (places : List TablePlace) (i : ℕ) (p : TablePlace) (f : FamilyFold) → AreLivePlaces fold places → i < length places → p ≡ get_or places i p → slice_get fold.families p.family.0 ≡ Some f → IsLive fold p.family f p.table
live_at fold places i p f live within at there =
    let known = live.each p (i, within, sym at) in
    record { family = there; table = subst (λ (x : FamilyFold). Contains x.tables p.table) (one_of known.0 f (slice_get fold.families p.family.0) known.1.family there) known.1.table }

pub live_place : (fold : Folded) (places : List TablePlace) (i : ℕ) (p : TablePlace) → AreLivePlaces fold places → i < length places → p ≡ get_or places i p → IsLivePlace fold p
live_place fold places i p live within at = live.each p (i, within, sym at)

-- all places were read
pub all_opened : (folder : Folder) (fold : Folded) (places : List TablePlace) (opened : List Opened) → AreLivePlaces fold places → map table_place_of opened ≡ places → EachOpened folder fold opened → AreInOrderAt folder fold places → AreOpened folder fold opened
all_opened folder fold places opened live are each order = record {
  places = subst (AreLivePlaces fold) (sym are) live;
  each = λ o f held there. each o f (contains_In opened o held) there;
  order = λ family f t islive. order (place_in family t) f (contains_In places (place_in family t) (live.all (place_in family t) (f, islive))) islive;
}
