-- A super version with a flush more shows the state behind the flush.
use Rattle.std.proofs.Common.{◌≡◌, ℕ, zero, suc, ◌+◌, ◌-◌, ◌<◌, ◌≤◌, ◌==◌, ◌&&◌, List, [], ◌∷◌, ◌++◌, length, map, take, Some, refl, sym, ap, ◌∙◌, subst, arith, inl, inr}
use Rattle.std.specs.Prelude.{if◌then◌else◌, nat_le, nat_lt, slice_get}
use Rattle.std.specs.List.{AllByRecursion, flat_map}
use Rattle.std.specs.List.Sorted.{IsPermutation}
use Rattle.std.proofs.lemmas.Bool.{cases_Bool}
use Rattle.std.proofs.lemmas.List.{append-nil}
use Rattle.std.proofs.lemmas.List.Sorted.{Contains-permutation, IsPermutation-cons, IsPermutation-middle, IsPermutation-refl, IsPermutation-sym, IsPermutation-trans}
use Rattle.ts_key.specs.declared.numbers.Family.{Family}
use Rattle.ts_key.specs.declared.numbers.Seq.{Seq}
use Rattle.ts_key.specs.declared.numbers.Ts.{Ts}
use Rattle.ts_key.specs.declared.version.Version.{Version}
use Rattle.ts_key.specs.Items.{Item}
use Rattle.memtable.specs.Memtables.{versions_of_memtable}
use Rattle.block_table.specs.Contents.{greatest_of}
use Rattle.udt_model.specs.State as model
use Rattle.udt_model.specs.State.{Flush, LiveTable, State, family_at, form_at, seqs_of, through_at, through_of, with_table}
use Rattle.udt_model.specs.State.{FamilyState as ModelFamily}
use Rattle.udt_model.specs.Jobs.{flush_kept, flush_taken}
use Rattle.udt_model.specs.Running.{IsFlushRight}
use Rattle.udt_model.specs.Steps.{flushed, with_flush}
use Rattle.udt_model.specs.Versions.{between}
use Rattle.super_version.specs.Changes.{ChangesFamily, family_with_flush, in_front, with_level}
use Rattle.super_version.specs.Contents.{version_of_item}
use Rattle.super_version.specs.Levels.{StandInOrder, table_properties}
use Rattle.super_version.specs.Live.{Live}
use Rattle.super_version.specs.Numbers.{IsTableOf}
use Rattle.super_version.specs.declared.family.FamilyState.{FamilyState}
use Rattle.super_version.specs.declared.version.SuperVersion.{SuperVersion}
use Rattle.super_version.proofs.Numbered.{after_flush}
use Rattle.super_version.proofs.Orders.{front_order}
use Rattle.floor_laws.proofs.Counts.{count}
use Rattle.floor_laws.specs.Sound.{IsSoundState}
use Rattle.floor_laws.proofs.Families.{In-between, between-In, flushed_from, tables_below}
use Rattle.floor_laws.proofs.Kept.{same_number}
use Rattle.floor_laws.proofs.Members.{In, In-append, In-contains, In-left, In-map, contains_In}
use Rattle.floor_laws.proofs.States.{at_changed, holds_of, length-changed, some_same, written_of}
use Rattle.floor_laws.proofs.Tables.{contents-from}
use Rattle.store_engine.specs.Now.{FitsFamily, IsFamilyNow, IsNow, table_shown, tables_shown}
use Rattle.store_engine.proofs.Current.{get_changed, length_changed}
use Rattle.store_engine.proofs.OneForOne.{Once, same_once, times, times-append, times-filter, times-moved}
use Rattle.store_engine.proofs.Shown.{shown-In}

-- ---- what is left in memory

abbrev pub seq_of : Version → ℕ
seq_of v = v.seq.0

module _ (i : Family) (low through last : ℕ) (w : List Version) (rises : low ≤ through) where
  -- what isn't flushed yet is among what wasn't
  later-In : (v : Version) → In v (between i through last w) → In v (between i low last w)
  later-In v j = let k = between-In i through last w v j in let l = k.2 in In-between i low last w v k.0 k.1 (omega (arith, l, rises)) k.3

  In-later : (v : Version) → In v (between i low last w) → through < v.seq.0 → In v (between i through last w)
  In-later v j above = let k = between-In i low last w v j in In-between i through last w v k.0 k.1 above k.3

  times_later : (k : ℕ) → times seq_of k (between i through last w) ≤ times seq_of k w
  times_later k = times-filter seq_of k (λ (v : Version). v.family.0 == i.0 && nat_lt through v.seq.0 && nat_le v.seq.0 last) w

  module _ (active sealed : List Version) (moved : IsPermutation (between i low last w) (active ++ sealed)) (once : Once seq_of w)
      (later : (v : Version) → In v active → through < v.seq.0) (taken : (v : Version) → In v sealed → v.seq.0 ≤ through) where
    held : (v : Version) → In v (between i low last w) → In v (active ++ sealed)
    held v j = contains_In (active ++ sealed) v (Contains-permutation (between i low last w) (active ++ sealed) v moved (In-contains (between i low last w) v j))

    in_memory : (v : Version) → In v (active ++ sealed) → In v (between i low last w)
    in_memory v j = contains_In (between i low last w) v (Contains-permutation (active ++ sealed) (between i low last w) v (IsPermutation-sym (between i low last w) (active ++ sealed) moved) (In-contains (active ++ sealed) v j))

    once_active : Once seq_of active
    once_active k =
        let a = times-append seq_of k active sealed in
        let b = times-moved seq_of k (between i low last w) (active ++ sealed) moved in
        let c = times-filter seq_of k (λ (v : Version). v.family.0 == i.0 && nat_lt low v.seq.0 && nat_le v.seq.0 last) w in
        let o = once k in
        omega (arith, a, b, c, o)

    -- the active memtable has what is left
    pub left_active : IsPermutation (between i through last w) active
    left_active = same_once seq_of (between i through last w) active (λ k. let a = times_later k in let o = once k in omega (arith, a, o)) once_active
        (λ v j. elim (In-append v active sealed (held v (later-In v j))) [
          | inl a ↦ a
          | inr s ↦ let l = (between-In i through last w v j).2 in let t = taken v s in absurd (omega (arith, l, t))
        ])
        (λ v j. In-later v (in_memory v (In-left v active sealed j)) (later v j))

pub once_distinct : (w : List Version) → ((q : ℕ) → count q w ≤ 1) → Once seq_of w
once_distinct w h k = let e = same w in let o = h k in omega (arith, e, o) where
  same : (vs : List Version) → times seq_of k vs ≡ count k vs
  same [] = refl
  same (v ∷ vs) = ap (λ n. (if v.seq.0 == k then 1 else 0) + n) (same vs)

-- ---- the new table

table_moves : (t : LiveTable) (ts : List LiveTable) → IsPermutation (t ∷ ts) (with_table t ts)
table_moves t [] = IsPermutation-refl (t ∷ [])
table_moves t (o ∷ os) = elim (cases_Bool (nat_lt o.number t.number)) [
  | inl y ↦ rw y (IsPermutation-trans (t ∷ o ∷ os) (o ∷ t ∷ os) (o ∷ with_table t os) (IsPermutation-middle (t ∷ []) o os) (IsPermutation-cons o (t ∷ os) (with_table t os) (table_moves t os)))
  | inr y ↦ rw y (IsPermutation-refl (t ∷ o ∷ os))
]

shown_front : (i : Family) (added : Live) (levels : List (List Live)) → 1 ≤ length levels → tables_shown i 0 (with_level 0 (in_front added) levels) ≡ table_shown i 0 added ∷ tables_shown i 0 levels
shown_front i added [] some = absurd (omega (arith, some))
shown_front i added (tables ∷ levels) some = refl

length_front : (added : Live) (levels : List (List Live)) → length (with_level 0 (in_front added) levels) ≡ length levels
length_front added [] = refl
length_front added (tables ∷ levels) = refl

fit_front : (P : Live → Type 0) (added : Live) (levels : List (List Live)) → P added → AllByRecursion (AllByRecursion P) levels → AllByRecursion (AllByRecursion P) (with_level 0 (in_front added) levels)
fit_front P added [] fits h = tt
fit_front P added (tables ∷ levels) fits h = ((fits, h.0), h.1)

order_front : (added : Live) (levels : List (List Live)) → ((tables : List Live) → slice_get levels 0 ≡ Some tables → AllByRecursion (λ (o : Live). (table_properties o).greatest_seq.0 ≤ (table_properties added).greatest_seq.0) tables)
    → ((level : ℕ) (tables : List Live) → slice_get levels level ≡ Some tables → StandInOrder level tables)
    → (level : ℕ) (tables : List Live) → slice_get (with_level 0 (in_front added) levels) level ≡ Some tables → StandInOrder level tables
order_front added [] over order level tables there = absurd cc
order_front added (front ∷ levels) over order zero tables there = subst (StandInOrder 0) (is there) (front_order added front (over front refl) (order 0 front refl)) where
  is : {X : Type 0} {x y : X} → Some x ≡ Some y → x ≡ y
  is e = cc
order_front added (front ∷ levels) over order (suc level) tables there = order (suc level) tables there

-- ---- one family

all_weaker : {X : Type 0} (P Q : X → Type 0) (xs : List X) → ((x : X) → P x → Q x) → AllByRecursion P xs → AllByRecursion Q xs
all_weaker P Q [] f h = tt
all_weaker P Q (x ∷ xs) f h = (f x h.0, all_weaker P Q xs f h.1)

-- the flush takes the family's sealed memtables, and nothing of what is active
pub record TakesSealed (through : ℕ) (g : FamilyState) : Type 0 where
  pub taken : (v : Version) → In v (flat_map versions_of_memtable g.sealed) → v.seq.0 ≤ through
  pub later : (v : Version) → In v (versions_of_memtable g.active) → through < v.seq.0

-- the table is the family's, and has something newer than its tables have
pub record IsNewest (i : Family) (floor : Ts) (g : FamilyState) (added : Live) : Type 0 where
  pub own : IsTableOf i.0 added
  pub fits : FitsFamily g.form floor added
  pub over : (tables : List Live) → slice_get g.levels 0 ≡ Some tables → AllByRecursion (λ (o : Live). (table_properties o).greatest_seq.0 ≤ (table_properties added).greatest_seq.0) tables

pub family_flushed : (i : Family) (w : List Version) (last : ℕ) (f : ModelFamily) (g : FamilyState) (through : Seq) (floor : Ts) (added : Live)
    → f.through.0 ≤ through.0 → g.floor.0 ≤ floor.0 → Once seq_of w → TakesSealed through.0 g → IsNewest i floor g added → IsFamilyNow i (between i f.through.0 last w) f g
    → IsFamilyNow i (between i through.0 last w) (flushed (table_shown i 0 added) through floor f) (family_with_flush (length g.sealed) through floor added g)
family_flushed i w last f g through floor added rises high once takes newest s =
    let active = versions_of_memtable g.active in
    let sealed = flat_map versions_of_memtable g.sealed in
    let some : 1 ≤ length g.levels = let e = s.levels in omega (arith, e) in
    let left = left_active i f.through.0 through.0 last w rises active sealed s.holds once takes.later takes.taken in
    let none : take (length g.sealed - length g.sealed) g.sealed ≡ [] = let z : length g.sealed - length g.sealed ≡ 0 = omega arith in ap (λ n. take n g.sealed) z in
    record {
      form = s.form;
      floor = refl;
      through = refl;
      number = after_flush i.0 (length g.sealed) through floor added g newest.own s.number;
      holds = subst (λ ms. IsPermutation (between i through.0 last w) (active ++ flat_map versions_of_memtable ms)) (sym none) (subst (IsPermutation (between i through.0 last w)) (sym (append-nil active)) left);
      tables = subst (IsPermutation (with_table (table_shown i 0 added) f.tables)) (sym (shown_front i added g.levels some))
          (IsPermutation-trans (with_table (table_shown i 0 added) f.tables) (table_shown i 0 added ∷ f.tables) (table_shown i 0 added ∷ tables_shown i 0 g.levels)
          (IsPermutation-sym (table_shown i 0 added ∷ f.tables) (with_table (table_shown i 0 added) f.tables) (table_moves (table_shown i 0 added) f.tables))
          (IsPermutation-cons (table_shown i 0 added) f.tables (tables_shown i 0 g.levels) s.tables));
      levels = length_front added g.levels ∙ s.levels;
      order = order_front added g.levels newest.over s.order;
      fit = fit_front (FitsFamily g.form floor) added g.levels newest.fits
          (all_weaker (AllByRecursion (FitsFamily g.form g.floor)) (AllByRecursion (FitsFamily g.form floor)) g.levels
          (λ tables k. all_weaker (FitsFamily g.form g.floor) (FitsFamily g.form floor) tables (λ t fits. let c = fits.collected in record { form_is = fits.form_is; collected = omega (arith, c, high) }) k) s.fit);
    }

-- ---- what the flush keeps is newer than all that is in tables

greatest_within : (xs : List Item) (n : ℕ) → ((x : Item) → In x xs → x.sort_key.seq ≤ n) → greatest_of (λ v. v.sort_key.seq) xs ≤ n
greatest_within [] n h = omega arith
greatest_within (x ∷ xs) n h = let a = h x (inl refl) in let b = greatest_within xs n (λ y j. h y (inr j)) in omega (arith, a, b)

greatest_over : (x : Item) (xs : List Item) → x.sort_key.seq ≤ greatest_of (λ v. v.sort_key.seq) (x ∷ xs)
greatest_over x xs = omega arith

all_from : {X : Type 0} (P : X → Type 0) (xs : List X) → ((x : X) → In x xs → P x) → AllByRecursion P xs
all_from P [] h = tt
all_from P (x ∷ xs) h = (h x (inl refl), all_from P xs (λ y j. h y (inr j)))

get-In : {X : Type 0} (xs : List X) (n : ℕ) (x : X) → slice_get xs n ≡ Some x → In x xs
get-In [] n x e = absurd cc
get-In (y ∷ ys) zero x e = inl (some_same y x e)
get-In (y ∷ ys) (suc n) x e = inr (get-In ys n x e)

module _ (m : State) (job : Flush) (sound : IsSoundState m) where
  kept_above : (f : ModelFamily) → family_at m job.family ≡ Some f → (v : Version) → In v (flush_kept m job) → f.through.0 < v.seq.0
  kept_above f at v j =
      let r = (flushed_from (form_at m job.family) (flush_taken m job) job.floor job.seqs v j).0 in
      let k = between-In job.family (through_at m job.family).0 job.through.0 m.versions r.0 r.1 in
      let l = k.2 in
      let e = r.2 in
      let t : (through_at m job.family).0 ≡ f.through.0 = ap (λ z. (through_of z).0) at in
      omega (arith, l, e, t)

  module _ (f : ModelFamily) (g : FamilyState) (at : family_at m job.family ≡ Some f) (s : IsFamilyNow job.family (between job.family f.through.0 m.last.0 m.versions) f g) where
    table_within : (tables : List Live) (o : Live) → In tables g.levels → In o tables → (table_properties o).greatest_seq.0 ≤ f.through.0
    table_within tables o i j =
        let r = shown-In job.family 0 g.levels tables o i j in
        let u = table_shown job.family r.0 o in
        let live = contains_In f.tables u (Contains-permutation (tables_shown job.family 0 g.levels) f.tables u (IsPermutation-sym f.tables (tables_shown job.family 0 g.levels) s.tables) (In-contains (tables_shown job.family 0 g.levels) u r.1)) in
        let below = tables_below job.family f.head.form f.head.floor f.through.0 f.tables m.versions m.last.0 (seqs_of m) ((holds_of m sound).families job.family f at) in
        greatest_within o.table.contents.items f.through.0 (λ x k. below (version_of_item job.family x) (contents-from f.tables u (version_of_item job.family x) live (In-map (version_of_item job.family) x o.table.contents.items k)))

    pub kept_newest : (floor : Ts) (added : Live) → IsTableOf job.family.0 added → FitsFamily g.form floor added → 0 < length added.table.contents.items → map (version_of_item job.family) added.table.contents.items ≡ flush_kept m job → IsNewest job.family floor g added
    kept_newest floor added own fits some is = record {
      own = own;
      fits = fits;
      over = λ tables there. all_from (λ (o : Live). (table_properties o).greatest_seq.0 ≤ (table_properties added).greatest_seq.0) tables
          (λ o j. let a = table_within tables o (get-In g.levels 0 tables there) j in let b = top added.table.contents.items some is in omega (arith, a, b));
    } where
      top : (items : List Item) → 0 < length items → map (version_of_item job.family) items ≡ flush_kept m job → f.through.0 < greatest_of (λ v. v.sort_key.seq) items
      top [] none same = absurd (omega (arith, none))
      top (x ∷ xs) more same =
          let a = kept_above f at (version_of_item job.family x) (subst (In (version_of_item job.family x)) same (inl refl)) in
          let b = greatest_over x xs in
          omega (arith, a, b)

-- ---- all families

flush_right : (m : State) (job : Flush) → IsSoundState m → m.flush ≡ Some job → (f : ModelFamily) × (family_at m job.family ≡ Some f) × (f.through.0 ≤ job.through.0)
flush_right m job sound runs = let k : IsFlushRight m (Some job) = subst (IsFlushRight m) runs sound.jobs.flush in (k.0, k.1, k.2.from)

module _ (m : State) (old new : SuperVersion) (job : Flush) (table gone : ℕ) (floor : Ts) (added : Live) (sound : IsSoundState m) (shows : IsNow old m) (runs : m.flush ≡ Some job)
    (changes : ChangesFamily job.family.0 (family_with_flush gone job.through floor added) old new)
    (all_gone : (g : FamilyState) → slice_get old.families job.family.0 ≡ Some g → gone ≡ length g.sealed)
    (high : (g : FamilyState) → slice_get old.families job.family.0 ≡ Some g → g.floor.0 ≤ floor.0)
    (own : IsTableOf job.family.0 added) (fits : (g : FamilyState) → slice_get old.families job.family.0 ≡ Some g → FitsFamily g.form floor added)
    (some : 0 < length added.table.contents.items) (is : map (version_of_item job.family) added.table.contents.items ≡ flush_kept m job) (number : added.number ≡ table) where
  abbrev flushed_table : LiveTable
  flushed_table = record { number = table; level = 0; versions = flush_kept m job }

  table_is : table_shown job.family 0 added ≡ flushed_table
  table_is = ap (λ vs. let t : LiveTable = record { number = added.number; level = 0; versions = vs } in t) is ∙ ap (λ n. let t : LiveTable = record { number = n; level = 0; versions = flush_kept m job } in t) number

  once : Once seq_of m.versions
  once = once_distinct m.versions (written_of (length m.families) m.last.0 m.versions (holds_of m sound).written).distinct

  same_flushed : (i : Family) (f : ModelFamily) (g : FamilyState) → i ≡ job.family → family_at m i ≡ Some f → slice_get old.families i.0 ≡ Some g
      → IsFamilyNow i (between i job.through.0 m.last.0 m.versions) (flushed flushed_table job.through floor f) (family_with_flush gone job.through floor added g)
  same_flushed i f g e at there =
      let at2 : family_at m job.family ≡ Some f = subst (λ z. family_at m z ≡ Some f) e at in
      let there2 : slice_get old.families job.family.0 ≡ Some g = subst (λ (z : Family). slice_get old.families z.0 ≡ Some g) e there in
      let s = shows.families job.family f g at2 there2 in
      let k = flush_right m job sound runs in
      let same : k.0 ≡ f = some_same k.0 f (sym k.1 ∙ at2) in
      let rises : f.through.0 ≤ job.through.0 = subst (λ (z : ModelFamily). z.through.0 ≤ job.through.0) same k.2 in
      let split = shows.flush job g runs there2 in
      let takes : TakesSealed job.through.0 g = record {
        taken = λ v j. split.taken v (In-contains (flat_map versions_of_memtable g.sealed) v j);
        later = λ v j. split.later v (In-contains (versions_of_memtable g.active) v j);
      } in
      let result = family_flushed job.family m.versions m.last.0 f g job.through floor added rises (high g there2) once takes (kept_newest m job sound f g at2 s floor added own (fits g there2) some is) s in
      subst (λ i. IsFamilyNow i (between i job.through.0 m.last.0 m.versions) (flushed flushed_table job.through floor f) (family_with_flush gone job.through floor added g)) (sym e)
      (subst (λ n. IsFamilyNow job.family (between job.family job.through.0 m.last.0 m.versions) (flushed flushed_table job.through floor f) (family_with_flush n job.through floor added g)) (sym (all_gone g there2))
      (subst (λ t. IsFamilyNow job.family (between job.family job.through.0 m.last.0 m.versions) (flushed t job.through floor f) (family_with_flush (length g.sealed) job.through floor added g)) table_is result))

  each : (i : Family) (f : ModelFamily) (g : FamilyState) → slice_get (model.changed_at job.family.0 (flushed flushed_table job.through floor) m.families) i.0 ≡ Some f → slice_get new.families i.0 ≡ Some g
      → IsFamilyNow i (between i f.through.0 m.last.0 m.versions) f g
  each i f g at there =
      let r = get_changed job.family.0 i.0 (family_with_flush gone job.through floor added) old.families g (subst (λ l. slice_get l i.0 ≡ Some g) changes.families there) in
      elim (at_changed m.families job.family.0 (flushed flushed_table job.through floor) i.0 f at) [
        | inl a ↦
            let s = same_flushed i a.1.0 r.0 (same_number i job.family a.0) a.1.1 r.1 in
            subst (λ (z : ModelFamily). IsFamilyNow i (between i z.through.0 m.last.0 m.versions) z g) a.1.2
            (subst (IsFamilyNow i (between i job.through.0 m.last.0 m.versions) (flushed flushed_table job.through floor a.1.0)) (sym (r.2.0 a.0)) s)
        | inr a ↦ subst (IsFamilyNow i (between i f.through.0 m.last.0 m.versions) f) (sym (r.2.1 a.0)) (shows.families i f r.0 a.1 r.1)
      ]

  pub now_flushed : IsNow new (with_flush m m.flush table floor)
  now_flushed = subst (λ z. IsNow new (with_flush m z table floor)) (sym runs) (record {
    last = changes.last ∙ shows.last;
    count = ap length changes.families ∙ length_changed job.family.0 (family_with_flush gone job.through floor added) old.families ∙ shows.count ∙ sym (length-changed m.families job.family.0 (flushed flushed_table job.through floor));
    families = each;
    flush = λ other g none there. absurd (cc);
  })
