-- What is in the lists of a family that shows a state.
use Rattle.std.proofs.Common.{◌≡◌, ◌⊎◌, ℕ, ◌+◌, ◌≤◌, true, List, [], ◌∷◌, ◌++◌, map, refl, sym, ap, ◌∙◌, subst, arith, inl, inr}
use Rattle.std.specs.List.{flat_map}
use Rattle.std.proofs.lemmas.List.Sorted.{Contains-permutation, IsPermutation-sym}
use Rattle.std.proofs.lemmas.Slice.Eq.{bytes_eq-Decides}
use Rattle.ts_key.specs.declared.batch.WriteOp.{WriteOp}
use Rattle.ts_key.specs.declared.numbers.Family.{Family}
use Rattle.ts_key.specs.declared.version.Version.{Version}
use Rattle.ts_key.specs.Items.{Item, item_of}
use Rattle.ts_key.specs.Visible as items
use Rattle.memtable.specs.Memtables.{greater, versions_of_memtable}
use Rattle.udt_model.specs.Versions.{between, logged, made, newest_of, of_key, version_of}
use Rattle.udt_model.specs.State.{State, LiveTable}
use Rattle.udt_model.specs.State.{FamilyState as ModelFamily}
use Rattle.super_version.specs.Contents.{items_of_family, items_of_level, items_of_memtable, items_of_table, version_of_item}
use Rattle.super_version.specs.Live.{Live}
use Rattle.super_version.specs.declared.family.FamilyState.{FamilyState}
use Rattle.floor_laws.specs.Tables.{contents}
use Rattle.floor_laws.proofs.Members.{In, In-append, In-contains, In-left, In-map, In-right, contains_In, map-In}
use Rattle.floor_laws.proofs.Families.{In-between, between-In}
use Rattle.floor_laws.proofs.Kept.{is_of-from, is_of-true}
use Rattle.floor_laws.proofs.Tables.{contents-from, In-contents}
use Rattle.floor_laws.proofs.Taking.{logged_above}
use Rattle.store_engine.specs.Admission.{is_on_key, latest_at}
use Rattle.store_engine.specs.Now.{IsFamilyNow, table_shown, tables_shown, versions_held}
use Rattle.store_engine.proofs.Stamps.{IsStampIn, IsStampOf, IsStampOn, stamp_of, top_both, top_items, top_newest, top_once, top_ops, top_same}

-- ---- lists of lists

pub In-flat : {X Y : Type 0} (f : X → List Y) (x : X) (y : Y) (xs : List X) → In x xs → In y (f x) → In y (flat_map f xs)
In-flat f x y [] i j = absurd i
In-flat f x y (z ∷ zs) (inl q) j = In-left y (f z) (flat_map f zs) (subst (λ w. In y (f w)) (sym q) j)
In-flat f x y (z ∷ zs) (inr i) j = In-right y (f z) (flat_map f zs) (In-flat f x y zs i j)

pub flat-In : {X Y : Type 0} (f : X → List Y) (y : Y) (xs : List X) → In y (flat_map f xs) → (x : X) × In x xs × In y (f x)
flat-In f y [] i = absurd i
flat-In f y (z ∷ zs) i = elim (In-append y (f z) (flat_map f zs) i) [
  | inl j ↦ (z, inl refl, j)
  | inr j ↦ let r = flat-In f y zs j in (r.0, inr r.1, r.2)
]

-- ---- tables

-- a table on one of the levels is shown
pub shown-In : (family : Family) (level : ℕ) (levels : List (List Live)) (tables : List Live) (t : Live) → In tables levels → In t tables → (l : ℕ) × In (table_shown family l t) (tables_shown family level levels)
shown-In family level [] tables t i j = absurd i
shown-In family level (x ∷ xs) tables t (inl q) j = (level, In-left (table_shown family level t) (map (table_shown family level) x) (tables_shown family (level + 1) xs) (In-map (table_shown family level) t x (subst (In t) (sym q) j)))
shown-In family level (x ∷ xs) tables t (inr i) j = let r = shown-In family (level + 1) xs tables t i j in (r.0, In-right (table_shown family r.0 t) (map (table_shown family level) x) (tables_shown family (level + 1) xs) r.1)

-- what is shown is a table on one of the levels
pub In-shown : (family : Family) (level : ℕ) (levels : List (List Live)) (u : LiveTable) → In u (tables_shown family level levels) → (tables : List Live) × In tables levels × ((t : Live) × In t tables × ((l : ℕ) × (table_shown family l t ≡ u)))
In-shown family level [] u i = absurd i
In-shown family level (x ∷ xs) u i = elim (In-append u (map (table_shown family level) x) (tables_shown family (level + 1) xs) i) [
  | inl j ↦ let r = map-In (table_shown family level) u x j in (x, inl refl, (r.0, r.1, (level, r.2)))
  | inr j ↦ let r = In-shown family (level + 1) xs u j in (r.0, inr r.1, r.2)
]

-- ---- the lists of a family

-- an item is a version's
pub record IsItemOf (v : Version) (item : Item) : Type 0 where
  pub key : v.key ≡ item.sort_key.key
  pub ts : v.ts.0 ≡ item.sort_key.ts

abbrev lists : State → Family → ModelFamily → List Version
lists m family f = between family f.through.0 m.last.0 m.versions ++ contents f.tables

module _ (m : State) (family : Family) (f : ModelFamily) (g : FamilyState) (shows : IsFamilyNow family (between family f.through.0 m.last.0 m.versions) f g) where
  in_memory : (v : Version) → In v (versions_held g) → In v (between family f.through.0 m.last.0 m.versions)
  in_memory v i = contains_In (between family f.through.0 m.last.0 m.versions) v (Contains-permutation (versions_held g) (between family f.through.0 m.last.0 m.versions) v (IsPermutation-sym (between family f.through.0 m.last.0 m.versions) (versions_held g) shows.holds) (In-contains (versions_held g) v i))

  held : (v : Version) → In v (between family f.through.0 m.last.0 m.versions) → In v (versions_held g)
  held v i = contains_In (versions_held g) v (Contains-permutation (between family f.through.0 m.last.0 m.versions) (versions_held g) v shows.holds (In-contains (between family f.through.0 m.last.0 m.versions) v i))

  -- an item in memory is that of a version
  of_memory : (v : Version) → In v (versions_held g) → (w : Version) × In w (lists m family f) × (w.family ≡ family) × IsItemOf w (item_of v)
  of_memory v i =
      let j = in_memory v i in
      (v, In-left v (between family f.through.0 m.last.0 m.versions) (contents f.tables) j, (between-In family f.through.0 m.last.0 m.versions v j).1, record { key = refl; ts = refl })

  of_table : (tables : List Live) (t : Live) (item : Item) → In tables g.levels → In t tables → In item (items_of_table t) → (w : Version) × In w (lists m family f) × (w.family ≡ family) × IsItemOf w item
  of_table tables t item i j k =
      let r = shown-In family 0 g.levels tables t i j in
      let u = table_shown family r.0 t in
      let live = contains_In f.tables u (Contains-permutation (tables_shown family 0 g.levels) f.tables u (IsPermutation-sym f.tables (tables_shown family 0 g.levels) shows.tables) (In-contains (tables_shown family 0 g.levels) u r.1)) in
      let w = version_of_item family item in
      (w, In-right w (between family f.through.0 m.last.0 m.versions) (contents f.tables) (contents-from f.tables u w live (In-map (version_of_item family) item t.table.contents.items k)), refl, record { key = refl; ts = refl })

  pub version_from : (item : Item) → In item (items_of_family g) → (w : Version) × In w (lists m family f) × (w.family ≡ family) × IsItemOf w item
  version_from item i = elim (In-append item (items_of_memtable g.active) (flat_map items_of_memtable g.sealed ++ flat_map items_of_level g.levels) i) [
    | inl a ↦
        let r = map-In item_of item (versions_of_memtable g.active) a in
        let w = of_memory r.0 (In-left r.0 (versions_of_memtable g.active) (flat_map versions_of_memtable g.sealed) r.1) in
        (w.0, w.1, w.2, subst (IsItemOf w.0) r.2 w.3)
    | inr b ↦ elim (In-append item (flat_map items_of_memtable g.sealed) (flat_map items_of_level g.levels) b) [
      | inl s ↦
          let x = flat-In items_of_memtable item g.sealed s in
          let r = map-In item_of item (versions_of_memtable x.0) x.2 in
          let w = of_memory r.0 (In-right r.0 (versions_of_memtable g.active) (flat_map versions_of_memtable g.sealed) (In-flat versions_of_memtable x.0 r.0 g.sealed x.1 r.1)) in
          (w.0, w.1, w.2, subst (IsItemOf w.0) r.2 w.3)
      | inr t ↦
          let x = flat-In items_of_level item g.levels t in
          let y = flat-In items_of_table item x.0 x.2 in
          of_table x.0 y.0 item x.1 y.1 y.2
    ]
  ]

  pub item_from : (v : Version) → In v (lists m family f) → (item : Item) × In item (items_of_family g) × IsItemOf v item
  item_from v i = elim (In-append v (between family f.through.0 m.last.0 m.versions) (contents f.tables) i) [
    | inl a ↦ elim (In-append v (versions_of_memtable g.active) (flat_map versions_of_memtable g.sealed) (held v a)) [
      | inl b ↦ (item_of v, In-left (item_of v) (items_of_memtable g.active) (flat_map items_of_memtable g.sealed ++ flat_map items_of_level g.levels) (In-map item_of v (versions_of_memtable g.active) b), record { key = refl; ts = refl })
      | inr s ↦
          let x = flat-In versions_of_memtable v g.sealed s in
          let j = In-flat items_of_memtable x.0 (item_of v) g.sealed x.1 (In-map item_of v (versions_of_memtable x.0) x.2) in
          (item_of v, In-right (item_of v) (items_of_memtable g.active) (flat_map items_of_memtable g.sealed ++ flat_map items_of_level g.levels) (In-left (item_of v) (flat_map items_of_memtable g.sealed) (flat_map items_of_level g.levels) j), record { key = refl; ts = refl })
    ]
    | inr b ↦
        let x = In-contents f.tables v b in
        let y = In-shown family 0 g.levels x.0 (contains_In (tables_shown family 0 g.levels) x.0 (Contains-permutation f.tables (tables_shown family 0 g.levels) x.0 shows.tables (In-contains f.tables x.0 x.1))) in
        let t = y.2.0 in
        let l = y.2.2.0 in
        let in_t : In v (table_shown family l t).versions = subst (λ (z : LiveTable). In v z.versions) (sym y.2.2.1) x.2 in
        let r = map-In (version_of_item family) v t.table.contents.items in_t in
        let j = In-flat items_of_level y.0 r.0 g.levels y.1 (In-flat items_of_table t r.0 y.0 y.2.1 r.1) in
        (r.0, In-right r.0 (items_of_memtable g.active) (flat_map items_of_memtable g.sealed ++ flat_map items_of_level g.levels) (In-right r.0 (flat_map items_of_memtable g.sealed) (flat_map items_of_level g.levels) j), record { key = sym (ap (λ (z : Version). z.key) r.2); ts = sym (ap (λ (z : Version). z.ts.0) r.2) })
  ]

-- ---- the newest of a key behind operations

pub logged-of : (n : ℕ) (ops : List WriteOp) (v : Version) → In v (logged n ops) → (o : WriteOp) × In o ops × (o.family ≡ v.family) × (o.key ≡ v.key) × (o.ts ≡ v.ts)
logged-of n [] v i = absurd i
logged-of n (o ∷ ops) v (inl q) = (o, inl refl, ap (λ (z : Version). z.family) q, ap (λ (z : Version). z.key) q, ap (λ (z : Version). z.ts) q)
logged-of n (o ∷ ops) v (inr i) = let r = logged-of (n + 1) ops v i in (r.0, inr r.1, r.2, r.3, r.4)

pub of-logged : (n : ℕ) (ops : List WriteOp) (o : WriteOp) → In o ops → (v : Version) × In v (logged n ops) × (o.family ≡ v.family) × (o.key ≡ v.key) × (o.ts ≡ v.ts)
of-logged n [] o i = absurd i
of-logged n (x ∷ ops) o (inl q) = (version_of x n, inl refl, ap (λ (z : WriteOp). z.family) (sym q), ap (λ (z : WriteOp). z.key) (sym q), ap (λ (z : WriteOp). z.ts) (sym q))
of-logged n (x ∷ ops) o (inr i) = let r = of-logged (n + 1) ops o i in (r.0, inr r.1, r.2, r.3, r.4)

pub on_from : (family : Family) (key : List ℕ) (o : WriteOp) → o.family ≡ family → o.key ≡ key → is_on_key family key o ≡ true
on_from family key o f k = is_of-from family key (version_of o 0) f k

pub on_true : (family : Family) (key : List ℕ) (o : WriteOp) → is_on_key family key o ≡ true → (o.family ≡ family) × (o.key ≡ key)
on_true family key o h = is_of-true family key (version_of o 0) h

-- The lists of a state behind operations that were admitted: the newest of a key is the newest of the lists that show it, and of the
-- operations.
module _ (m : State) (family : Family) (f : ModelFamily) (g : FamilyState) (shows : IsFamilyNow family (between family f.through.0 m.last.0 m.versions) f g) (before : List WriteOp) (key : List ℕ)
    (low : f.through.0 ≤ m.last.0) (bounded : (v : Version) → In v m.versions → v.seq.0 ≤ m.last.0) (count : ℕ)
    (written : (v : Version) → In v (m.versions ++ made m.last.0 before) → v.seq.0 ≤ count) where
  abbrev after_ops : List Version
  after_ops = between family f.through.0 count (m.versions ++ made m.last.0 before) ++ contents f.tables

  to_lists : (n : ℕ) → IsStampOf (items_of_family g) key n ⊎ IsStampOn before family key n → IsStampIn after_ops family key n
  to_lists n (inl s) =
      let w = version_from m family f g shows s.0 s.1 in
      let same : w.0.key ≡ key = w.3.key ∙ (bytes_eq-Decides s.0.sort_key.key key).0 s.2 in
      let there : In w.0 after_ops = elim (In-append w.0 (between family f.through.0 m.last.0 m.versions) (contents f.tables) w.1) [
        | inl a ↦
            let r = between-In family f.through.0 m.last.0 m.versions w.0 a in
            let j = In-left w.0 m.versions (made m.last.0 before) r.0 in
            In-left w.0 (between family f.through.0 count (m.versions ++ made m.last.0 before)) (contents f.tables) (In-between family f.through.0 count (m.versions ++ made m.last.0 before) w.0 j r.1 r.2 (written w.0 j))
        | inr b ↦ In-right w.0 (between family f.through.0 count (m.versions ++ made m.last.0 before)) (contents f.tables) b
      ] in
      (w.0, there, is_of-from family key w.0 w.2 same, w.3.ts ∙ s.3)
  to_lists n (inr s) =
      let own = on_true family key s.0 s.2 in
      let w = of-logged (m.last.0 + 1) before s.0 s.1 in
      let j = In-right w.0 m.versions (made m.last.0 before) w.1 in
      let l = logged_above (m.last.0 + 1) before w.0 w.1 in
      let in_lists = In-between family f.through.0 count (m.versions ++ made m.last.0 before) w.0 j (sym w.2 ∙ own.0) (omega (arith, l, low)) (written w.0 j) in
      (w.0, In-left w.0 (between family f.through.0 count (m.versions ++ made m.last.0 before)) (contents f.tables) in_lists, is_of-from family key w.0 (sym w.2 ∙ own.0) (sym w.3 ∙ own.1), sym (ap (λ z. z.0) w.4) ∙ s.3)

  from_lists : (n : ℕ) → IsStampIn after_ops family key n → IsStampOf (items_of_family g) key n ⊎ IsStampOn before family key n
  from_lists n s =
      let own = is_of-true family key s.0 s.2 in
      let shown : In s.0 (between family f.through.0 m.last.0 m.versions ++ contents f.tables) → IsStampOf (items_of_family g) key n = λ i.
      let r = item_from m family f g shows s.0 i in
      (r.0, r.1, (bytes_eq-Decides r.0.sort_key.key key).1 (sym r.2.key ∙ own.1), sym r.2.ts ∙ s.3) in
      elim (In-append s.0 (between family f.through.0 count (m.versions ++ made m.last.0 before)) (contents f.tables) s.1) [
        | inl a ↦
            let r = between-In family f.through.0 count (m.versions ++ made m.last.0 before) s.0 a in
            elim (In-append s.0 m.versions (made m.last.0 before) r.0) [
              | inl j ↦ inl (shown (In-left s.0 (between family f.through.0 m.last.0 m.versions) (contents f.tables) (In-between family f.through.0 m.last.0 m.versions s.0 j r.1 r.2 (bounded s.0 j))))
              | inr j ↦
                  let o = logged-of (m.last.0 + 1) before s.0 j in
                  inr (o.0, o.1, on_from family key o.0 (o.2 ∙ own.0) (o.3 ∙ own.1), ap (λ z. z.0) o.4 ∙ s.3)
            ]
        | inr b ↦ inl (shown (In-right s.0 (between family f.through.0 m.last.0 m.versions) (contents f.tables) b))
      ]

  pub newest_shown : stamp_of (newest_of (of_key after_ops family key)) ≡ greater (items.newest_ts (items_of_family g) key) (latest_at family key before)
  newest_shown =
      top_once (IsStampIn after_ops family key) (stamp_of (newest_of (of_key after_ops family key))) (greater (items.newest_ts (items_of_family g) key) (latest_at family key before))
      (top_newest after_ops family key)
      (top_same (λ n. IsStampOf (items_of_family g) key n ⊎ IsStampOn before family key n) (IsStampIn after_ops family key) (greater (items.newest_ts (items_of_family g) key) (latest_at family key before)) to_lists from_lists
      (top_both (IsStampOf (items_of_family g) key) (IsStampOn before family key) (items.newest_ts (items_of_family g) key) (latest_at family key before) (top_items (items_of_family g) key) (top_ops before family key)))
