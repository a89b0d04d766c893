-- What a super version shows is read as the model reads.
use Rattle.std.proofs.Common.{◌≡◌, ℕ, List, ◌++◌, refl, sym, ap, ◌∙◌, subst, inl, inr, Option, Some, None}
use Rattle.std.specs.Prelude.{if◌then◌else◌, nat_lt}
use Rattle.std.specs.List.{flat_map}
use Rattle.std.proofs.lemmas.List.Sorted.{Contains-permutation, IsPermutation-sym}
use Rattle.ts_key.specs.declared.numbers.Family.{Family}
use Rattle.ts_key.specs.declared.numbers.Ts.{Ts}
use Rattle.ts_key.specs.declared.version.Op.{Op}
use Rattle.ts_key.specs.declared.version.Op.TheVariants.{Del, Put}
use Rattle.ts_key.specs.declared.version.Version.{Version}
use Rattle.ts_key.specs.Items.{item_of, kind_of, value_of}
use Rattle.memtable.specs.Memtables.{versions_of_memtable}
use Rattle.udt_model.specs.declared.read.ModelRead.{ModelRead}
use Rattle.udt_model.specs.declared.read.ModelRead.TheVariants.{Collapsed, Told}
use Rattle.udt_model.specs.Reads.{answer_of, read}
use Rattle.udt_model.specs.Versions.{between}
use Rattle.udt_model.specs.State.{State, LiveTable, family_at}
use Rattle.udt_model.specs.State.{FamilyState as ModelFamily}
use Rattle.super_version.specs.Contents.{items_of_level, items_of_memtable, items_of_table, op_of_kind, version_of_item, versions_in}
use Rattle.super_version.specs.declared.family.FamilyState.{FamilyState}
use Rattle.floor_laws.specs.Sound.{IsSoundState, lists_of}
use Rattle.floor_laws.specs.Tables.{contents}
use Rattle.floor_laws.proofs.Members.{In, Within, In-append, In-contains, In-left, In-map, In-right, contains_In, map-In}
use Rattle.floor_laws.proofs.Best.{Single}
use Rattle.floor_laws.proofs.Counts.{distinct_single, pairs_distinct}
use Rattle.floor_laws.proofs.Families.{between-In}
use Rattle.floor_laws.proofs.Reopening.{sound_reads}
use Rattle.floor_laws.proofs.Standing.{visible_same}
use Rattle.floor_laws.proofs.Tables.{In-contents, contents-from}
use Rattle.store_engine.specs.Now.{IsFamilyNow, table_shown, tables_shown, versions_held}
use Rattle.store_engine.proofs.Shown.{In-flat, In-shown, flat-In, shown-In}

-- ---- a version from its item

op_back : (op : Op) → op_of_kind (kind_of op) (value_of op) ≡ op
op_back Del = refl
op_back (Put value) = refl

pub version_back : (family : Family) (v : Version) → v.family ≡ family → version_of_item family (item_of v) ≡ v
version_back family v e =
    ap (λ (c : Family). let w : Version = record { family = c; key = v.key; ts = v.ts; seq = v.seq; op = op_of_kind (kind_of v.op) (value_of v.op) } in w) (sym e)
    ∙ ap (λ (op : Op). let w : Version = record { family = v.family; key = v.key; ts = v.ts; seq = v.seq; op = op } in w) (op_back v.op)

-- ---- the lists of a family

module _ (m : State) (family : Family) (f : ModelFamily) (g : FamilyState) (shows : IsFamilyNow family (between family f.through.0 m.last.0 m.versions) f g) where
  abbrev unflushed : List Version
  unflushed = between family f.through.0 m.last.0 m.versions

  in_memory : (v : Version) → In v (versions_held g) → In v unflushed
  in_memory v i = contains_In unflushed v (Contains-permutation (versions_held g) unflushed v (IsPermutation-sym unflushed (versions_held g) shows.holds) (In-contains (versions_held g) v i))

  in_held : (v : Version) → In v unflushed → In v (versions_held g)
  in_held v i = contains_In (versions_held g) v (Contains-permutation unflushed (versions_held g) v shows.holds (In-contains unflushed v i))

  -- the version of an item that a memtable holds
  of_memory : (v w : Version) → In w (versions_held g) → version_of_item family (item_of w) ≡ v → In v (lists_of m family f)
  of_memory v w i e =
      let j = in_memory w i in
      let same = sym (version_back family w (between-In family f.through.0 m.last.0 m.versions w j).1) ∙ e in
      In-left v unflushed (contents f.tables) (subst (λ (x : Version). In x unflushed) same j)

  shown_within : Within (versions_in family g) (lists_of m family f)
  shown_within v i =
      let r = map-In (version_of_item family) v (items_of_memtable g.active ++ (flat_map items_of_memtable g.sealed ++ flat_map items_of_level g.levels)) i in
      elim (In-append r.0 (items_of_memtable g.active) (flat_map items_of_memtable g.sealed ++ flat_map items_of_level g.levels) r.1) [
        | inl a ↦
            let w = map-In item_of r.0 (versions_of_memtable g.active) a in
            of_memory v w.0 (In-left w.0 (versions_of_memtable g.active) (flat_map versions_of_memtable g.sealed) w.1) (ap (version_of_item family) w.2 ∙ r.2)
        | inr b ↦ elim (In-append r.0 (flat_map items_of_memtable g.sealed) (flat_map items_of_level g.levels) b) [
          | inl s ↦
              let x = flat-In items_of_memtable r.0 g.sealed s in
              let w = map-In item_of r.0 (versions_of_memtable x.0) x.2 in
              of_memory v w.0 (In-right w.0 (versions_of_memtable g.active) (flat_map versions_of_memtable g.sealed) (In-flat versions_of_memtable x.0 w.0 g.sealed x.1 w.1)) (ap (version_of_item family) w.2 ∙ r.2)
          | inr t ↦
              let x = flat-In items_of_level r.0 g.levels t in
              let y = flat-In items_of_table r.0 x.0 x.2 in
              let s = shown-In family 0 g.levels x.0 y.0 x.1 y.1 in
              let u = table_shown family s.0 y.0 in
              let live = contains_In f.tables u (Contains-permutation (tables_shown family 0 g.levels) f.tables u (IsPermutation-sym f.tables (tables_shown family 0 g.levels) shows.tables) (In-contains (tables_shown family 0 g.levels) u s.1)) in
              In-right v unflushed (contents f.tables) (contents-from f.tables u v live (subst (λ (z : Version). In z u.versions) r.2 (In-map (version_of_item family) r.0 y.0.table.contents.items y.2)))
        ]
      ]

  lists_within : Within (lists_of m family f) (versions_in family g)
  lists_within v i = elim (In-append v unflushed (contents f.tables) i) [
    | inl a ↦
        let own = (between-In family f.through.0 m.last.0 m.versions v a).1 in
        let items = items_of_memtable g.active ++ (flat_map items_of_memtable g.sealed ++ flat_map items_of_level g.levels) in
        elim (In-append v (versions_of_memtable g.active) (flat_map versions_of_memtable g.sealed) (in_held v a)) [
          | inl b ↦
              subst (λ (z : Version). In z (versions_in family g)) (version_back family v own)
              (In-map (version_of_item family) (item_of v) items (In-left (item_of v) (items_of_memtable g.active) (flat_map items_of_memtable g.sealed ++ flat_map items_of_level g.levels) (In-map item_of v (versions_of_memtable g.active) b)))
          | inr s ↦
              let x = flat-In versions_of_memtable v g.sealed s in
              let j = In-flat items_of_memtable x.0 (item_of v) g.sealed x.1 (In-map item_of v (versions_of_memtable x.0) x.2) in
              subst (λ (z : Version). In z (versions_in family g)) (version_back family v own)
              (In-map (version_of_item family) (item_of v) items (In-right (item_of v) (items_of_memtable g.active) (flat_map items_of_memtable g.sealed ++ flat_map items_of_level g.levels) (In-left (item_of v) (flat_map items_of_memtable g.sealed) (flat_map items_of_level g.levels) j)))
        ]
    | inr b ↦
        let items = items_of_memtable g.active ++ (flat_map items_of_memtable g.sealed ++ flat_map items_of_level g.levels) in
        let x = In-contents f.tables v b in
        let y = In-shown family 0 g.levels x.0 (contains_In (tables_shown family 0 g.levels) x.0 (Contains-permutation f.tables (tables_shown family 0 g.levels) x.0 shows.tables (In-contains f.tables x.0 x.1))) in
        let t = y.2.0 in
        let l = y.2.2.0 in
        let in_t : In v (table_shown family l t).versions = subst (λ (z : LiveTable). In v z.versions) (sym y.2.2.1) x.2 in
        let r = map-In (version_of_item family) v t.table.contents.items in_t in
        let j = In-flat items_of_level y.0 r.0 g.levels y.1 (In-flat items_of_table t r.0 y.0 y.2.1 r.1) in
        subst (λ (z : Version). In z (versions_in family g)) r.2
        (In-map (version_of_item family) r.0 items (In-right r.0 (items_of_memtable g.active) (flat_map items_of_memtable g.sealed ++ flat_map items_of_level g.levels) (In-right r.0 (flat_map items_of_memtable g.sealed) (flat_map items_of_level g.levels) j)))
  ]

  -- a read of all lists answers as one of all writes
  pub read_shown : IsSoundState m → family_at m family ≡ Some f → (key : List ℕ) (t : Ts) → read (versions_in family g) g.floor family key t m.last ≡ read m.versions f.head.floor family key t m.last
  read_shown sound at key t =
      let single : Single (lists_of m family f) = distinct_single (lists_of m family f) (pairs_distinct (lists_of m family f) (sound.families family f at).lists.apart) in
      let seen = visible_same (lists_of m family f) (versions_in family g) family key t m.last lists_within shown_within single in
      ap (λ (floor : Ts). read (versions_in family g) floor family key t m.last) shows.floor
      ∙ ap (λ (o : Option Version). let r : ModelRead = if nat_lt t.0 f.head.floor.0 then Collapsed f.head.floor else Told (answer_of f.head.floor o) in r) seen
      ∙ sound_reads m family f key t None sound at
