-- What every fold of a manifest keeps, and what leaves it.
use Rattle.std.proofs.Common.{◌≡◌, ◌⊎◌, ℕ, ◌<◌, ◌≤◌, ◌==◌, true, false, List, [], ◌∷◌, ◌++◌, map, take, drop, length, Option, Some, None, refl, sym, ap, ◌∙◌, subst, arith, inl, inr}
use Rattle.std.specs.Prelude.{IsTrue, not, ◌||◌, slice_get, slice_set}
use Rattle.std.specs.List.{list_any}
use Rattle.std.specs.List.Sorted.{IsStrictlyIncreasing}
use Rattle.std.proofs.lemmas.Bool.{eqb-true, eq-eqb, not-true, or_cases, false≢true}
use Rattle.std.proofs.lemmas.List.{take-append-drop}
use Rattle.ts_key.specs.declared.numbers.Family.{Family}
use Rattle.udt_model.specs.declared.line.FamilyHead.{FamilyHead}
use Rattle.manifest_edit.specs.declared.edit.TableAt.{TableAt}
use Rattle.manifest_edit.specs.declared.edit.FamilyEdit.{FamilyEdit}
use Rattle.manifest_edit.specs.declared.edit.Edit.{Edit}
use Rattle.manifest_edit.specs.LiveTables.{has_table_number, place_tables, without_tables}
use Rattle.manifest_fold.specs.declared.fold.FamilyFold.{FamilyFold}
use Rattle.manifest_fold.specs.declared.fold.Folded.{Folded}
use Rattle.manifest_fold.specs.declared.limits.TheConstants.{LOWEST_LEVEL}
use Rattle.manifest_fold.specs.Folds.{IsAccepted, IsFreeNumber, IsFamilyEdit, IsPart, family_with, families_with, fold_with, is_live, newest_log, put_over}
use Rattle.manifest_fold.specs.Bodies.{LeadAll}
use Rattle.manifest.specs.Folds.{family_fold, fold_of}
use Rattle.floor_laws.proofs.Members.{In, In-contains, contains_In, All-In, All-from, In-append, In-left, filter-In, any-In, In-any}
use Rattle.floor_laws.proofs.Kept.{same_number}
use Rattle.floor_laws.proofs.Tables.{Sorted}
use Rattle.engine_laws.specs.Manifests.{IsLive, IsWell, table_number}
use Rattle.engine_laws.proofs.Places.{get-map, get-set, get-In, length-set}
use Rattle.engine_laws.proofs.Ascending.{newest_of, rising_sorted, sorted_rising, sorted_append, sorted_drop, sorted_apart, drop-In}
use Rattle.engine_laws.proofs.Placing.{placed-In, sorted_filter, sorted_placed}

-- ---- live tables, by what is in a list

pub live_In : (fold : Folded) (i : Family) (f : FamilyFold) (t : TableAt) → IsLive fold i f t → In t f.tables
live_In fold i f t l = contains_In f.tables t l.table

pub In_live : (fold : Folded) (i : Family) (f : FamilyFold) (t : TableAt) → slice_get fold.families i.0 ≡ Some f → In t f.tables → IsLive fold i f t
In_live fold i f t q j = record { family = q; table = In-contains f.tables t j }

-- ---- what an edit makes of a family

pub record Rises (old new : FamilyFold) : Type 0 where
  pub form : new.form ≡ old.form
  pub floor : old.floor.0 ≤ new.floor.0
  pub through : old.through.0 ≤ new.through.0

rises_not : (f : FamilyFold) → Rises f f
rises_not f = record { form = refl; floor = omega arith; through = omega arith }

-- an edit of a family changes it alone
pub families_part : (fs : List FamilyFold) (e : FamilyEdit) (old : FamilyFold) → slice_get fs e.family.0 ≡ Some old → families_with fs (Some e) ≡ slice_set fs e.family.0 (family_with old e)
families_part fs e old there = ap (put_over fs e) there

module _ (fold : Folded) (edit : Edit) where
  -- where a family stands behind an edit
  pub family_from : (e : FamilyEdit) (old : FamilyFold) (i : ℕ) (new : FamilyFold) → slice_get fold.families e.family.0 ≡ Some old → slice_get (families_with fold.families (Some e)) i ≡ Some new
      → ((i ≡ e.family.0) × (family_with old e ≡ new)) ⊎ ((i ≡ e.family.0 → ⊥) × (slice_get fold.families i ≡ Some new))
  family_from e old i new there h = get-set fold.families e.family.0 i (family_with old e) new (subst (λ z. slice_get z i ≡ Some new) (families_part fold.families e old there) h)

  -- each family was there, and its floor and `through` don't fall
  pub family_back : (o : Option FamilyEdit) (i : ℕ) (new : FamilyFold) → IsPart fold.families edit o → slice_get (families_with fold.families o) i ≡ Some new → (old : FamilyFold) × (slice_get fold.families i ≡ Some old) × Rises old new
  family_back None i new p h = (new, h, rises_not new)
  family_back (Some e) i new p h =
      elim (family_from e p.0 i new p.1 h) [
        | inl a ↦ (p.0, subst (λ z. slice_get fold.families z ≡ Some p.0) (sym a.0) p.1, subst (Rises p.0) a.1 (record { form = refl; floor = p.2.floor; through = p.2.through }))
        | inr a ↦ (new, a.1, rises_not new)
      ]

  -- where a table that is live behind an edit comes from: it stays, or the edit adds it
  pub table_from : (e : FamilyEdit) (old : FamilyFold) (i : Family) (f : FamilyFold) (t : TableAt) → slice_get fold.families e.family.0 ≡ Some old → slice_get (families_with fold.families (Some e)) i.0 ≡ Some f → In t f.tables
      → ((g : FamilyFold) × IsLive fold i g t × (i.0 ≡ e.family.0 → list_any (λ n. t.number == n) e.remove ≡ false)) ⊎ ((i.0 ≡ e.family.0) × In t e.add)
  table_from e old i f t there h j =
      elim (family_from e old i.0 f there h) [
        | inl a ↦
            let j2 : In t (place_tables e.add (without_tables e.remove old.tables)) = subst (λ (z : FamilyFold). In t z.tables) (sym a.1) j in
            elim (placed-In t e.add (without_tables e.remove old.tables) j2) [
              | inl k ↦
                  let r = filter-In (λ (z : TableAt). not (list_any (λ n. z.number == n) e.remove)) t old.tables k in
                  inl (old, In_live fold i old t (subst (λ z. slice_get fold.families z ≡ Some old) (sym a.0) there) r.0, (λ q. not-true (list_any (λ n. t.number == n) e.remove) r.1))
              | inr k ↦ inr (a.0, k)
            ]
        | inr a ↦ inl (f, In_live fold i f t a.1 j, (λ q. absurd (a.0 q)))
      ]

  -- each table was live in its family, or has a number below the next
  pub table_back : (o : Option FamilyEdit) (i : Family) (new : FamilyFold) (t : TableAt) → IsPart fold.families edit o → slice_get (families_with fold.families o) i.0 ≡ Some new → In t new.tables → ((old : FamilyFold) × IsLive fold i old t) ⊎ (t.number < edit.next_file)
  table_back None i new t p h j = inl (new, In_live fold i new t h j)
  table_back (Some e) i new t p h j = elim (table_from e p.0 i new t p.1 h j) [
    | inl a ↦ inl (a.0, a.1)
    | inr a ↦ inr (All-In (λ (z : TableAt). z.number < edit.next_file) e.add t p.2.tables.below a.1)
  ]

  -- the live tables of each family ascend, as they did
  tables_sorted : (o : Option FamilyEdit) (i : Family) (new : FamilyFold) → IsPart fold.families edit o → IsWell fold → slice_get (families_with fold.families o) i.0 ≡ Some new → Sorted (map table_number new.tables)
  tables_sorted None i new p w h = rising_sorted (map table_number new.tables) (w.ascending i new h)
  tables_sorted (Some e) i new p w h =
      elim (family_from e p.0 i.0 new p.1 h) [
        | inl a ↦
            subst (λ (z : FamilyFold). Sorted (map table_number z.tables)) a.1
            (sorted_placed e.add (without_tables e.remove p.0.tables) (sorted_filter (λ (z : TableAt). not (list_any (λ n. z.number == n) e.remove)) p.0.tables (rising_sorted (map table_number p.0.tables) (w.ascending e.family p.0 p.1))))
        | inr a ↦ rising_sorted (map table_number new.tables) (w.ascending i new a.1)
      ]

  pub families_length : (o : Option FamilyEdit) → IsPart fold.families edit o → length (families_with fold.families o) ≡ length fold.families
  families_length None p = refl
  families_length (Some e) p = ap length (families_part fold.families e p.0 p.1) ∙ length-set fold.families e.family.0 (family_with p.0 e)

  -- a table of this number is live
  pub live_known : (fs : List FamilyFold) (n : ℕ) → is_live fs n ≡ true → (f : FamilyFold) × In f fs × ((t : TableAt) × In t f.tables × (t.number ≡ n))
  live_known fs n h =
      let r = In-any (λ (f : FamilyFold). has_table_number f.tables n) fs h in
      let k = In-any (λ (t : TableAt). t.number == n) r.0.tables r.2 in
      (r.0, r.1, (k.0, k.1, eqb-true k.0.number n k.2))

  known_live : (i : Family) (f : FamilyFold) (t : TableAt) → IsLive fold i f t → is_live fold.families t.number ≡ true
  known_live i f t l = any-In (λ (g : FamilyFold). has_table_number g.tables t.number) f fold.families (get-In fold.families i.0 f l.family) (any-In (λ (u : TableAt). u.number == t.number) t f.tables (live_In fold i f t l) (eq-eqb t.number t.number refl))

  -- a number that an edit adds is none of a table that stays
  stays_apart : (e : FamilyEdit) (old : FamilyFold) (p : IsFamilyEdit fold.families edit old e) → slice_get fold.families e.family.0 ≡ Some old → IsWell fold
      → (t u : TableAt) → In t e.add → (k : Family) (h : FamilyFold) → IsLive fold k h u → (k.0 ≡ e.family.0 → list_any (λ n. u.number == n) e.remove ≡ false) → t.number ≡ u.number → ⊥
  stays_apart e old p there w t u j k h l kept q =
      let free : (list_any (λ m. m == t.number) e.remove || not (is_live fold.families t.number)) ≡ true = All-In (λ (z : TableAt). IsFreeNumber fold.families e.remove z.number) e.add t p.tables.free j in
      elim (or_cases (list_any (λ m. m == t.number) e.remove) (not (is_live fold.families t.number)) free) [
        | inl y ↦
            let r = In-any (λ m. m == t.number) e.remove y in
            let n : r.0 ≡ u.number = eqb-true r.0 t.number r.2 ∙ q in
            let was = In-any (λ (z : TableAt). z.number == r.0) old.tables (All-In (λ m. IsTrue (has_table_number old.tables m)) e.remove r.0 p.tables.live r.1) in
            let same : k ≡ e.family = w.apart k e.family h old u was.0 l (In_live fold e.family old was.0 there was.1) (sym n ∙ sym (eqb-true was.0.number r.0 was.2)) in
            let out = kept (ap (λ (z : Family). z.0) same) in
            false≢true (sym out ∙ any-In (λ m. u.number == m) r.0 e.remove r.1 (eq-eqb u.number r.0 (sym n)))
        | inr y ↦ false≢true (sym (not-true (is_live fold.families t.number) y) ∙ ap (is_live fold.families) q ∙ known_live k h u l)
      ]

  apart_with : (o : Option FamilyEdit) → IsPart fold.families edit o → IsWell fold → (i k : Family) (f h : FamilyFold) (t u : TableAt) → slice_get (families_with fold.families o) i.0 ≡ Some f → In t f.tables → slice_get (families_with fold.families o) k.0 ≡ Some h → In u h.tables → t.number ≡ u.number → i ≡ k
  apart_with None p w i k f h t u a b c d q = w.apart i k f h t u (In_live fold i f t a b) (In_live fold k h u c d) q
  apart_with (Some e) p w i k f h t u a b c d q =
      elim (table_from e p.0 i f t p.1 a b) [
        | inl x ↦ elim (table_from e p.0 k h u p.1 c d) [
          | inl y ↦ w.apart i k x.0 y.0 t u x.1 y.1 q
          | inr y ↦ absurd (stays_apart e p.0 p.2 p.1 w u t y.1 i x.0 x.1 x.2 (sym q))
        ]
        | inr x ↦ elim (table_from e p.0 k h u p.1 c d) [
          | inl y ↦ absurd (stays_apart e p.0 p.2 p.1 w t u x.1 k y.0 y.1 y.2 q)
          | inr y ↦ same_number i k (x.0 ∙ sym y.0)
        ]
      ]

  through_with : (o : Option FamilyEdit) → IsPart fold.families edit o → IsWell fold → fold.last.0 ≤ edit.last.0 → (i : Family) (f : FamilyFold) → slice_get (families_with fold.families o) i.0 ≡ Some f → f.through.0 ≤ edit.last.0
  through_with None p w le i f q = let l = w.through i f q in omega (arith, l, le)
  through_with (Some e) p w le i f q =
      elim (family_from e p.0 i.0 f p.1 q) [
        | inl a ↦ let l = p.2.within in let y : e.through.0 ≡ f.through.0 = ap (λ (z : FamilyFold). z.through.0) a.1 in omega (arith, l, y)
        | inr a ↦ let l = w.through i f a.1 in omega (arith, l, le)
      ]

  levels_with : (o : Option FamilyEdit) → IsPart fold.families edit o → IsWell fold → (i : Family) (f : FamilyFold) (t : TableAt) → slice_get (families_with fold.families o) i.0 ≡ Some f → In t f.tables → t.level ≤ LOWEST_LEVEL
  levels_with None p w i f t q j = w.levels i f t (In_live fold i f t q j)
  levels_with (Some e) p w i f t q j = elim (table_from e p.0 i f t p.1 q j) [
    | inl x ↦ w.levels i x.0 t x.1
    | inr x ↦ All-In (λ (z : TableAt). z.level ≤ LOWEST_LEVEL) e.add t p.2.tables.levels x.1
  ]

  -- what the edit adds is above each log
  added_above : IsAccepted fold edit → IsWell fold → (n m : ℕ) → In n edit.add_logs → In m fold.logs → m < n
  added_above a w n m i j =
      let top = (newest_of fold.logs w.some (rising_sorted fold.logs w.sorted)).top m j in
      let l = All-In (λ k. newest_log fold.logs < k) edit.add_logs n a.logs.newer i in
      omega (arith, top, l)

  some_In : (ns : List ℕ) → 1 ≤ length ns → (n : ℕ) × In n ns
  some_In [] h = absurd (omega (arith, h))
  some_In (n ∷ ns) h = (n, inl refl)

  pub logs_In : (n : ℕ) → In n (fold_with fold edit).logs → In n fold.logs ⊎ In n edit.add_logs
  logs_In n i = elim (In-append n (drop (length edit.drop_logs) fold.logs) edit.add_logs i) [ inl j ↦ inl (drop-In (length edit.drop_logs) fold.logs n j) | inr j ↦ inr j ]

  -- a fold goes on to be well
  pub edit_well : IsAccepted fold edit → IsWell fold → IsWell (fold_with fold edit)
  edit_well a w = record {
    some = a.logs.one;
    sorted = sorted_rising (drop (length edit.drop_logs) fold.logs ++ edit.add_logs)
        (sorted_append (drop (length edit.drop_logs) fold.logs) edit.add_logs (sorted_drop (length edit.drop_logs) fold.logs (rising_sorted fold.logs w.sorted)) (rising_sorted edit.add_logs a.logs.ascending)
        (λ x y i j. added_above a w y x j (drop-In (length edit.drop_logs) fold.logs x i)));
    next = a.most;
    last = a.within;
    first = All-from (λ n. 1 ≤ n) (fold_with fold edit).logs (λ n i. elim (logs_In n i) [
      | inl j ↦ All-In (λ k. 1 ≤ k) fold.logs n w.first j
      | inr j ↦ let m = some_In fold.logs w.some in let l = added_above a w n m.0 j m.1 in omega (arith, l)
    ]);
    logs = All-from (λ n. n < edit.next_file) (fold_with fold edit).logs (λ n i. elim (logs_In n i) [
      | inl j ↦ let l = All-In (λ k. k < fold.next_file) fold.logs n w.logs j in let u = a.next in omega (arith, l, u)
      | inr j ↦ All-In (λ k. k < edit.next_file) edit.add_logs n a.logs.below j
    ]);
    tables = λ i f t l. elim (table_back edit.family i f t a.part l.family (live_In (fold_with fold edit) i f t l)) [
      | inl x ↦ let k = w.tables i x.0 t x.1 in let u = a.next in omega (arith, k, u)
      | inr x ↦ x
    ];
    levels = λ i f t l. levels_with edit.family a.part w i f t l.family (live_In (fold_with fold edit) i f t l);
    through = λ i f q. through_with edit.family a.part w a.last i f q;
    ascending = λ i f q. sorted_rising (map table_number f.tables) (tables_sorted edit.family i f a.part w q);
    apart = λ i k f h t u l n q. apart_with edit.family a.part w i k f h t u l.family (live_In (fold_with fold edit) i f t l) n.family (live_In (fold_with fold edit) k h u n) q;
  }

  -- a dropped log isn't live with the edit
  pub dropped_dead : (n : ℕ) → IsAccepted fold edit → IsWell fold → In n edit.drop_logs → In n (fold_with fold edit).logs → ⊥
  dropped_dead n a w i j =
      let front : In n (take (length edit.drop_logs) fold.logs) = subst (λ z. In n z) a.logs.oldest i in
      elim (In-append n (drop (length edit.drop_logs) fold.logs) edit.add_logs j) [
        | inl k ↦ sorted_apart (take (length edit.drop_logs) fold.logs) (drop (length edit.drop_logs) fold.logs) n (subst Sorted (sym (take-append-drop (length edit.drop_logs) fold.logs)) (rising_sorted fold.logs w.sorted)) front k
        | inr k ↦
            let there : In n fold.logs = subst (λ z. In n z) (take-append-drop (length edit.drop_logs) fold.logs) (In-left n (take (length edit.drop_logs) fold.logs) (drop (length edit.drop_logs) fold.logs) front) in
            let l = added_above a w n n k there in
            omega (arith, l)
      ]

  -- nor is a removed table, unless the edit adds one of its number
  pub removed_dead : (e : FamilyEdit) (n : ℕ) → edit.family ≡ Some e → IsAccepted fold edit → IsWell fold → In n e.remove → ((t : TableAt) → In t e.add → t.number ≡ n → ⊥)
      → (i : Family) (f : FamilyFold) (t : TableAt) → IsLive (fold_with fold edit) i f t → t.number ≡ n → ⊥
  removed_dead e n is a w r new i f t l q =
      let p : IsPart fold.families edit (Some e) = subst (IsPart fold.families edit) is a.part in
      let was = In-any (λ (z : TableAt). z.number == n) p.0.tables (All-In (λ m. IsTrue (has_table_number p.0.tables m)) e.remove n p.2.tables.live r) in
      let fam : slice_get (families_with fold.families (Some e)) i.0 ≡ Some f = subst (λ z. slice_get (families_with fold.families z) i.0 ≡ Some f) is l.family in
      elim (table_from e p.0 i f t p.1 fam (live_In (fold_with fold edit) i f t l)) [
        | inl x ↦
            let same : i ≡ e.family = w.apart i e.family x.0 p.0 t was.0 x.1 (In_live fold e.family p.0 was.0 p.1 was.1) (q ∙ sym (eqb-true was.0.number n was.2)) in
            false≢true (sym (x.2 (ap (λ (z : Family). z.0) same)) ∙ any-In (λ m. t.number == m) n e.remove r (eq-eqb t.number n q))
        | inr x ↦ new t x.1 q
      ]

-- ---- a manifest

head_none : (families : List FamilyHead) (i : ℕ) (f : FamilyFold) → slice_get (map family_fold families) i ≡ Some f → (h : FamilyHead) × (family_fold h ≡ f)
head_none families i f q = let r = get-map family_fold families i f q in (r.0, r.2)

pub head_dead : (families : List FamilyHead) (i : Family) (f : FamilyFold) (t : TableAt) → IsLive (fold_of families) i f t → ⊥
head_dead families i f t l = let r = head_none families i.0 f l.family in subst (λ (z : FamilyFold). In t z.tables) (sym r.1) (live_In (fold_of families) i f t l)

one_In : (n : ℕ) → In n (1 ∷ []) → n ≡ 1
one_In n i = elim i [ inl q ↦ sym q | inr j ↦ absurd j ]

pub head_well : (families : List FamilyHead) → IsWell (fold_of families)
head_well families = record {
  some = omega arith;
  sorted = λ k l. absurd (omega (arith, l));
  next = omega arith;
  last = omega arith;
  first = All-from (λ n. 1 ≤ n) (1 ∷ []) (λ n i. let e = one_In n i in omega (arith, e));
  logs = All-from (λ n. n < 2) (1 ∷ []) (λ n i. let e = one_In n i in omega (arith, e));
  tables = λ i f t l. absurd (head_dead families i f t l);
  levels = λ i f t l. absurd (head_dead families i f t l);
  through = λ i f q. let r = head_none families i.0 f q in let e : 0 ≡ f.through.0 = ap (λ (z : FamilyFold). z.through.0) r.1 in omega (arith, e);
  ascending = λ i f q. let r = head_none families i.0 f q in subst (λ (z : FamilyFold). IsStrictlyIncreasing (map table_number z.tables)) r.1 (λ k l. absurd (omega (arith, l)));
  apart = λ i k f h t u l n q. absurd (head_dead families i f t l);
}

pub all_well : (fold end : Folded) (bodies : List (List ℕ)) → LeadAll fold bodies end → IsWell fold → IsWell end
all_well fold end [] h w = subst IsWell (sym h) w
all_well fold end (body ∷ bodies) h w = all_well h.0 end bodies h.2 (subst IsWell (sym h.1.is) (edit_well fold h.1.edit h.1.accepted w))
