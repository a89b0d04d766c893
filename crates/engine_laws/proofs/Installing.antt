-- The edits of the engine may be made, and lead to the states of the model.
use Rattle.std.proofs.Common.{◌≡◌, ℕ, zero, suc, ◌+◌, ◌<◌, ◌≤◌, ◌==◌, false, List, [], ◌∷◌, ◌++◌, map, take, drop, length, Some, None, refl, sym, ap, ◌∙◌, subst, arith, inl, inr}
use Rattle.std.specs.Prelude.{All, Contains, IsTrue, not, option_map, slice_get, slice_set}
use Rattle.std.specs.List.{list_any}
use Rattle.std.specs.List.Sorted.{IsStrictlyIncreasing}
use Rattle.std.proofs.lemmas.Bool.{cases_lt, eq-eqb, false_from_ne_true, or_right}
use Rattle.std.proofs.lemmas.List.{append-nil, length-append}
use Rattle.std.proofs.lemmas.List.Elements.{All-nil}
use Rattle.std.proofs.Math.Seq.{drop-append_seam, take-append_seam}
use Rattle.ts_key.specs.declared.numbers.Family.{Family}
use Rattle.ts_key.specs.declared.numbers.Ts.{Ts}
use Rattle.ts_key.specs.declared.version.Version.{Version}
use Rattle.udt_model.specs.declared.reply.Piece.{Piece}
use Rattle.udt_model.specs.declared.reply.Reply.TheVariants.{Done, Kept, Table}
use Rattle.udt_model.specs.State.{Compaction, FamilyState, Flush, LiveTable, State, changed_at, family_at, floor_of, form_at, head_with_floor, numbers_of, place_at, place_of_family, with_floor, with_tables}
use Rattle.udt_model.specs.Acts.Act.{compact_end, flush_end, raise}
use Rattle.udt_model.specs.Refusals.{floor_fell, halt, refusal, unknown_family, ◌or_else◌}
use Rattle.udt_model.specs.Jobs.{compaction_kept, flush_kept, flush_taken, numbers_of_pieces, tables_from}
use Rattle.udt_model.specs.Running.{IsCompactionRight, IsFlushRight}
use Rattle.udt_model.specs.Steps.{IsCompacted, IsFlushed, IsReplyTo, IsTold, after, compacted, flushed, with_compaction, with_flush}
use Rattle.udt_model.specs.Crashes.{Course}
use Rattle.manifest_edit.specs.declared.edit.TableAt.{TableAt}
use Rattle.manifest_edit.specs.declared.edit.FamilyEdit.{FamilyEdit}
use Rattle.manifest_edit.specs.declared.edit.Edit.{Edit}
use Rattle.manifest_edit.specs.LiveTables.{has_table_number, place_tables, without_tables}
use Rattle.manifest_fold.specs.declared.fold.FamilyFold.{FamilyFold}
use Rattle.manifest_fold.specs.declared.limits.TheConstants.{FILE_NUMBER_LIMIT, LOWEST_LEVEL}
use Rattle.manifest_fold.specs.Folds.{IsFreeNumber, IsLogsEdit, IsPart, family_with, families_with, is_live, newest_log}
use Rattle.floor_laws.specs.Sound.{IsSoundState}
use Rattle.floor_laws.proofs.Members.{In, In-contains, contains_In, All-In, All-from, In-left, In-right, In-filter, filter-In, filter_every, In-map, map-In, any-In}
use Rattle.floor_laws.proofs.Kept.{same_number}
use Rattle.floor_laws.proofs.Families.{floor_rises}
use Rattle.floor_laws.proofs.Tables.{numbers-In, sorted_of}
use Rattle.floor_laws.proofs.States.{CompactionHolds, compaction_of, some_same}
use Rattle.floor_laws.proofs.Stepping.{floor_none, new_of}
use Rattle.floor_laws.proofs.Told.{sound_after, told_of}
use Rattle.floor_laws.proofs.Writing.{or_none, refuses_raise, told_other}
use Rattle.engine_laws.specs.Logs.{above, is_above_through, versions_of}
use Rattle.engine_laws.specs.Manifests.{IsLive, table_number}
use Rattle.engine_laws.specs.Standing.{Fits, Says, TableSays, TablesFit, family_said, head_of, live_batches, table_of}
use Rattle.engine_laws.specs.Engine.{AreSameKept, DropsFlushed, HoldsState, MayEdit, with_edit}
use Rattle.engine_laws.specs.Installs.{CoversLogs, IsNextFile, MayDrop, compact_edit, flush_edit, raise_edit, roll_edit}
use Rattle.engine_laws.proofs.Places.{In-get, get-map, map-get}
use Rattle.engine_laws.proofs.Ascending.{newest_of, rising_sorted, sorted_rising}
use Rattle.engine_laws.proofs.Placing.{map-placed, map-without}
use Rattle.engine_laws.proofs.Batches.{batches_from}
use Rattle.engine_laws.proofs.Folding.{families_part, family_back, family_from, live_known, table_from}
use Rattle.engine_laws.proofs.Resting.{durable_is, whole_last}
use Rattle.engine_laws.proofs.Editing.{above_from, above_higher}

-- ---- the families that an edit leads to

said_changed : (tables : ℕ → TableSays) (fs : List FamilyFold) (n : ℕ) (old new : FamilyFold) (change : FamilyState → FamilyState) → slice_get fs n ≡ Some old → family_said tables new ≡ change (family_said tables old) → map (family_said tables) (slice_set fs n new) ≡ changed_at n change (map (family_said tables) fs)
said_changed tables [] n old new change there is = absurd (cc)
said_changed tables (f ∷ fs) zero old new change there is = ap (λ z. z ∷ map (family_said tables) fs) (is ∙ ap (λ z. change (family_said tables z)) (sym (some_same f old there)))
said_changed tables (f ∷ fs) (suc n) old new change there is = ap (λ z. family_said tables f ∷ z) (said_changed tables fs n old new change there is)

module _ (m : State) (c : Course) (s : Says) (h : HoldsState m c s []) where
  -- a family of the manifest is one of the state
  pub family_is : (i : Family) (old : FamilyFold) → slice_get s.fold.families i.0 ≡ Some old → family_at m i ≡ Some (family_said s.tables old)
  family_is i old there = subst (λ z. slice_get z i.0 ≡ Some (family_said s.tables old)) (sym h.families) (map-get (family_said s.tables) s.fold.families i.0 old there)

  -- an edit of one family leads to the state in which it is changed so
  changed_families : (e : FamilyEdit) (old : FamilyFold) (change : FamilyState → FamilyState) → slice_get s.fold.families e.family.0 ≡ Some old → family_said s.tables (family_with old e) ≡ change (family_said s.tables old)
      → changed_at e.family.0 change m.families ≡ map (family_said s.tables) (families_with s.fold.families (Some e))
  changed_families e old change there is =
      ap (changed_at e.family.0 change) h.families
      ∙ sym (said_changed s.tables s.fold.families e.family.0 old (family_with old e) change there is)
      ∙ ap (map (family_said s.tables)) (sym (families_part s.fold.families e old there))

  -- each table that is live with the edit fits
  fits_with : (edit : Edit) (e : FamilyEdit) (old : FamilyFold) → edit.family ≡ Some e → IsPart s.fold.families edit (Some e) → slice_get s.fold.families e.family.0 ≡ Some old
      → ((t : TableAt) → In t e.add → Fits e.family (family_with old e) (s.tables t.number)) → TablesFit (with_edit s edit)
  fits_with edit e old is part there new i f t l =
      let fam : slice_get (families_with s.fold.families (Some e)) i.0 ≡ Some f = subst (λ z. slice_get (families_with s.fold.families z) i.0 ≡ Some f) is l.family in
      elim (table_from s.fold edit e old i f t there fam (contains_In f.tables t l.table)) [
        | inl x ↦
            let b = family_back s.fold edit (Some e) i.0 f part fam in
            let o : Fits i b.0 (s.tables t.number) = subst (λ z. Fits i z (s.tables t.number)) (some_same x.0 b.0 (sym x.1.family ∙ b.1)) (h.fits i x.0 t x.1) in
            record { family = o.family; form = o.form ∙ sym b.2.form; collected = let k = o.collected in let u = b.2.floor in omega (arith, k, u) }
        | inr x ↦ elim (family_from s.fold edit e old i.0 f there fam) [
          | inl a ↦ subst (λ z. Fits z f (s.tables t.number)) (sym (same_number i e.family x.0)) (subst (λ z. Fits e.family z (s.tables t.number)) a.1 (new t x.1))
          | inr a ↦ absurd (a.0 x.0)
        ]
      ]

  -- ---- numbers

  fold_last : s.fold.last.0 ≤ m.last.0
  fold_last = let a = h.behind in let b = whole_last m c s h in let d = durable_is m c s [] h in omega (arith, a, b, d)

  some_log : 1 ≤ length (s.fold.logs ++ [])
  some_log = subst (λ z. 1 ≤ length z) (sym (append-nil s.fold.logs)) h.well.some

  -- no log is added or dropped
  same_logs : (edit : Edit) → edit.add_logs ≡ [] → edit.drop_logs ≡ [] → IsLogsEdit s.fold.logs edit
  same_logs edit add gone = record {
    ascending = subst IsStrictlyIncreasing (sym add) (λ k l. absurd (omega (arith, l)));
    newer = subst (All (λ n. newest_log s.fold.logs < n)) (sym add) (All-nil (λ n. newest_log s.fold.logs < n));
    below = subst (All (λ n. n < edit.next_file)) (sym add) (All-nil (λ n. n < edit.next_file));
    oldest = subst (λ z. z ≡ take (length z) s.fold.logs) (sym gone) refl;
    one = subst (λ z. 1 ≤ length (drop (length z) s.fold.logs ++ edit.add_logs)) (sym gone) (subst (λ z. 1 ≤ length (s.fold.logs ++ z)) (sym add) some_log);
  }

  none_dropped : (edit : Edit) (next : State) → edit.drop_logs ≡ [] → DropsFlushed s edit next
  none_dropped edit next gone n v f i j q = absurd (contains_In [] n (subst (λ z. Contains z n) gone i))

  -- a number that no table has had is none of a live table
  pub fresh_dead : (n : ℕ) → (In n m.used → ⊥) → (i : Family) (f : FamilyFold) (t : TableAt) → IsLive s.fold i f t → t.number ≡ n → ⊥
  fresh_dead n fresh i f t l q =
      let k = (h.sound.families i (family_said s.tables f) (family_is i f l.family)).tables.used in
      fresh (subst (λ z. In z m.used) q (contains_In m.used t.number (All-In (λ (x : LiveTable). Contains m.used x.number) (map (table_of s.tables) f.tables) (table_of s.tables t) k (In-map (table_of s.tables) t f.tables (contains_In f.tables t l.table)))))

  fresh_free : (edit : Edit) (removed : List ℕ) (n : ℕ) → (In n m.used → ⊥) → IsFreeNumber s.fold.families removed n
  fresh_free edit removed n fresh =
      let dead : is_live s.fold.families n ≡ false = false_from_ne_true (is_live s.fold.families n) (λ y.
      let r = live_known s.fold edit s.fold.families n y in
      let k = In-get s.fold.families r.0 r.1 in
      fresh_dead n fresh (record { 0 = k.0 }) r.0 r.2.0 (record { family = k.1; table = In-contains r.0.tables r.2.0 r.2.1 }) r.2.2) in
      or_right (list_any (λ m. m == n) removed) (not (is_live s.fold.families n)) (ap not dead)

-- ---- a raise

-- the floor of a raise that was accepted isn't below that of the family
raise_rises : (m : State) (i : Family) (floor : Ts) (f : FamilyState) → IsTold m (raise i floor) Done → family_at m i ≡ Some f → f.head.floor.0 ≤ floor.0
raise_rises m i floor f told there =
    let r = told_other (refusal m (raise i floor)) Done Done (refuses_raise m i floor) refl told in
    let fell = (or_none (unknown_family m i or_else halt m) (floor_fell floor (place_at m i)) r.0).1 in
    floor_none floor i f (subst (λ z. floor_fell floor (option_map (place_of_family i) z) ≡ None) there fell)

pub raise_may : (m : State) (c : Course) (s : Says) (number : ℕ) (i : Family) (floor : Ts) (old : FamilyFold) (next : ℕ) → HoldsState m c s [] → IsReplyTo m (raise i floor) Done → slice_get s.fold.families i.0 ≡ Some old → IsNextFile m s next → MayEdit m s (raise_edit m.last next i old floor) (after m number (raise i floor) Done)
raise_may m c s number i floor old next h r there file =
    let edit = raise_edit m.last next i old floor in
    let e : FamilyEdit = record { family = i; floor = floor; through = old.through; add = []; remove = [] } in
    let fam = family_is m c s h i old there in
    let told = told_of m (raise i floor) Done r (λ q. absurd (cc)) (λ b. b) in
    let up : old.floor.0 ≤ floor.0 = raise_rises m i floor (family_said s.tables old) told fam in
    let part : IsPart s.fold.families edit (Some e) = (
      old,
      there,
      record {
        floor = up;
        through = omega arith;
        within = (h.sound.families i (family_said s.tables old) fam).tables.through;
        tables = record {
          added = λ k l. absurd (omega (arith, l));
          removed = λ k l. absurd (omega (arith, l));
          levels = All-nil (λ (t : TableAt). t.level ≤ LOWEST_LEVEL);
          below = All-nil (λ (t : TableAt). t.number < next);
          live = All-nil (λ n. IsTrue (has_table_number old.tables n));
          free = All-nil (λ (t : TableAt). IsFreeNumber s.fold.families [] t.number);
        };
      },
    ) in
    let kept : without_tables [] old.tables ≡ old.tables = filter_every (λ (t : TableAt). not (list_any (λ n. t.number == n) [])) old.tables (λ t j. refl) in
    let is : family_said s.tables (family_with old e) ≡ with_floor floor (family_said s.tables old) = ap (λ ts. let f : FamilyState = record { head = head_with_floor floor (head_of old); through = old.through; tables = map (table_of s.tables) ts } in f) kept in
    record {
      leads = record {
        accepted = record { next = file.more; most = file.most; last = fold_last m c s h; within = h.within; logs = same_logs m c s h edit refl refl; part = part };
        last = refl;
        empty = All-nil (λ n. s.logs n ≡ []);
        families = changed_families m c s h e old (with_floor floor) there is;
        versions = refl;
        same_last = refl;
      };
      flushed = none_dropped m c s h edit (after m number (raise i floor) Done) refl;
      fits = fits_with m c s h edit e old refl part there (λ t j. absurd j);
      sound = sound_after m number (raise i floor) Done h.sound r;
    }

-- ---- a roll

pub roll_may : (m next : State) (c : Course) (s : Says) (n : ℕ) → HoldsState m c s [] → s.fold.next_file ≤ n → n + 1 ≤ FILE_NUMBER_LIMIT → s.logs n ≡ [] → AreSameKept m next → IsSoundState next → MayEdit m s (roll_edit m.last n) next
roll_may m next c s n h new most empty k sound =
    let edit = roll_edit m.last n in
    let top = newest_of s.fold.logs h.well.some (rising_sorted s.fold.logs h.well.sorted) in
    let newest : In (newest_log s.fold.logs) s.fold.logs = subst (λ z. In (newest_log s.fold.logs) z) (sym top.is) (In-right (newest_log s.fold.logs) top.older (newest_log s.fold.logs ∷ []) (inl refl)) in
    let low = All-In (λ k. k < s.fold.next_file) s.fold.logs (newest_log s.fold.logs) h.well.logs newest in
    record {
      leads = record {
        accepted = record {
          next = omega (arith, new);
          most = most;
          last = fold_last m c s h;
          within = h.within;
          logs = record {
            ascending = λ j l. absurd (omega (arith, l));
            newer = All-from (λ j. newest_log s.fold.logs < j) (n ∷ []) (λ j i. elim i [ inl q ↦ omega (arith, low, new, q) | inr b ↦ absurd b ]);
            below = All-from (λ j. j < n + 1) (n ∷ []) (λ j i. elim i [ inl q ↦ omega (arith, q) | inr b ↦ absurd b ]);
            oldest = refl;
            one = let a = length-append s.fold.logs (n ∷ []) in omega (arith, a);
          };
          part = tt;
        };
        last = refl;
        empty = All-from (λ j. s.logs j ≡ []) (n ∷ []) (λ j i. elim i [ inl q ↦ subst (λ z. s.logs z ≡ []) q empty | inr b ↦ absurd b ]);
        families = k.families ∙ h.families;
        versions = k.versions;
        same_last = k.last;
      };
      flushed = none_dropped m c s h edit next refl;
      fits = λ i f t l. h.fits i f t (record { family = l.family; table = l.table });
      sound = sound;
    }

-- ---- logs that are dropped

module _ (m : State) (c : Course) (s : Says) (h : HoldsState m c s []) where
  -- the versions above a higher sequence than `through`
  unflushed_higher : (i : Family) (f : FamilyState) (t : ℕ) → family_at m i ≡ Some f → f.through.0 ≤ t → above i t m.versions ≡ above i t (versions_of (live_batches s))
  unflushed_higher i f t q le =
      sym (above_higher i f.through.0 t m.versions le)
      ∙ ap (above i t) (h.unflushed i f q)
      ∙ above_higher i f.through.0 t (versions_of (live_batches s ++ [])) le
      ∙ ap (λ z. above i t (versions_of z)) (append-nil (live_batches s))

  -- logs that the engine's rule lets go have no version above a `through` of the next state
  pub drops_flushed : (next : State) (edit : Edit) (upto : ℕ → ℕ) → next.versions ≡ m.versions
      → ((i : Family) (x : FamilyState) → family_at next i ≡ Some x → (o : FamilyState) × (family_at m i ≡ Some o) × (o.through.0 ≤ x.through.0))
      → CoversLogs s upto edit.drop_logs → MayDrop next upto edit.drop_logs → ((n : ℕ) → In n edit.drop_logs → In n s.fold.logs) → DropsFlushed s edit next
  drops_flushed next edit upto same back covers drops logs n v x j k p =
      let old = back v.family x p in
      elim (drops n v.family x j p) [
        | inl a ↦ let b = covers n v j k in omega (arith, a, b)
        | inr a ↦ elim (cases_lt x.through.0 v.seq.0) [
          | inl l ↦
              let there : In v (versions_of (live_batches s)) = batches_from s.logs s.fold.logs n v (logs n (contains_In edit.drop_logs n j)) (contains_In (versions_of (s.logs n)) v k) in
              let up : In v (above v.family x.through.0 (versions_of (live_batches s))) = In-filter (is_above_through v.family x.through.0) v (versions_of (live_batches s)) there (above_from v.family x.through.0 v refl l) in
              absurd (subst (λ z. In v z) (sym (unflushed_higher v.family old.0 x.through.0 old.1 old.2) ∙ ap (above v.family x.through.0) (sym same) ∙ a) up)
          | inr l ↦ l
        ]
      ]

-- ---- an installed flush

module _ (m : State) (c : Course) (s : Says) (number start table kept next : ℕ) (floor : Ts) (job : Flush) (old : FamilyFold) (h : HoldsState m c s []) (runs : m.flush ≡ Some job) (r : IsReplyTo m (flush_end job.family start) (Table table kept floor))
    (there : slice_get s.fold.families job.family.0 ≡ Some old) (says : (s.tables table).versions ≡ flush_kept m job) (fits : Fits job.family (record old { floor = floor }) (s.tables table)) (file : IsNextFile m s next) (below : table < next) where
  abbrev pub flushed_next : State
  flushed_next = after m number (flush_end job.family start) (Table table kept floor)

  abbrev flush_part : FamilyEdit
  flush_part = record { family = job.family; floor = floor; through = job.through; add = record { level = 0; number = table } ∷ []; remove = [] }

  flush_told : IsFlushed m (Some job) table kept floor
  flush_told = subst (λ z. IsFlushed m z table kept floor) runs (told_of m (flush_end job.family start) (Table table kept floor) r (λ q. absurd (cc)) (λ b. b)).1

  flush_fam : family_at m job.family ≡ Some (family_said s.tables old)
  flush_fam = family_is m c s h job.family old there

  flush_fresh : In table m.used → ⊥
  flush_fresh i = (new_of m.used (table ∷ []) flush_told.0).fresh table (inl refl) i

  flush_up : old.floor.0 ≤ floor.0
  flush_up =
      let e : floor.0 ≡ _ = ap (λ (z : Ts). z.0) flush_told.2 in
      let f : (floor_of (family_at m job.family)).0 ≡ old.floor.0 = ap (λ z. (floor_of z).0) flush_fam in
      let l = floor_rises (form_at m job.family) (floor_of (family_at m job.family)) (flush_taken m job) in
      omega (arith, e, f, l)

  flush_right : (f : FamilyState) × (family_at m job.family ≡ Some f) × (f.through.0 ≤ job.through.0) × (job.through.0 ≤ m.last.0)
  flush_right = let k : IsFlushRight m (Some job) = subst (IsFlushRight m) runs h.sound.jobs.flush in (k.0, k.1, k.2.from, k.2.to)

  flush_through : old.through.0 ≤ job.through.0
  flush_through =
      let k = flush_right in
      let e : k.0 ≡ family_said s.tables old = some_same k.0 (family_said s.tables old) (sym k.1 ∙ flush_fam) in
      subst (λ (z : FamilyState). z.through.0 ≤ job.through.0) e k.2

  flush_kept_tables : without_tables [] old.tables ≡ old.tables
  flush_kept_tables = filter_every (λ (t : TableAt). not (list_any (λ n. t.number == n) [])) old.tables (λ t j. refl)

  flush_apart : (u t : TableAt) → In u flush_part.add → In t old.tables → u.number ≡ t.number → ⊥
  flush_apart u t i j e = elim i [
    | inl q ↦ fresh_dead m c s h table flush_fresh job.family old t (record { family = there; table = In-contains old.tables t j }) (sym (ap table_number q ∙ e))
    | inr b ↦ absurd b
  ]

  flush_family : family_said s.tables (family_with old flush_part) ≡ flushed (record { number = table; level = 0; versions = flush_kept m job }) job.through floor (family_said s.tables old)
  flush_family =
      ap (λ ts. let f : FamilyState = record { head = head_with_floor floor (head_of old); through = job.through; tables = ts } in f)
      (ap (λ z. map (table_of s.tables) (place_tables flush_part.add z)) flush_kept_tables
      ∙ map-placed s.tables flush_part.add old.tables ((λ k i. absurd i), tt) flush_apart
      ∙ ap (λ z. let t : LiveTable = record { number = table; level = 0; versions = z } in with_tables (t ∷ []) (map (table_of s.tables) old.tables)) says)

  flush_families : flushed_next.families ≡ map (family_said s.tables) (families_with s.fold.families (Some flush_part))
  flush_families =
      ap (λ z. (with_flush m z table floor).families) runs
      ∙ changed_families m c s h flush_part old (flushed (record { number = table; level = 0; versions = flush_kept m job }) job.through floor) there flush_family

  flush_versions : flushed_next.versions ≡ m.versions
  flush_versions = ap (λ z. (with_flush m z table floor).versions) runs

  pub flush_may : (gone rest : List ℕ) (upto : ℕ → ℕ) → s.fold.logs ≡ gone ++ rest → 1 ≤ length rest → CoversLogs s upto gone → MayDrop flushed_next upto gone
      → MayEdit m s (flush_edit m.last next gone job.family floor job.through table) flushed_next
  flush_may gone rest upto logs some covers drops =
      let edit = flush_edit m.last next gone job.family floor job.through table in
      let e = flush_part in
      let rest_is : drop (length gone) s.fold.logs ≡ rest = ap (drop (length gone)) logs ∙ drop-append_seam gone rest in
      let part : IsPart s.fold.families edit (Some e) = (
        old,
        there,
        record {
          floor = flush_up;
          through = flush_through;
          within = flush_right.3;
          tables = record {
            added = λ k l. absurd (omega (arith, l));
            removed = λ k l. absurd (omega (arith, l));
            levels = All-from (λ (t : TableAt). t.level ≤ LOWEST_LEVEL) e.add (λ t i. elim i [ inl q ↦ let l : 0 ≡ t.level = ap (λ (z : TableAt). z.level) q in omega (arith, l) | inr b ↦ absurd b ]);
            below = All-from (λ (t : TableAt). t.number < next) e.add (λ t i. elim i [ inl q ↦ let l : table ≡ t.number = ap table_number q in omega (arith, l, below) | inr b ↦ absurd b ]);
            live = All-nil (λ n. IsTrue (has_table_number old.tables n));
            free = All-from (λ (t : TableAt). IsFreeNumber s.fold.families [] t.number) e.add (λ t i. elim i [ inl q ↦ subst (IsFreeNumber s.fold.families []) (ap table_number q) (fresh_free m c s h edit [] table flush_fresh) | inr b ↦ absurd b ]);
          };
        },
      ) in
      record {
        leads = record {
          accepted = record {
            next = file.more;
            most = file.most;
            last = fold_last m c s h;
            within = h.within;
            logs = record {
              ascending = λ k l. absurd (omega (arith, l));
              newer = All-nil (λ n. newest_log s.fold.logs < n);
              below = All-nil (λ n. n < next);
              oldest = sym (ap (take (length gone)) logs ∙ take-append_seam gone rest);
              one = subst (λ z. 1 ≤ length z) (sym (append-nil (drop (length gone) s.fold.logs) ∙ rest_is)) some;
            };
            part = part;
          };
          last = refl;
          empty = All-nil (λ n. s.logs n ≡ []);
          families = flush_families;
          versions = flush_versions;
          same_last = ap (λ z. (with_flush m z table floor).last) runs;
        };
        flushed = drops_flushed m c s h flushed_next edit upto flush_versions
            (λ i x q.
            let a = get-map (family_said s.tables) (families_with s.fold.families (Some e)) i.0 x (subst (λ z. slice_get z i.0 ≡ Some x) flush_families q) in
            let b = family_back s.fold edit (Some e) i.0 a.0 part a.1 in
            (family_said s.tables b.0, family_is m c s h i b.0 b.1, subst (λ (z : FamilyState). b.0.through.0 ≤ z.through.0) a.2 b.2.through))
            covers drops (λ n i. subst (λ z. In n z) (sym logs) (In-left n gone rest i));
        fits = fits_with m c s h edit e old refl part there (λ t i. elim i [ inl q ↦ subst (λ (z : TableAt). Fits job.family (family_with old e) (s.tables z.number)) q (record { family = fits.family; form = fits.form; collected = fits.collected }) | inr b ↦ absurd b ]);
        sound = sound_after m number (flush_end job.family start) (Table table kept floor) h.sound r;
      }

-- ---- an installed compaction

from_level : (level : ℕ) (vs : List Version) (ps : List Piece) (t : LiveTable) → In t (tables_from level vs ps) → t.level ≡ level
from_level level vs [] t i = absurd i
from_level level vs (p ∷ ps) t (inl q) = sym (ap (λ (z : LiveTable). z.level) q)
from_level level vs (p ∷ ps) t (inr i) = from_level level (drop p.count vs) ps t i

from_numbers : (level : ℕ) (vs : List Version) (ps : List Piece) → numbers_of (tables_from level vs ps) ≡ numbers_of_pieces ps
from_numbers level vs [] = refl
from_numbers level vs (p ∷ ps) = ap (λ z. p.table ∷ z) (from_numbers level (drop p.count vs) ps)

module _ (m : State) (c : Course) (s : Says) (number start kept next : ℕ) (pieces : List Piece) (job : Compaction) (old : FamilyFold) (add : List TableAt) (h : HoldsState m c s []) (runs : m.compaction ≡ Some job) (r : IsReplyTo m (compact_end job.family start) (Kept kept pieces))
    (there : slice_get s.fold.families job.family.0 ≡ Some old) (says : map (table_of s.tables) add ≡ tables_from job.level (compaction_kept m job) pieces) (fits : All (λ (t : TableAt). Fits job.family old (s.tables t.number)) add)
    (ascends : IsStrictlyIncreasing (map table_number add)) (file : IsNextFile m s next) (below : All (λ (t : TableAt). t.number < next) add) where
  abbrev pub compacted_next : State
  compacted_next = after m number (compact_end job.family start) (Kept kept pieces)

  abbrev compact_part : FamilyEdit
  compact_part = record { family = job.family; floor = old.floor; through = old.through; add = add; remove = job.inputs }

  compact_fam : family_at m job.family ≡ Some (family_said s.tables old)
  compact_fam = family_is m c s h job.family old there

  compact_told : IsCompacted m (Some job) kept pieces
  compact_told = subst (λ z. IsCompacted m z kept pieces) runs (told_of m (compact_end job.family start) (Kept kept pieces) r (λ q. absurd (cc)) (λ b. b)).1

  compact_fresh : (t : TableAt) → In t add → In t.number m.used → ⊥
  compact_fresh t i j =
      let a : In t.number (numbers_of (map (table_of s.tables) add)) = In-map (λ (z : LiveTable). z.number) (table_of s.tables t) (map (table_of s.tables) add) (In-map (table_of s.tables) t add i) in
      let b : In t.number (numbers_of_pieces pieces) = subst (λ z. In t.number z) (ap numbers_of says ∙ from_numbers job.level (compaction_kept m job) pieces) a in
      (new_of m.used (numbers_of_pieces pieces) compact_told.0).fresh t.number b j

  compact_right : CompactionHolds job old.floor (map (table_of s.tables) old.tables) m.last.0 m.snaps
  compact_right =
      let k : IsCompactionRight m (Some job) = subst (IsCompactionRight m) runs h.sound.jobs.compaction in
      let e : k.0 ≡ family_said s.tables old = some_same k.0 (family_said s.tables old) (sym k.1 ∙ compact_fam) in
      subst (λ (z : FamilyState). CompactionHolds job z.head.floor z.tables m.last.0 m.snaps) e (compaction_of m job k.0 k.1 k.2)

  compact_apart : (u t : TableAt) → In u add → In t (without_tables job.inputs old.tables) → u.number ≡ t.number → ⊥
  compact_apart u t i j e =
      let k = (filter-In (λ (z : TableAt). not (list_any (λ n. z.number == n) job.inputs)) t old.tables j).0 in
      fresh_dead m c s h u.number (compact_fresh u i) job.family old t (record { family = there; table = In-contains old.tables t k }) (sym e)

  compact_family : family_said s.tables (family_with old compact_part) ≡ compacted job.inputs (tables_from job.level (compaction_kept m job) pieces) (family_said s.tables old)
  compact_family =
      ap (λ ts. let f : FamilyState = record { head = head_of old; through = old.through; tables = ts } in f)
      (map-placed s.tables add (without_tables job.inputs old.tables) (rising_sorted (map table_number add) ascends) compact_apart
      ∙ ap (λ z. with_tables z (map (table_of s.tables) (without_tables job.inputs old.tables))) says
      ∙ ap (with_tables (tables_from job.level (compaction_kept m job) pieces)) (map-without s.tables job.inputs old.tables))

  pub compact_may : MayEdit m s (compact_edit m.last next job.family old add job.inputs) compacted_next
  compact_may =
      let edit = compact_edit m.last next job.family old add job.inputs in
      let e = compact_part in
      let k = compact_right in
      let part : IsPart s.fold.families edit (Some e) = (
        old,
        there,
        record {
          floor = omega arith;
          through = omega arith;
          within = (h.sound.families job.family (family_said s.tables old) compact_fam).tables.through;
          tables = record {
            added = ascends;
            removed = sorted_rising job.inputs (sorted_of job.inputs k.ascending);
            levels = All-from (λ (t : TableAt). t.level ≤ LOWEST_LEVEL) add (λ t i.
                let l = from_level job.level (compaction_kept m job) pieces (table_of s.tables t) (subst (λ z. In (table_of s.tables t) z) says (In-map (table_of s.tables) t add i)) in
                let u = k.below in
                omega (arith, l, u));
            below = below;
            live = All-from (λ n. IsTrue (has_table_number old.tables n)) job.inputs (λ n i.
                let x = numbers-In n (map (table_of s.tables) old.tables) (k.live n i) in
                let y = map-In (table_of s.tables) x.0 old.tables x.1 in
                any-In (λ (t : TableAt). t.number == n) y.0 old.tables y.1 (eq-eqb y.0.number n (ap (λ (z : LiveTable). z.number) y.2 ∙ x.2)));
            free = All-from (λ (t : TableAt). IsFreeNumber s.fold.families job.inputs t.number) add (λ t i. fresh_free m c s h edit job.inputs t.number (compact_fresh t i));
          };
        },
      ) in
      record {
        leads = record {
          accepted = record { next = file.more; most = file.most; last = fold_last m c s h; within = h.within; logs = same_logs m c s h edit refl refl; part = part };
          last = refl;
          empty = All-nil (λ n. s.logs n ≡ []);
          families = ap (λ z. (with_compaction m z pieces).families) runs ∙ changed_families m c s h e old (compacted job.inputs (tables_from job.level (compaction_kept m job) pieces)) there compact_family;
          versions = ap (λ z. (with_compaction m z pieces).versions) runs;
          same_last = ap (λ z. (with_compaction m z pieces).last) runs;
        };
        flushed = none_dropped m c s h edit compacted_next refl;
        fits = fits_with m c s h edit e old refl part there (λ t i. let f = All-In (λ (z : TableAt). Fits job.family old (s.tables z.number)) add t fits i in record { family = f.family; form = f.form; collected = f.collected });
        sound = sound_after m number (compact_end job.family start) (Kept kept pieces) h.sound r;
      }
