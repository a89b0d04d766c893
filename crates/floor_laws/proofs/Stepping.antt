-- Each step of the model keeps what holds of a state.
use Rattle.std.proofs.Common.{◌≡◌, ◌⊎◌, ℕ, ◌+◌, ◌<◌, ◌≤◌, ◌&&◌, ◌||◌, Bool, true, false, not, List, [], ◌∷◌, ◌++◌, length, Option, Some, None, refl, sym, ap, ◌∙◌, arith, inl, inr, subst}
use Rattle.std.specs.Prelude.{slice_get, nat_lt, nat_le, ◌==◌}
use Rattle.std.specs.List.{filter, list_all}
use Rattle.std.proofs.lemmas.Bool.{cases_Bool, cases_eq, false≢true, and_parts, or_left, ltb-true, lt-ltb, ltb-false, leb-true, not-true, le-ltb, and_left}
use Rattle.ts_key.specs.declared.batch.WriteOp.{WriteOp}
use Rattle.ts_key.specs.declared.numbers.Family.{Family}
use Rattle.ts_key.specs.declared.numbers.Ts.{Ts}
use Rattle.ts_key.specs.declared.numbers.Seq.{Seq}
use Rattle.ts_key.specs.declared.version.Version.{Version}
use Rattle.udt_model.specs.declared.reply.Piece.{Piece}
use Rattle.udt_model.specs.declared.reply.KeySpan.{KeySpan}
use Rattle.udt_model.specs.declared.reply.Reply.{Reply}
use Rattle.udt_model.specs.declared.reply.Reply.TheVariants.{Floor}
use Rattle.udt_model.specs.Versions.{AreWritten, between, made}
use Rattle.udt_model.specs.Orders.{is_in_some, meets, span_of}
use Rattle.udt_model.specs.Collecting.{collect, collect_all, seen_of, without_useless}
use Rattle.udt_model.specs.State.{State, FamilyState, LiveTable, Snap, Flush, Compaction, changed_at, family_at, floor_at, floor_of, numbers_of, place_of_family, seqs_of, tables_of, tables_of_family, with_family, with_floor, form_at, form_of, through_of, with_table}
use Rattle.udt_model.specs.Acts.Act.{write}
use Rattle.udt_model.specs.Refusals.{floor_fell, refusal}
use Rattle.udt_model.specs.Jobs.{IsClosed, are_new, are_parts, compaction_kept, deeper_of, flush_floor, flush_kept, floor_over, has_number, hull_of, in_form, inputs_hold, is_ascending, is_input, is_wanted, numbers_of_pieces, spans_of, tables_from, flush_taken}
use Rattle.udt_model.specs.Steps.{flushed, compacted}
use Rattle.floor_laws.specs.Tables.{contents}
use Rattle.floor_laws.proofs.Members.{In, In-left, In-right, In-append, In-filter, filter-In, In-map, map-In, all-In}
use Rattle.floor_laws.proofs.Kept.{same_number}
use Rattle.floor_laws.proofs.Sorting.{ordered_stored}
use Rattle.floor_laws.proofs.Tables.{ins, outs, ins-below, has-In, In-has, number_in, numbers-In, with_table-In, In-with_table, with_tables-In, filter_with_table, Ordered, Once, sorted_from}
use Rattle.floor_laws.proofs.Pieces.{Cut, cut_is, numbers_are}
use Rattle.floor_laws.proofs.Plans.{deeper_in, closed_outside, closed_clear}
use Rattle.floor_laws.proofs.Families.{FamilyHolds, tables_below, family_raise, family_snaps, family_flush, family_compact, new_above, floor_rises}
use Rattle.floor_laws.proofs.States.{some_same, at_changed, changed_same, changed_other, length-changed, Written, written_of, Used, FamilyIs, SinceHolds, FlushHolds, CompactionHolds, FlushIs, CompactionIs, Holds}
use Rattle.floor_laws.proofs.Writing.{write_all, not_refused}

-- ---- what a step does to a family

forward : (fs : List FamilyState) (n : ℕ) (change : FamilyState → FamilyState) (k : ℕ) (f : FamilyState) → slice_get fs k ≡ Some f → (g : FamilyState) × (slice_get (changed_at n change fs) k ≡ Some g) × (((k ≡ n) × (change f ≡ g)) ⊎ (f ≡ g))
forward fs n change k f h = elim (cases_eq k n) [
  | inl e ↦ (change f, ap (slice_get (changed_at n change fs)) e ∙ changed_same fs n change f (ap (slice_get fs) (sym e) ∙ h), inl (e, refl))
  | inr ne ↦ (f, changed_other fs n change k ne ∙ h, inr refl)
]

-- the family goes on with its `through`, at no lower floor
pub record GoesOn (f g : FamilyState) : Type 0 where
  pub through : g.through.0 ≡ f.through.0
  pub floor : f.head.floor.0 ≤ g.head.floor.0

goes_itself : (f : FamilyState) → GoesOn f f
goes_itself f = record { through = refl; floor = omega arith }

abbrev AllGoOn : State → State → Type 0
AllGoOn m m2 = (i : Family) (f : FamilyState) → family_at m i ≡ Some f → (g : FamilyState) × (family_at m2 i ≡ Some g) × GoesOn f g

abbrev SnapsGoOn : State → State → Type 0
SnapsGoOn m m2 = (s : Snap) → In s m2.snaps → In s m.snaps ⊎ (m.last.0 ≤ s.seq.0)

since_goes : (seqs : List Seq) (start : ℕ) (m m2 : State) → start ≤ m.last.0 → SnapsGoOn m m2 → SinceHolds seqs start m.snaps → SinceHolds seqs start m2.snaps
since_goes seqs start m m2 le snaps h = λ s i. elim (snaps s i) [ inl j ↦ h s j | inr l ↦ inr (omega (arith, le, l)) ]

flush_goes : (m m2 : State) (o : Option Flush) → AllGoOn m m2 → m.last.0 ≤ m2.last.0 → SnapsGoOn m m2 → FlushIs m o → FlushIs m2 o
flush_goes m m2 None all le snaps h = tt
flush_goes m m2 (Some job) all le snaps h =
    let g = all job.family h.0 h.1 in
    let r = h.2 in
    let x1 = r.from in let x2 = r.to in let x3 = r.floor in
    let y1 = g.2.through in let y2 = g.2.floor in (
      g.0,
      g.1,
      record {
        from = omega (arith, x1, y1);
        to = omega (arith, x2, le);
        floor = omega (arith, x3, y2);
        since = since_goes job.seqs job.through.0 m m2 x2 snaps r.since;
      },
    )

abbrev TablesGoOn : State → State → Type 0
TablesGoOn m m2 = (job : Compaction) (f : FamilyState) → family_at m job.family ≡ Some f → CompactionHolds job f.head.floor f.tables m.last.0 m.snaps → (g : FamilyState) × (family_at m2 job.family ≡ Some g) × (f.head.floor.0 ≤ g.head.floor.0) × CompactionHolds job f.head.floor g.tables m.last.0 m.snaps

compaction_goes : (m m2 : State) (o : Option Compaction) → TablesGoOn m m2 → m.last.0 ≤ m2.last.0 → SnapsGoOn m m2 → CompactionIs m o → CompactionIs m2 o
compaction_goes m m2 None all le snaps h = tt
compaction_goes m m2 (Some job) all le snaps h =
    let g = all job h.0 h.1 h.2 in
    let r = g.3 in
    let x2 = r.to in let x3 = r.floor in
    let y2 = g.2 in (
      g.0,
      g.1,
      record {
        some = r.some;
        ascending = r.ascending;
        live = r.live;
        above = r.above;
        below = r.below;
        old = r.old;
        outside = r.outside;
        clear = r.clear;
        deeper = r.deeper;
        to = omega (arith, x2, le);
        floor = omega (arith, x3, y2);
        since = since_goes job.seqs job.last.0 m m2 x2 snaps r.since;
      },
    )

same_tables : (m : State) → TablesGoOn m m
same_tables m job f at h = (f, at, omega arith, h)

-- ---- a write

pub step_write : (m : State) (ops : List WriteOp) (sync : Bool) → refusal m (write ops sync) ≡ None → Holds m → Holds (record m { versions = m.versions ++ made m.last.0 ops; last = record { 0 = m.last.0 + length ops } })
step_write m ops sync ok h =
    let m2 : State = record m { versions = m.versions ++ made m.last.0 ops; last = record { 0 = m.last.0 + length ops } } in
    let r = write_all m m.versions m.last.0 1 ops (not_refused m ops sync ok) h.written h.families in
    record {
      written = r.0;
      families = r.1;
      used = h.used;
      flush = flush_goes m m2 m.flush (λ i f at. (f, at, goes_itself f)) (omega arith) (λ s i. inl i) h.flush;
      compaction = compaction_goes m m2 m.compaction (λ job f at k. (f, at, omega arith, k)) (omega arith) (λ s i. inl i) h.compaction;
    }

-- ---- a raise

pub floor_none : (asked : Ts) (i : Family) (f : FamilyState) → floor_fell asked (Some (place_of_family i f)) ≡ None → f.head.floor.0 ≤ asked.0
floor_none asked i f h = elim (cases_Bool (nat_lt asked.0 f.head.floor.0)) [
  | inl y ↦ let h2 : ◌≡◌ {A = Option Reply} (Some (Floor f.head.floor)) None = rw y at h in absurd (cc)
  | inr y ↦ ltb-false asked.0 f.head.floor.0 y
]

pub step_raise : (m : State) (i : Family) (f : FamilyState) (floor : Ts) → family_at m i ≡ Some f → f.head.floor.0 ≤ floor.0 → Holds m → Holds (with_family m i (with_floor floor))
step_raise m i f floor at le h =
    let m2 : State = with_family m i (with_floor floor) in
    record {
      written = subst (λ z. AreWritten z m.last.0 m.versions) (sym (length-changed m.families i.0 (with_floor floor))) h.written;
      families = λ k g q. elim (at_changed m.families i.0 (with_floor floor) k.0 g q) [
        | inl a ↦
            let x = a.1 in
            let e : x.0 ≡ f = some_same x.0 f (sym x.1 ∙ ap (slice_get m.families) a.0 ∙ at) in
            let l : x.0.head.floor.0 ≤ floor.0 = subst (λ (z : FamilyState). z.head.floor.0 ≤ floor.0) (sym e) le in
            let r = h.families k x.0 x.1 in
            subst (λ (z : FamilyState). FamilyIs m k z) x.2 (family_raise k x.0.head.form x.0.head.floor floor x.0.through.0 x.0.tables m.versions m.last.0 (seqs_of m) l r)
        | inr a ↦ h.families k g a.1
      ];
      used = λ k g q. elim (at_changed m.families i.0 (with_floor floor) k.0 g q) [
        | inl a ↦ let x = a.1 in subst (λ (z : FamilyState). Used m.used z.tables) x.2 (h.used k x.0 x.1)
        | inr a ↦ h.used k g a.1
      ];
      flush = flush_goes m m2 m.flush (λ k g q.
          let x = forward m.families i.0 (with_floor floor) k.0 g q in (
            x.0,
            x.1,
            elim x.2 [
              | inl a ↦
                  let e : g ≡ f = some_same g f (sym q ∙ ap (slice_get m.families) a.0 ∙ at) in
                  let l : g.head.floor.0 ≤ floor.0 = subst (λ (z : FamilyState). z.head.floor.0 ≤ floor.0) (sym e) le in
                  subst (λ z. GoesOn g z) a.1 (record { through = refl; floor = l })
              | inr a ↦ subst (λ z. GoesOn g z) a (goes_itself g)
            ],
          )) (omega arith) (λ s j. inl j) h.flush;
      compaction = compaction_goes m m2 m.compaction (λ job g q k.
          let x = forward m.families i.0 (with_floor floor) job.family.0 g q in
          let e : (g.head.floor.0 ≤ x.0.head.floor.0) × (g.tables ≡ x.0.tables) = elim x.2 [
            | inl a ↦
                let e : g ≡ f = some_same g f (sym q ∙ ap (slice_get m.families) a.0 ∙ at) in
                let l : g.head.floor.0 ≤ floor.0 = subst (λ (z : FamilyState). z.head.floor.0 ≤ floor.0) (sym e) le in
                (subst (λ (z : FamilyState). g.head.floor.0 ≤ z.head.floor.0) a.1 l, ap (λ (z : FamilyState). z.tables) a.1)
            | inr a ↦ (subst (λ (z : FamilyState). g.head.floor.0 ≤ z.head.floor.0) a (omega arith), ap (λ (z : FamilyState). z.tables) a)
          ] in
          (x.0, x.1, e.0, subst (λ z. CompactionHolds job g.head.floor z m.last.0 m.snaps) e.1 k)) (omega arith) (λ s j. inl j) h.compaction;
    }

-- ---- snapshots

pub step_snaps : (m : State) (snaps : List Snap) → ((s : Snap) → In s snaps → In s m.snaps ⊎ (s.seq ≡ m.last)) → Holds m → Holds (record m { snaps = snaps })
step_snaps m snaps sub h =
    let m2 : State = record m { snaps = snaps } in
    let wr = written_of (length m.families) m.last.0 m.versions h.written in
    let goes : SnapsGoOn m m2 = λ s i. elim (sub s i) [ inl j ↦ inl j | inr e ↦ inr (let q : s.seq.0 ≡ m.last.0 = ap (λ (z : Seq). z.0) e in omega (arith, q)) ] in
    record {
      written = h.written;
      families = λ i f at. family_snaps i f.head.form f.head.floor f.through.0 f.tables m.versions m.last.0 (seqs_of m) (seqs_of m2) (λ s j.
          let x = map-In (λ (z : Snap). z.seq) s snaps j in
          elim (sub x.0 x.1) [
            | inl y ↦ inr (subst (λ z. In z (seqs_of m)) x.2 (In-map (λ (z : Snap). z.seq) x.0 m.snaps y))
            | inr y ↦ inl (λ v z. let l = wr.bounded v z in let e : m.last.0 ≡ s.0 = ap (λ (u : Seq). u.0) (sym y ∙ x.2) in omega (arith, l, e))
          ]) (h.families i f at);
      used = h.used;
      flush = flush_goes m m2 m.flush (λ i f at. (f, at, goes_itself f)) (omega arith) goes h.flush;
      compaction = compaction_goes m m2 m.compaction (λ job f at k. (f, at, omega arith, k)) (omega arith) goes h.compaction;
    }

pub step_snapshot : (m : State) (number : ℕ) → Holds m → Holds (record m { snaps = m.snaps ++ record { event = number; seq = m.last } ∷ [] })
step_snapshot m number h =
    let new : Snap = record { event = number; seq = m.last } in
    step_snaps m (m.snaps ++ new ∷ []) (λ s i. elim (In-append s m.snaps (new ∷ []) i) [
      | inl j ↦ inl j
      | inr j ↦ elim j [ inl q ↦ inr (sym (ap (λ (z : Snap). z.seq) q)) | inr b ↦ absurd b ]
    ]) h

pub step_release : (m : State) (event : ℕ) → Holds m → Holds (record m { snaps = filter (λ (s : Snap). not (s.event == event)) m.snaps })
step_release m event h = step_snaps m (filter (λ (s : Snap). not (s.event == event)) m.snaps) (λ s i. inl (filter-In (λ (z : Snap). not (z.event == event)) s m.snaps i).0) h

-- ---- jobs that are dropped, and a halt

pub step_drop_flush : (m : State) → Holds m → Holds (record m { flush = None })
step_drop_flush m h = record { written = h.written; families = h.families; used = h.used; flush = tt; compaction = compaction_goes m (record m { flush = None }) m.compaction (λ job f at k. (f, at, omega arith, k)) (omega arith) (λ s i. inl i) h.compaction }

pub step_drop_compaction : (m : State) → Holds m → Holds (record m { compaction = None })
step_drop_compaction m h = record { written = h.written; families = h.families; used = h.used; flush = flush_goes m (record m { compaction = None }) m.flush (λ i f at. (f, at, goes_itself f)) (omega arith) (λ s i. inl i) h.flush; compaction = tt }

pub step_halt : (m : State) (halted : Option ℕ) → Holds m → Holds (record m { halted = halted })
step_halt m halted h = record {
  written = h.written;
  families = h.families;
  used = h.used;
  flush = flush_goes m (record m { halted = halted }) m.flush (λ i f at. (f, at, goes_itself f)) (omega arith) (λ s i. inl i) h.flush;
  compaction = compaction_goes m (record m { halted = halted }) m.compaction (λ job f at k. (f, at, omega arith, k)) (omega arith) (λ s i. inl i) h.compaction;
}

-- ---- the start of a flush

pub step_flush_start : (m : State) (number : ℕ) (i : Family) (f : FamilyState) → family_at m i ≡ Some f → Holds m → Holds (record m { flush = Some (record { start = number; family = i; through = m.last; floor = floor_at m i; seqs = seqs_of m }) })
step_flush_start m number i f at h =
    let job : Flush = record { start = number; family = i; through = m.last; floor = floor_at m i; seqs = seqs_of m } in
    record {
      written = h.written;
      families = h.families;
      used = h.used;
      flush = (
        f,
        at,
        record {
          from = (h.families i f at).low;
          to = omega arith;
          floor = let e : (floor_at m i).0 ≡ f.head.floor.0 = ap (λ (z : Option FamilyState). (floor_of z).0) at in omega (arith, e);
          since = λ s j. inl (In-map (λ (z : Snap). z.seq) s m.snaps j);
        },
      );
      compaction = compaction_goes m (record m { flush = Some job }) m.compaction (λ job2 g q k. (g, q, omega arith, k)) (omega arith) (λ s j. inl j) h.compaction;
    }

-- ---- the start of a compaction

some_input : (ts : List LiveTable) (inputs : List ℕ) → 0 < length inputs → ((n : ℕ) → In n inputs → In n (numbers_of ts)) → (x : LiveTable) × In x (ins inputs ts)
some_input ts [] h live = absurd (omega arith)
some_input ts (n ∷ ns) h live =
    let r = numbers-In n ts (live n (inl refl)) in
    (r.0, In-filter (is_input (n ∷ ns)) r.0 ts r.1 (In-has (n ∷ ns) r.0.number (inl (sym r.2))))

pub step_compact_start : (m : State) (number : ℕ) (i : Family) (f : FamilyState) (inputs : List ℕ) (level : ℕ) → family_at m i ≡ Some f → IsClosed m i inputs level → Holds m → Holds (record m { compaction = Some (record { start = number; family = i; inputs = inputs; level = level; deeper = deeper_of m i inputs level; last = m.last; floor = floor_at m i; seqs = seqs_of m }) })
step_compact_start m number i f inputs level at closed h =
    let job : Compaction = record { start = number; family = i; inputs = inputs; level = level; deeper = deeper_of m i inputs level; last = m.last; floor = floor_at m i; seqs = seqs_of m } in
    let ts = f.tables in
    let k = h.families i f at in
    let e : tables_of m i ≡ ts = ap tables_of_family at in
    let lv = and_parts (nat_le 1 level) (nat_le level 6) closed.level_is in
    let pos = leb-true 1 level lv.0 in
    let taken_in = subst (λ (z : List LiveTable). list_all (λ t. is_input inputs t || not (is_wanted level (ins inputs z) t)) z ≡ true) e closed.taken_in in
    let live : (n : ℕ) → In n inputs → In n (numbers_of ts) = λ n j. has-In (numbers_of ts) n (all-In (has_number (numbers_of ts)) n inputs (subst (λ (z : List LiveTable). list_all (has_number (numbers_of z)) inputs ≡ true) e closed.live) j) in
    let lt = ltb-true 0 (length inputs) closed.some in
    let x = some_input ts inputs lt live in
    let deep : deeper_of m i inputs level ≡ deeper_in ts inputs level = ap (λ (z : List LiveTable). deeper_in z inputs level) e in
    record {
      written = h.written;
      families = h.families;
      used = h.used;
      flush = flush_goes m (record m { compaction = Some job }) m.flush (λ j g q. (g, q, goes_itself g)) (omega arith) (λ s j. inl j) h.flush;
      compaction = (
        f,
        at,
        record {
          some = omega (arith, lt);
          ascending = closed.ascending;
          live = live;
          above = pos;
          below = leb-true level 6 lv.1;
          old = λ v j. let a = tables_below i f.head.form f.head.floor f.through.0 ts m.versions m.last.0 (seqs_of m) k v (ins-below inputs ts v j) in let b = k.low in omega (arith, a, b);
          outside = λ t j out a b ia ib q. subst (λ (z : List KeySpan). ((t.level < level) × (a.seq.0 < b.seq.0)) ⊎ ((level < t.level) × (b.seq.0 < a.seq.0) × (is_in_some z b.key ≡ true))) (sym deep)
              (closed_outside ts inputs level (omega (arith, pos)) taken_in k.order t j out a b ia ib q);
          clear = λ t j out q. closed_clear ts inputs level taken_in x.0 x.1 t j out q;
          deeper = deep;
          to = omega arith;
          floor = let e2 : (floor_at m i).0 ≡ f.head.floor.0 = ap (λ (z : Option FamilyState). (floor_of z).0) at in omega (arith, e2);
          since = λ s j. inl (In-map (λ (z : Snap). z.seq) s m.snaps j);
        },
      );
    }

-- all tables, to the lowest level
pub all_closed : (m : State) (i : Family) (f : FamilyState) → family_at m i ≡ Some f → Ordered f.tables → (length (tables_of m i) == 0) ≡ false → IsClosed m i (numbers_of (tables_of m i)) 6
all_closed m i f at order some =
    let ts = tables_of m i in
    let e : f.tables ≡ ts = sym (ap tables_of_family at) in
    record {
      some = longer ts some;
      ascending = subst (λ (z : List LiveTable). is_ascending (numbers_of z) ≡ true) e (sorted_from (numbers_of f.tables) order.sorted);
      live = every (has_number (numbers_of ts)) (numbers_of ts) (λ n j. In-has (numbers_of ts) n j);
      level_is = refl;
      taken_in = every (λ t. is_input (numbers_of ts) t || not (is_wanted 6 (ins (numbers_of ts) ts) t)) ts (λ t j. or_left (is_input (numbers_of ts) t) (not (is_wanted 6 (ins (numbers_of ts) ts) t)) (In-has (numbers_of ts) t.number (number_in t ts j)));
    } where
      every : {X : Type 0} (p : X → Bool) (xs : List X) → ((x : X) → In x xs → p x ≡ true) → list_all p xs ≡ true
      every p [] h = refl
      every p (x ∷ xs) h = let a = h x (inl refl) in let b = every p xs (λ y j. h y (inr j)) in rw (a, b) refl

      longer : (ts : List LiveTable) → (length ts == 0) ≡ false → nat_lt 0 (length (numbers_of ts)) ≡ true
      longer [] h = absurd (false≢true (sym h))
      longer (t ∷ ts) h = lt-ltb 0 (length (numbers_of (t ∷ ts))) (omega arith)

-- ---- new numbers

pub record New (used ns : List ℕ) : Type 0 where
  pub fresh : (n : ℕ) → In n ns → In n used → ⊥
  pub once : Once ns

pub new_of : (used ns : List ℕ) → are_new used ns ≡ true → New used ns
new_of used [] h = record { fresh = λ n i j. absurd i; once = tt }
new_of used (n ∷ ns) h =
    let p = and_parts (not (has_number used n)) (are_new (n ∷ used) ns) h in
    let r = new_of (n ∷ used) ns p.1 in
    record {
      fresh = λ k i j. elim i [
        | inl q ↦ false≢true (sym (not-true (has_number used n) p.0) ∙ In-has used n (subst (λ z. In z used) (sym q) j))
        | inr i2 ↦ r.fresh k i2 (inr j)
      ];
      once = ((λ i. r.fresh n i (inl refl)), r.once);
    }

-- ---- the end of a flush

compaction_flush : (job : Compaction) (floor : Ts) (ts : List LiveTable) (last : ℕ) (snaps : List Snap) (n : LiveTable) (through : ℕ) → n.level ≡ 0 → is_input job.inputs n ≡ false → ((v : Version) → In v n.versions → through < v.seq.0) → ((v : Version) → In v (contents ts) → v.seq.0 ≤ through) → CompactionHolds job floor ts last snaps → CompactionHolds job floor (with_table n ts) last snaps
compaction_flush job floor ts last snaps n through flat out new old k =
    let same : ins job.inputs (with_table n ts) ≡ ins job.inputs ts = filter_with_table (is_input job.inputs) n ts out in
    let pos = k.above in
    record {
      some = k.some;
      ascending = k.ascending;
      live = λ m i. let r = numbers-In m ts (k.live m i) in subst (λ z. In z (numbers_of (with_table n ts))) r.2 (number_in r.0 (with_table n ts) (In-with_table n r.0 ts (inr r.1)));
      above = k.above;
      below = k.below;
      old = λ v i. k.old v (subst (λ z. In v (contents z)) same i);
      outside = λ t i no a b ia ib q.
          let ia2 : In a (contents (ins job.inputs ts)) = subst (λ z. In a (contents z)) same ia in
          elim (with_table-In n t ts i) [
            | inl e ↦
                let lx = old a (ins-below job.inputs ts a ia2) in
                let ly = new b (subst (λ (z : LiveTable). In b z.versions) (sym e) ib) in
                let l : n.level ≡ t.level = ap (λ (z : LiveTable). z.level) e in
                inl (omega (arith, pos, l, flat), omega (arith, lx, ly))
            | inr j ↦ k.outside t j no a b ia2 ib q
          ];
      clear = λ t i no q. elim (with_table-In n t ts i) [
        | inl e ↦ let l : n.level ≡ t.level = ap (λ (z : LiveTable). z.level) e in absurd (omega (arith, l, flat, q, pos))
        | inr j ↦ subst (λ z. meets (span_of t.versions) (hull_of z) ≡ false) (sym same) (k.clear t j no q)
      ];
      deeper = k.deeper ∙ ap spans_of (sym (filter_with_table (λ t. nat_lt job.level t.level && not (is_input job.inputs t)) n ts (and_left (nat_lt job.level n.level) (not (is_input job.inputs n)) (le-ltb job.level n.level (omega (arith, flat))))));
      to = k.to;
      floor = k.floor;
      since = k.since;
    }

module _ (m : State) (job : Flush) (f : FamilyState) (number : ℕ) (floor : Ts) (at : family_at m job.family ≡ Some f) (runs : FlushHolds job f m.last.0 m.snaps) (new : New m.used (number ∷ [])) (floor_is : floor ≡ flush_floor m job) (h : Holds m) where
  abbrev w : List Version
  w = m.versions

  abbrev table : LiveTable
  table = record { number = number; level = 0; versions = flush_kept m job }

  abbrev change : FamilyState → FamilyState
  change = flushed table job.through floor

  abbrev next : State
  next = record (with_family m job.family change) { used = m.used ++ number ∷ []; flush = None }

  taken_is : flush_taken m job ≡ between job.family f.through.0 job.through.0 w
  taken_is = ap (λ (z : Option FamilyState). between job.family (through_of z).0 job.through.0 w) at

  form_is : form_at m job.family ≡ f.head.form
  form_is = ap form_of at

  kept_is : flush_kept m job ≡ in_form f.head.form (collect_all (between job.family f.through.0 job.through.0 w) job.floor job.seqs)
  kept_is = ap (λ z. in_form z (collect_all (flush_taken m job) job.floor job.seqs)) form_is ∙ ap (λ z. in_form f.head.form (collect_all z job.floor job.seqs)) taken_is

  new_floor : floor ≡ floor_over f.head.form f.head.floor (between job.family f.through.0 job.through.0 w)
  new_floor = floor_is ∙ ap (λ z. floor_over z (floor_at m job.family) (flush_taken m job)) form_is ∙ ap (λ z. floor_over f.head.form z (flush_taken m job)) (ap floor_of at) ∙ ap (floor_over f.head.form f.head.floor) taken_is

  floor_up : f.head.floor.0 ≤ floor.0
  floor_up = let a = floor_rises f.head.form f.head.floor (between job.family f.through.0 job.through.0 w) in let e : floor.0 ≡ (floor_over f.head.form f.head.floor (between job.family f.through.0 job.through.0 w)).0 = ap (λ (z : Ts). z.0) new_floor in omega (arith, a, e)

  unused : (x : LiveTable) → In x f.tables → x.number ≡ number → ⊥
  unused x i e = new.fresh number (inl refl) (subst (λ z. In z m.used) e (h.used job.family f at x i))

  flush_since : (s : Seq) → In s (seqs_of m) → In s job.seqs ⊎ (job.through.0 ≤ s.0)
  flush_since s i =
      let x = map-In (λ (z : Snap). z.seq) s m.snaps i in
      subst (λ (z : Seq). In z job.seqs ⊎ (job.through.0 ≤ z.0)) x.2 (runs.since x.0 x.1)

  wr : Written w m.last.0
  wr = written_of (length m.families) m.last.0 w h.written

  new_family : FamilyIs m job.family (change f)
  new_family =
      subst (λ z. FamilyHolds job.family f.head.form z job.through.0 (with_table table f.tables) w m.last.0 (seqs_of m)) (sym new_floor)
      (family_flush job.family f.head.form f.head.floor f.through.0 job.through.0 m.last.0 f.tables w (seqs_of m) job.floor job.seqs table (h.families job.family f at) wr.single wr.rising wr.distinct runs.from runs.to runs.floor flush_since refl kept_is unused)

  above : (v : Version) → In v table.versions → f.through.0 < v.seq.0
  above v i = new_above job.family f.head.form f.head.floor f.through.0 job.through.0 m.last.0 f.tables w (seqs_of m) job.floor job.seqs table (h.families job.family f at) wr.single wr.rising wr.distinct runs.from runs.to runs.floor flush_since refl kept_is unused v i

  below : (v : Version) → In v (contents f.tables) → v.seq.0 ≤ f.through.0
  below v i = tables_below job.family f.head.form f.head.floor f.through.0 f.tables w m.last.0 (seqs_of m) (h.families job.family f at) v i

  compaction_keeps : TablesGoOn m next
  compaction_keeps c g q k =
      let x = forward m.families job.family.0 change c.family.0 g q in
      elim x.2 [
        | inl a ↦
            let e : g ≡ f = some_same g f (sym q ∙ ap (slice_get m.families) a.0 ∙ at) in
            let out : is_input c.inputs table ≡ false = elim (cases_Bool (is_input c.inputs table)) [
              | inl y ↦ absurd (let r = numbers-In number g.tables (k.live number (has-In c.inputs number y)) in unused r.0 (subst (λ (z : FamilyState). In r.0 z.tables) e r.1) r.2)
              | inr y ↦ y
            ] in
            let k2 : CompactionHolds c f.head.floor f.tables m.last.0 m.snaps = subst (λ (z : FamilyState). CompactionHolds c z.head.floor z.tables m.last.0 m.snaps) e k in
            let k3 = compaction_flush c f.head.floor f.tables m.last.0 m.snaps table f.through.0 refl out above below k2 in
            let e2 : change f ≡ x.0 = ap change (sym e) ∙ a.1 in (
              x.0,
              x.1,
              subst (λ (z : FamilyState). g.head.floor.0 ≤ z.head.floor.0) e2 (subst (λ (z : FamilyState). z.head.floor.0 ≤ floor.0) (sym e) floor_up),
              subst (λ (z : FamilyState). CompactionHolds c z.head.floor x.0.tables m.last.0 m.snaps) (sym e) (subst (λ (z : FamilyState). CompactionHolds c f.head.floor z.tables m.last.0 m.snaps) e2 k3),
            )
        | inr a ↦ (x.0, x.1, subst (λ (z : FamilyState). g.head.floor.0 ≤ z.head.floor.0) a (omega arith), subst (λ (z : FamilyState). CompactionHolds c g.head.floor z.tables m.last.0 m.snaps) a k)
      ]

  pub step_flush_end : Holds next
  step_flush_end = record {
    written = subst (λ z. AreWritten z m.last.0 w) (sym (length-changed m.families job.family.0 change)) h.written;
    families = λ k g q. elim (at_changed m.families job.family.0 change k.0 g q) [
      | inl a ↦
          let x = a.1 in
          let e : x.0 ≡ f = some_same x.0 f (sym x.1 ∙ ap (slice_get m.families) a.0 ∙ at) in
          let i : job.family ≡ k = same_number job.family k (sym a.0) in
          subst (λ (z : FamilyState). FamilyIs m k z) (ap change (sym e) ∙ x.2) (subst (λ z. FamilyIs m z (change f)) i new_family)
      | inr a ↦ h.families k g a.1
    ];
    used = λ k g q t j. elim (at_changed m.families job.family.0 change k.0 g q) [
      | inl a ↦
          let x = a.1 in
          elim (with_table-In table t x.0.tables (subst (λ (z : FamilyState). In t z.tables) (sym x.2) j)) [
            | inl e ↦ In-right t.number m.used (number ∷ []) (inl (ap (λ (z : LiveTable). z.number) e))
            | inr i ↦ In-left t.number m.used (number ∷ []) (h.used k x.0 x.1 t i)
          ]
      | inr a ↦ In-left t.number m.used (number ∷ []) (h.used k g a.1 t j)
    ];
    flush = tt;
    compaction = compaction_goes m next m.compaction compaction_keeps (omega arith) (λ s i. inl i) h.compaction;
  }

-- ---- the end of a compaction

module _ (m : State) (job : Compaction) (f : FamilyState) (pieces : List Piece) (at : family_at m job.family ≡ Some f) (runs : CompactionHolds job f.head.floor f.tables m.last.0 m.snaps) (new : New m.used (numbers_of_pieces pieces)) (parts : are_parts (compaction_kept m job) pieces ≡ true) (h : Holds m) where
  abbrev result : List Version
  result = compaction_kept m job

  abbrev made_tables : List LiveTable
  made_tables = tables_from job.level result pieces

  abbrev swapped : FamilyState → FamilyState
  swapped = compacted job.inputs made_tables

  abbrev compacted_state : State
  compacted_state = record (with_family m job.family swapped) { used = m.used ++ numbers_of_pieces pieces; compaction = None }

  result_is : result ≡ collect (contents (ins job.inputs f.tables)) job.floor job.seqs job.deeper
  result_is = ap (λ (z : List LiveTable). collect (contents (ins job.inputs z)) job.floor job.seqs job.deeper) (ap tables_of_family at)

  cut : Cut job.level (collect (contents (ins job.inputs f.tables)) job.floor job.seqs job.deeper) made_tables
  cut = subst (λ z. Cut job.level z made_tables) result_is (cut_is job.level result pieces (ordered_stored (without_useless job.floor job.deeper (seen_of (inputs_hold m job) job.floor job.seqs))) parts)

  number_is : (x : LiveTable) → In x made_tables → In x.number (numbers_of_pieces pieces)
  number_is x i = subst (λ z. In x.number z) (numbers_are job.level result pieces) (number_in x made_tables i)

  compact_since : (s : Seq) → In s (seqs_of m) → In s job.seqs ⊎ (job.last.0 ≤ s.0)
  compact_since s i =
      let x = map-In (λ (z : Snap). z.seq) s m.snaps i in
      subst (λ (z : Seq). In z job.seqs ⊎ (job.last.0 ≤ z.0)) x.2 (runs.since x.0 x.1)

  compacted_family : FamilyIs m job.family (swapped f)
  compacted_family =
      family_compact job.family f.head.form f.head.floor f.through.0 f.tables m.versions m.last.0 (seqs_of m) job.level job.inputs job.deeper job.last.0 job.floor job.seqs made_tables
      runs.floor compact_since runs.old runs.outside runs.clear (let l = runs.above in omega (arith, l)) cut
      (λ x y i j e. new.fresh x.number (number_is x i) (subst (λ z. In z m.used) e (h.used job.family f at y j)))
      (subst Once (sym (numbers_are job.level result pieces)) new.once) (h.families job.family f at)

  pub step_compact_end : Holds compacted_state
  step_compact_end = record {
    written = subst (λ z. AreWritten z m.last.0 m.versions) (sym (length-changed m.families job.family.0 swapped)) h.written;
    families = λ k g q. elim (at_changed m.families job.family.0 swapped k.0 g q) [
      | inl a ↦
          let x = a.1 in
          let e : x.0 ≡ f = some_same x.0 f (sym x.1 ∙ ap (slice_get m.families) a.0 ∙ at) in
          let i : job.family ≡ k = same_number job.family k (sym a.0) in
          subst (λ (z : FamilyState). FamilyIs m k z) (ap swapped (sym e) ∙ x.2) (subst (λ z. FamilyIs m z (swapped f)) i compacted_family)
      | inr a ↦ h.families k g a.1
    ];
    used = λ k g q t j. elim (at_changed m.families job.family.0 swapped k.0 g q) [
      | inl a ↦
          let x = a.1 in
          elim (with_tables-In t made_tables (outs job.inputs x.0.tables) (subst (λ (z : FamilyState). In t z.tables) (sym x.2) j)) [
            | inl i ↦ In-right t.number m.used (numbers_of_pieces pieces) (number_is t i)
            | inr i ↦ In-left t.number m.used (numbers_of_pieces pieces) (h.used k x.0 x.1 t (filter-In (λ (z : LiveTable). not (is_input job.inputs z)) t x.0.tables i).0)
          ]
      | inr a ↦ In-left t.number m.used (numbers_of_pieces pieces) (h.used k g a.1 t j)
    ];
    flush = flush_goes m compacted_state m.flush (λ k g q.
        let x = forward m.families job.family.0 swapped k.0 g q in (
          x.0,
          x.1,
          elim x.2 [
            | inl a ↦ subst (λ z. GoesOn g z) a.1 (record { through = refl; floor = omega arith })
            | inr a ↦ subst (λ z. GoesOn g z) a (goes_itself g)
          ],
        )) (omega arith) (λ s i. inl i) h.flush;
    compaction = tt;
  }
