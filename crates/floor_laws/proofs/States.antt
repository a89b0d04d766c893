-- What holds of a state, by what is in its lists.
use Rattle.std.proofs.Common.{◌≡◌, ◌⊎◌, ℕ, zero, suc, ◌≤◌, Bool, true, false, List, [], ◌∷◌, ◌++◌, length, Option, Some, None, refl, sym, ap, ◌∙◌, arith, inl, inr, subst}
use Rattle.std.specs.Prelude.{All, Contains, IsTrue, slice_get, ⊤}
use Rattle.std.specs.List.{list_all}
use Rattle.ts_key.specs.declared.numbers.Family.{Family}
use Rattle.ts_key.specs.declared.numbers.Ts.{Ts}
use Rattle.ts_key.specs.declared.numbers.Seq.{Seq}
use Rattle.ts_key.specs.declared.version.Version.{Version}
use Rattle.udt_model.specs.Versions.{AreWritten, between, up_to}
use Rattle.udt_model.specs.Orders.{meets, span_of}
use Rattle.udt_model.specs.State.{State, FamilyState, LiveTable, Snap, Flush, Compaction, changed_at, family_at, numbers_of, seqs_of, tables_of, tables_of_family}
use Rattle.udt_model.specs.Jobs.{has_number, hull_of, inputs_hold, is_ascending}
use Rattle.udt_model.specs.Running.{IsSince, IsFlushing, IsBeside, IsBesideInputs, IsClear, IsCompacting, IsFlushRight, IsCompactionRight}
use Rattle.floor_laws.specs.Tables.{contents}
use Rattle.floor_laws.specs.Sound.{IsSoundFamily, IsSoundState}
use Rattle.floor_laws.proofs.Members.{In, In-contains, contains_In, All-In, All-from, all-In}
use Rattle.floor_laws.proofs.Best.{Single}
use Rattle.floor_laws.proofs.Counts.{Distinct, pairs_distinct, distinct_single}
use Rattle.floor_laws.proofs.Standing.{Rising}
use Rattle.floor_laws.proofs.Stating.{rising_of, standing_of, stands_from}
use Rattle.floor_laws.proofs.Tables.{ins, has-In, In-has, ordered_of, ordered_from}
use Rattle.floor_laws.proofs.Plans.{deeper_in}
use Rattle.floor_laws.proofs.Families.{FamilyHolds, Outside, Clear}

-- ---- families by number

pub some_same : {X : Type 0} (x y : X) → Some x ≡ Some y → x ≡ y
some_same x y h = cc

pub at_changed : (fs : List FamilyState) (n : ℕ) (change : FamilyState → FamilyState) (k : ℕ) (g : FamilyState) → slice_get (changed_at n change fs) k ≡ Some g → ((k ≡ n) × ((f : FamilyState) × (slice_get fs k ≡ Some f) × (change f ≡ g))) ⊎ ((k ≡ n → ⊥) × (slice_get fs k ≡ Some g))
at_changed [] n change k g h = absurd (cc)
at_changed (f ∷ fs) zero change zero g h = inl (refl, (f, refl, some_same (change f) g h))
at_changed (f ∷ fs) zero change (suc k) g h = inr ((λ q. omega arith), h)
at_changed (f ∷ fs) (suc n) change zero g h = inr ((λ q. omega arith), h)
at_changed (f ∷ fs) (suc n) change (suc k) g h = elim (at_changed fs n change k g h) [ inl a ↦ inl (ap suc a.0, a.1) | inr a ↦ inr ((λ q. a.0 (omega arith)), a.1) ]

pub changed_same : (fs : List FamilyState) (n : ℕ) (change : FamilyState → FamilyState) (f : FamilyState) → slice_get fs n ≡ Some f → slice_get (changed_at n change fs) n ≡ Some (change f)
changed_same [] n change f h = absurd (cc)
changed_same (g ∷ fs) zero change f h = ap (λ z. Some (change z)) (some_same g f h)
changed_same (g ∷ fs) (suc n) change f h = changed_same fs n change f h

pub changed_other : (fs : List FamilyState) (n : ℕ) (change : FamilyState → FamilyState) (k : ℕ) → (k ≡ n → ⊥) → slice_get (changed_at n change fs) k ≡ slice_get fs k
changed_other [] n change k ne = refl
changed_other (f ∷ fs) zero change zero ne = absurd (ne refl)
changed_other (f ∷ fs) zero change (suc k) ne = refl
changed_other (f ∷ fs) (suc n) change zero ne = refl
changed_other (f ∷ fs) (suc n) change (suc k) ne = changed_other fs n change k (λ e. ne (ap suc e))

pub length-changed : (fs : List FamilyState) (n : ℕ) (change : FamilyState → FamilyState) → length (changed_at n change fs) ≡ length fs
length-changed [] n change = refl
length-changed (f ∷ fs) zero change = refl
length-changed (f ∷ fs) (suc n) change = ap suc (length-changed fs n change)

-- ---- what writes made

pub record Written (w : List Version) (last : ℕ) : Type 0 where
  pub distinct : Distinct w
  pub single : Single w
  pub bounded : (v : Version) → In v w → v.seq.0 ≤ last
  pub rising : Rising w

pub written_of : (count last : ℕ) (w : List Version) → AreWritten count last w → Written w last
written_of count last w h =
    let d : Distinct w = pairs_distinct w (λ i j d lt l e. let a = h.ascending i j d lt l in omega (arith, a, e)) in
    record {
      distinct = d;
      single = distinct_single w d;
      bounded = λ v i. All-In (λ (z : Version). z.seq.0 ≤ last) w v h.bounded i;
      rising = rising_of w h.rising;
    }

-- ---- families

abbrev pub Used : List ℕ → List LiveTable → Type 0
Used used ts = (t : LiveTable) → In t ts → In t.number used

abbrev pub FamilyIs : State → Family → FamilyState → Type 0
FamilyIs m i f = FamilyHolds i f.head.form f.head.floor f.through.0 f.tables m.versions m.last.0 (seqs_of m)

pub family_of_sound : (m : State) (i : Family) (f : FamilyState) → IsSoundFamily m i f → FamilyIs m i f
family_of_sound m i f h = record {
  low = h.tables.through;
  lists = standing_of i f.head.form (between i f.through.0 m.last.0 m.versions ++ contents f.tables) m.versions f.head.floor (seqs_of m) h.lists;
  tables = standing_of i f.head.form (contents f.tables) (up_to f.through.0 m.versions) f.head.floor [] h.tables.stand;
  flat = λ on v j. All-In (λ (z : Version). z.ts.0 ≡ 0) (contents f.tables) v (h.tables.flat on) j;
  order = ordered_of f.tables h.tables.ordered;
}

pub sound_family : (m : State) (i : Family) (f : FamilyState) → FamilyIs m i f → Used m.used f.tables → IsSoundFamily m i f
sound_family m i f h used = record {
  lists = stands_from i f.head.form (between i f.through.0 m.last.0 m.versions ++ contents f.tables) m.versions f.head.floor (seqs_of m) h.lists;
  tables = record {
    through = h.low;
    stand = stands_from i f.head.form (contents f.tables) (up_to f.through.0 m.versions) f.head.floor [] h.tables;
    flat = λ on. All-from (λ (z : Version). z.ts.0 ≡ 0) (contents f.tables) (λ v j. h.flat on v j);
    ordered = ordered_from f.tables h.order;
    used = All-from (λ (t : LiveTable). Contains m.used t.number) f.tables (λ t j. In-contains m.used t.number (used t j));
  };
}

-- ---- running jobs

abbrev pub SinceHolds : List Seq → ℕ → List Snap → Type 0
SinceHolds seqs last snaps = (s : Snap) → In s snaps → In s.seq seqs ⊎ (last ≤ s.seq.0)

since_of : (seqs : List Seq) (last : Seq) (snaps : List Snap) → All (IsSince seqs last) snaps → SinceHolds seqs last.0 snaps
since_of seqs last snaps h s i = elim (All-In (IsSince seqs last) snaps s h i) [ inl a ↦ inl (contains_In seqs s.seq a) | inr a ↦ inr a ]

since_from : (seqs : List Seq) (last : Seq) (snaps : List Snap) → SinceHolds seqs last.0 snaps → All (IsSince seqs last) snaps
since_from seqs last snaps h = All-from (IsSince seqs last) snaps (λ s i. elim (h s i) [ inl a ↦ inl (In-contains seqs s.seq a) | inr a ↦ inr a ])

pub record FlushHolds (job : Flush) (f : FamilyState) (last : ℕ) (snaps : List Snap) : Type 0 where
  pub from : f.through.0 ≤ job.through.0
  pub to : job.through.0 ≤ last
  pub floor : job.floor.0 ≤ f.head.floor.0
  pub since : SinceHolds job.seqs job.through.0 snaps

pub record CompactionHolds (job : Compaction) (now : Ts) (ts : List LiveTable) (last : ℕ) (snaps : List Snap) : Type 0 where
  pub some : 1 ≤ length job.inputs
  pub ascending : IsTrue (is_ascending job.inputs)
  pub live : (n : ℕ) → In n job.inputs → In n (numbers_of ts)
  pub above : 1 ≤ job.level
  pub below : job.level ≤ 6
  pub old : (v : Version) → In v (contents (ins job.inputs ts)) → v.seq.0 ≤ job.last.0
  pub outside : Outside job.level job.inputs job.deeper ts
  pub clear : Clear job.level job.inputs ts
  pub deeper : job.deeper ≡ deeper_in ts job.inputs job.level
  pub to : job.last.0 ≤ last
  pub floor : job.floor.0 ≤ now.0
  pub since : SinceHolds job.seqs job.last.0 snaps

pub flush_of : (m : State) (job : Flush) (f : FamilyState) → IsFlushing m job f → FlushHolds job f m.last.0 m.snaps
flush_of m job f h = record { from = h.from; to = h.to; floor = h.floor; since = since_of job.seqs job.through m.snaps h.snaps }

pub flushing_from : (m : State) (job : Flush) (f : FamilyState) → FlushHolds job f m.last.0 m.snaps → IsFlushing m job f
flushing_from m job f h = record { from = h.from; to = h.to; floor = h.floor; snaps = since_from job.seqs job.through m.snaps h.since }

all_from : {X : Type 0} (p : X → Bool) (xs : List X) → ((x : X) → In x xs → p x ≡ true) → list_all p xs ≡ true
all_from p [] h = refl
all_from p (x ∷ xs) h = let a = h x (inl refl) in let b = all_from p xs (λ y i. h y (inr i)) in rw (a, b) refl

pub compaction_of : (m : State) (job : Compaction) (f : FamilyState) → family_at m job.family ≡ Some f → IsCompacting m job f → CompactionHolds job f.head.floor f.tables m.last.0 m.snaps
compaction_of m job f at h =
    let e : tables_of m job.family ≡ f.tables = ap tables_of_family at in
    let held : inputs_hold m job ≡ contents (ins job.inputs f.tables) = ap (λ (z : List LiveTable). contents (ins job.inputs z)) e in
    record {
      some = h.some;
      ascending = h.ascending;
      live = λ n i. has-In (numbers_of f.tables) n (all-In (has_number (numbers_of f.tables)) n job.inputs h.live i);
      above = h.above;
      below = h.below;
      old = λ v i. All-In (λ (z : Version). z.seq.0 ≤ job.last.0) (contents (ins job.inputs f.tables)) v (subst (λ z. All (λ (v : Version). v.seq.0 ≤ job.last.0) z) held h.old) i;
      outside = λ t i out a b ia ib k.
          let x = All-In (IsBesideInputs m job) f.tables t h.outside i out in
          let y = All-In (λ (c : Version). All (IsBeside job t.level c) t.versions) (contents (ins job.inputs f.tables)) a (subst (λ z. All (λ (c : Version). All (IsBeside job t.level c) t.versions) z) held x) ia in
          All-In (IsBeside job t.level a) t.versions b y ib k;
      clear = λ t i out lv. subst (λ (z : List LiveTable). meets (span_of t.versions) (hull_of (ins job.inputs z)) ≡ false) e (All-In (IsClear m job) f.tables t h.clear i out lv);
      deeper = h.deeper ∙ ap (λ (z : List LiveTable). deeper_in z job.inputs job.level) e;
      to = h.to;
      floor = h.floor;
      since = since_of job.seqs job.last m.snaps h.snaps;
    }

pub compacting_from : (m : State) (job : Compaction) (f : FamilyState) → family_at m job.family ≡ Some f → CompactionHolds job f.head.floor f.tables m.last.0 m.snaps → IsCompacting m job f
compacting_from m job f at h =
    let e : f.tables ≡ tables_of m job.family = sym (ap tables_of_family at) in
    let held : contents (ins job.inputs f.tables) ≡ inputs_hold m job = ap (λ (z : List LiveTable). contents (ins job.inputs z)) e in
    record {
      some = h.some;
      ascending = h.ascending;
      live = all_from (has_number (numbers_of f.tables)) job.inputs (λ n i. In-has (numbers_of f.tables) n (h.live n i));
      above = h.above;
      below = h.below;
      old = subst (λ z. All (λ (v : Version). v.seq.0 ≤ job.last.0) z) held (All-from (λ (z : Version). z.seq.0 ≤ job.last.0) (contents (ins job.inputs f.tables)) h.old);
      outside = All-from (IsBesideInputs m job) f.tables (λ t i out.
          subst (λ z. All (λ (c : Version). All (IsBeside job t.level c) t.versions) z) held
          (All-from (λ (c : Version). All (IsBeside job t.level c) t.versions) (contents (ins job.inputs f.tables)) (λ a ia.
          All-from (IsBeside job t.level a) t.versions (λ b ib k. h.outside t i out a b ia ib k))));
      clear = All-from (IsClear m job) f.tables (λ t i out lv. subst (λ (z : List LiveTable). meets (span_of t.versions) (hull_of (ins job.inputs z)) ≡ false) e (h.clear t i out lv));
      deeper = h.deeper ∙ ap (λ (z : List LiveTable). deeper_in z job.inputs job.level) e;
      to = h.to;
      floor = h.floor;
      snaps = since_from job.seqs job.last m.snaps h.since;
    }

-- ---- a state

abbrev pub FlushIs : State → Option Flush → Type 0
FlushIs m None = ⊤
FlushIs m (Some job) = (f : FamilyState) × (family_at m job.family ≡ Some f) × FlushHolds job f m.last.0 m.snaps

abbrev pub CompactionIs : State → Option Compaction → Type 0
CompactionIs m None = ⊤
CompactionIs m (Some job) = (f : FamilyState) × (family_at m job.family ≡ Some f) × CompactionHolds job f.head.floor f.tables m.last.0 m.snaps

pub record Holds (m : State) : Type 0 where
  pub written : AreWritten (length m.families) m.last.0 m.versions
  pub families : (i : Family) (f : FamilyState) → family_at m i ≡ Some f → FamilyIs m i f
  pub used : (i : Family) (f : FamilyState) → family_at m i ≡ Some f → Used m.used f.tables
  pub flush : FlushIs m m.flush
  pub compaction : CompactionIs m m.compaction

flush_is_of : (m : State) (o : Option Flush) → IsFlushRight m o → FlushIs m o
flush_is_of m None h = tt
flush_is_of m (Some job) h = (h.0, h.1, flush_of m job h.0 h.2)

flush_is_from : (m : State) (o : Option Flush) → FlushIs m o → IsFlushRight m o
flush_is_from m None h = tt
flush_is_from m (Some job) h = (h.0, h.1, flushing_from m job h.0 h.2)

compaction_is_of : (m : State) (o : Option Compaction) → IsCompactionRight m o → CompactionIs m o
compaction_is_of m None h = tt
compaction_is_of m (Some job) h = (h.0, h.1, compaction_of m job h.0 h.1 h.2)

compaction_is_from : (m : State) (o : Option Compaction) → CompactionIs m o → IsCompactionRight m o
compaction_is_from m None h = tt
compaction_is_from m (Some job) h = (h.0, h.1, compacting_from m job h.0 h.1 h.2)

pub holds_of : (m : State) → IsSoundState m → Holds m
holds_of m h = record {
  written = h.written;
  families = λ i f at. family_of_sound m i f (h.families i f at);
  used = λ i f at t j. contains_In m.used t.number (All-In (λ (z : LiveTable). Contains m.used z.number) f.tables t (h.families i f at).tables.used j);
  flush = flush_is_of m m.flush h.jobs.flush;
  compaction = compaction_is_of m m.compaction h.jobs.compaction;
}

pub sound_from : (m : State) → Holds m → IsSoundState m
sound_from m h = record {
  written = h.written;
  families = λ i f at. sound_family m i f (h.families i f at) (h.used i f at);
  jobs = record { flush = flush_is_from m m.flush h.flush; compaction = compaction_is_from m m.compaction h.compaction };
}
