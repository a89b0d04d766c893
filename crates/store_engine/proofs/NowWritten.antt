-- A super version with a batch more shows the state behind the write.
use Rattle.std.proofs.Common.{◌≡◌, ℕ, zero, suc, ◌+◌, ◌≤◌, ◌&&◌, Bool, true, List, [], ◌∷◌, ◌++◌, length, Some, None, refl, sym, ap, ◌∙◌, subst, arith, inl, inr, append_assoc}
use Rattle.std.specs.Prelude.{Contains, filter, nat_le, nat_lt, ◌<◌, ◌==◌, slice_get}
use Rattle.std.specs.List.{flat_map}
use Rattle.std.specs.List.Sorted.{IsPermutation}
use Rattle.std.proofs.lemmas.Bool.{cases_Bool, le-leb, lt-ltb}
use Rattle.std.proofs.lemmas.List.Elements.{filter-append}
use Rattle.std.proofs.lemmas.List.Sorted.{Contains-permutation, IsPermutation-sym, IsPermutation-append_comm, IsPermutation-append_left, IsPermutation-append_right, IsPermutation-cons, IsPermutation-middle, IsPermutation-refl, IsPermutation-trans}
use Rattle.ts_key.specs.declared.batch.WriteOp.{WriteOp}
use Rattle.ts_key.specs.declared.numbers.Family.{Family}
use Rattle.ts_key.specs.declared.numbers.Seq.{Seq}
use Rattle.ts_key.specs.declared.version.Version.{Version}
use Rattle.memtable.specs.Memtables.{versions_of_memtable}
use Rattle.sorted_run.specs.Sorts.{is_sorted_before, sorted, with_sorted}
use Rattle.udt_model.specs.declared.reply.Reply.TheVariants.{OkAt}
use Rattle.udt_model.specs.Acts.Act.{write}
use Rattle.udt_model.specs.Running.{IsFlushRight}
use Rattle.udt_model.specs.State.{Flush, State, family_at}
use Rattle.udt_model.specs.State.{FamilyState as ModelFamily}
use Rattle.udt_model.specs.Steps.{after}
use Rattle.udt_model.specs.Versions.{between, made}
use Rattle.super_version.specs.Writes.{AddsBatch, AreWrittenTo, IsWrittenTo, of_family}
use Rattle.super_version.specs.declared.family.FamilyState.{FamilyState}
use Rattle.super_version.specs.declared.version.SuperVersion.{SuperVersion}
use Rattle.floor_laws.specs.Sound.{IsSoundState}
use Rattle.floor_laws.proofs.Members.{In, In-append, In-contains, contains_In, filter-In}
use Rattle.floor_laws.proofs.Kept.{same_number}
use Rattle.floor_laws.proofs.States.{holds_of, written_of}
use Rattle.engine_laws.proofs.Batches.{logged-In}
use Rattle.store_engine.specs.Now.{IsBeingFlushed, IsNow, IsFamilyNow}
use Rattle.store_engine.proofs.Admitting.{both}

-- ---- sorting moves versions

with_moves : (v : Version) (vs : List Version) → IsPermutation (v ∷ vs) (with_sorted v vs)
with_moves v [] = IsPermutation-refl (v ∷ [])
with_moves v (x ∷ xs) = elim (cases_Bool (is_sorted_before x v)) [
  | inl y ↦ rw y (IsPermutation-trans (v ∷ x ∷ xs) (x ∷ v ∷ xs) (x ∷ with_sorted v xs) (IsPermutation-middle (v ∷ []) x xs) (IsPermutation-cons x (v ∷ xs) (with_sorted v xs) (with_moves v xs)))
  | inr y ↦ rw y (IsPermutation-refl (v ∷ x ∷ xs))
]

pub sorted_moves : (vs : List Version) → IsPermutation vs (sorted vs)
sorted_moves [] = IsPermutation-refl []
sorted_moves (v ∷ vs) = IsPermutation-trans (v ∷ vs) (v ∷ sorted vs) (with_sorted v (sorted vs)) (IsPermutation-cons v vs (sorted vs) (sorted_moves vs)) (with_moves v (sorted vs))

-- ---- families behind a batch

written_length : (vs : List Version) (fs gs : List FamilyState) → AreWrittenTo vs fs gs → length gs ≡ length fs
written_length vs [] gs h = ap length h
written_length vs (f ∷ fs) [] h = absurd h
written_length vs (f ∷ fs) (g ∷ gs) h = ap suc (written_length vs fs gs h.1)

written_at : (vs : List Version) (fs gs : List FamilyState) (n : ℕ) (f g : FamilyState) → AreWrittenTo vs fs gs → slice_get fs n ≡ Some f → slice_get gs n ≡ Some g → IsWrittenTo (of_family f.active.family vs) f g
written_at vs [] gs n f g h of there = absurd (cc)
written_at vs (x ∷ fs) [] n f g h of there = absurd h
written_at vs (x ∷ fs) (y ∷ gs) zero f g h of there =
    let a : x ≡ f = cc in
    let b : y ≡ g = cc in
    subst (λ (z : FamilyState). IsWrittenTo (of_family z.active.family vs) z g) a (subst (λ (z : FamilyState). IsWrittenTo (of_family x.active.family vs) x z) b h.0)
written_at vs (x ∷ fs) (y ∷ gs) (suc n) f g h of there = written_at vs fs gs n f g h.1 of there

written_before : (vs : List Version) (fs gs : List FamilyState) (n : ℕ) (g : FamilyState) → AreWrittenTo vs fs gs → slice_get gs n ≡ Some g → (f : FamilyState) × (slice_get fs n ≡ Some f) × IsWrittenTo (of_family f.active.family vs) f g
written_before vs [] gs n g h there = absurd (let e : slice_get [] n ≡ Some g = subst (λ l. slice_get l n ≡ Some g) h there in cc)
written_before vs (x ∷ fs) [] n g h there = absurd h
written_before vs (x ∷ fs) (y ∷ gs) zero g h there =
    let b : y ≡ g = cc in
    (x, refl, subst (λ (z : FamilyState). IsWrittenTo (of_family x.active.family vs) x z) b h.0)
written_before vs (x ∷ fs) (y ∷ gs) (suc n) g h there = written_before vs fs gs n g h.1 there

-- ---- the versions that are in no table

pub filter_like : (p q : Version → Bool) (xs : List Version) → ((v : Version) → In v xs → p v ≡ q v) → filter p xs ≡ filter q xs
filter_like p q [] h = refl
filter_like p q (x ∷ xs) h =
    let e = h x (inl refl) in
    let r = filter_like p q xs (λ v j. h v (inr j)) in
    elim (cases_Bool (q x)) [ inl y ↦ let z = e ∙ y in rw (y, z) (ap (λ t. x ∷ t) r) | inr y ↦ let z = e ∙ y in rw (y, z) r ]

all_true : (a b c : Bool) → b ≡ true → c ≡ true → (a && b && c) ≡ a
all_true a b c y z = rw (y, z) (elim (cases_Bool a) [ inl x ↦ rw x refl | inr x ↦ rw x refl ])

pub between_written : (i : Family) (through last : ℕ) (w : List Version) (ops : List WriteOp) → through ≤ last → ((v : Version) → In v w → v.seq.0 ≤ last)
    → between i through (last + length ops) (w ++ made last ops) ≡ between i through last w ++ of_family i (made last ops)
between_written i through last w ops low bounded =
    let p : Version → Bool = λ v. v.family.0 == i.0 && nat_lt through v.seq.0 && nat_le v.seq.0 (last + length ops) in
    let q : Version → Bool = λ v. v.family.0 == i.0 && nat_lt through v.seq.0 && nat_le v.seq.0 last in
    let old : filter p w ≡ filter q w = filter_like p q w (λ v j. let l = bounded v j in ap (λ (b : Bool). v.family.0 == i.0 && nat_lt through v.seq.0 && b) (le-leb v.seq.0 (last + length ops) (omega (arith, l)) ∙ sym (le-leb v.seq.0 last l))) in
    let new : filter p (made last ops) ≡ of_family i (made last ops) = filter_like p (λ v. v.family.0 == i.0) (made last ops) (λ v j.
    let l = logged-In (last + 1) ops v j in
    let a = l.0 in
    let b = l.1 in
    all_true (v.family.0 == i.0) (nat_lt through v.seq.0) (nat_le v.seq.0 (last + length ops)) (lt-ltb through v.seq.0 (omega (arith, a, low))) (le-leb v.seq.0 (last + length ops) (omega (arith, b)))) in
    filter-append p w (made last ops) ∙ ap (λ (vs : List Version). vs ++ filter p (made last ops)) old ∙ ap (λ (vs : List Version). filter q w ++ vs) new

-- ---- the running flush

-- it takes versions up to a sequence that isn't above the last
flush_low : (m : State) (job : Flush) → IsSoundState m → m.flush ≡ Some job → job.through.0 ≤ m.last.0
flush_low m job sound is = let r = subst (IsFlushRight m) is sound.jobs.flush in r.2.to

-- the versions that are written are none of it
flush_written : (more : List Version) (g h : FamilyState) (job : Flush) → IsWrittenTo (of_family g.active.family more) g h → ((v : Version) → In v more → job.through.0 < v.seq.0) → IsBeingFlushed job g → IsBeingFlushed job h
flush_written more g h job w high being = record {
  taken = λ v i. being.taken v (subst (λ ms. Contains (flat_map versions_of_memtable ms) v) (ap (λ (z : FamilyState). z.sealed) w.others) i);
  later = λ v i.
      let own = of_family g.active.family more in
      let active = versions_of_memtable g.active in
      let there = Contains-permutation (sorted (own ++ active)) (own ++ active) v (IsPermutation-sym (own ++ active) (sorted (own ++ active)) (sorted_moves (own ++ active))) (subst (λ vs. Contains vs v) w.versions i) in
      elim (In-append v own active (contains_In (own ++ active) v there)) [
        | inl new ↦ high v (filter-In (λ (z : Version). z.family.0 == g.active.family.0) v more new).0
        | inr old ↦ being.later v (In-contains active v old)
      ];
}

-- ---- one family

family_written : (i : Family) (unflushed more : List Version) (f : ModelFamily) (g h : FamilyState) → IsWrittenTo more g h → IsFamilyNow i unflushed f g → IsFamilyNow i (unflushed ++ more) f h
family_written i unflushed more f g h w s =
    let active = versions_of_memtable g.active in
    let sealed = flat_map versions_of_memtable g.sealed in
    let moved : IsPermutation (unflushed ++ more) (sorted (more ++ active) ++ sealed) =
    IsPermutation-trans (unflushed ++ more) (more ++ unflushed) (sorted (more ++ active) ++ sealed) (IsPermutation-append_comm unflushed more)
    (IsPermutation-trans (more ++ unflushed) ((more ++ active) ++ sealed) (sorted (more ++ active) ++ sealed)
    (subst (IsPermutation (more ++ unflushed)) (sym (append_assoc more active sealed)) (IsPermutation-append_right more unflushed (active ++ sealed) s.holds))
    (IsPermutation-append_left sealed (more ++ active) (sorted (more ++ active)) (sorted_moves (more ++ active)))) in
    let next : FamilyState = record g { active = h.active } in
    subst (IsFamilyNow i (unflushed ++ more) f) (sym w.others) (record {
      form = s.form;
      floor = s.floor;
      through = s.through;
      number = record { active = ap (λ (z : Family). z.0) w.family ∙ s.number.active; sealed = s.number.sealed; tables = s.number.tables };
      holds = subst (λ (vs : List Version). IsPermutation (unflushed ++ more) (vs ++ sealed)) (sym w.versions) moved;
      tables = s.tables;
      levels = s.levels;
      order = s.order;
      fit = s.fit;
    })

-- ---- all families

pub now_written : (m : State) (old new : SuperVersion) (number : ℕ) (ops : List WriteOp) (sync : Bool) → IsSoundState m → IsNow old m → AddsBatch ops old new → IsNow new (after m number (write ops sync) (OkAt (m.last.0 + length ops)))
now_written m old new number ops sync sound shows adds =
    let h = holds_of m sound in
    let bounded = (written_of (length m.families) m.last.0 m.versions h.written).bounded in
    let last : old.last.0 ≡ m.last.0 = ap (λ (s : Seq). s.0) shows.last in
    let next : State = record m { versions = m.versions ++ made m.last.0 ops; last = record { 0 = m.last.0 + length ops } } in
    record {
      last = ap (λ (n : ℕ). let s : Seq = record { 0 = n } in s) (adds.last ∙ ap (λ (n : ℕ). n + length ops) last);
      count = written_length (made old.last.0 ops) old.families new.families adds.families ∙ shows.count;
      families = λ i f g of there. elim (both m.families old.families i.0 (sym shows.count)) [
        | inl none ↦ let a : family_at m i ≡ None = none.0 in absurd (cc)
        | inr some ↦
            let g0 = some.1.0 in
            let there0 : slice_get old.families i.0 ≡ Some g0 = some.1.1.1 in
            let s = shows.families i f g0 of there0 in
            let w = written_at (made old.last.0 ops) old.families new.families i.0 g0 g adds.families there0 there in
            let own : of_family g0.active.family (made old.last.0 ops) ≡ of_family i (made m.last.0 ops) = ap (λ (z : Family). of_family z (made old.last.0 ops)) (same_number g0.active.family i s.number.active) ∙ ap (λ (n : ℕ). of_family i (made n ops)) last in
            let w2 = subst (λ (vs : List Version). IsWrittenTo vs g0 g) own w in
            let is = between_written i f.through.0 m.last.0 m.versions ops (h.families i f of).low bounded in
            subst (λ (vs : List Version). IsFamilyNow i vs f g) (sym is) (family_written i (between i f.through.0 m.last.0 m.versions) (of_family i (made m.last.0 ops)) f g0 g w2 s)
      ];
      flush = λ job g is there.
          let o = written_before (made old.last.0 ops) old.families new.families job.family.0 g adds.families there in
          flush_written (made old.last.0 ops) o.0 g job o.2 (λ v i. let r = logged-In (old.last.0 + 1) ops v i in let low = flush_low m job sound is in let a = r.0 in omega (arith, a, low, last)) (shows.flush job o.0 is o.1);
    }
