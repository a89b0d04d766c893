-- An edit of the manifest, where nothing waits.
use Rattle.std.proofs.Common.{◌≡◌, ℕ, ◌<◌, ◌≤◌, ◌==◌, true, List, [], ◌∷◌, ◌++◌, map, take, drop, length, Some, None, refl, sym, ap, ◌∙◌, subst, arith, inl}
use Rattle.std.specs.Prelude.{nat_lt, All, Contains, slice_get}
use Rattle.std.proofs.lemmas.Bool.{eqb-true, eq-eqb, ltb-true, lt-ltb, and_parts, and_from, false_from_ne_true}
use Rattle.std.proofs.lemmas.List.{append-nil, take-append-drop}
use Rattle.std.proofs.lemmas.List.Elements.{filter-append}
use Rattle.ts_key.specs.declared.numbers.Family.{Family}
use Rattle.ts_key.specs.declared.numbers.Seq.{Seq}
use Rattle.ts_key.specs.declared.version.Version.{Version}
use Rattle.wal.specs.declared.numbered.Numbered.{Numbered}
use Rattle.wal.specs.Records.{IsLoggedBatch}
use Rattle.wal.specs.Sequences.{IsInSequence}
use Rattle.udt_model.specs.State.{State, FamilyState, family_at}
use Rattle.udt_model.specs.Crashes.{Course, settled}
use Rattle.manifest_edit.specs.declared.edit.Edit.{Edit}
use Rattle.manifest_fold.specs.declared.fold.FamilyFold.{FamilyFold}
use Rattle.manifest_fold.specs.declared.fold.Folded.{Folded}
use Rattle.manifest_fold.specs.Folds.{IsAccepted, fold_with, newest_log}
use Rattle.ts_key.specs.declared.limits.TheConstants.{STAMP_SIZE}
use Rattle.manifest.specs.Folds.{sizes_of}
use Rattle.floor_laws.specs.Sound.{IsSoundCourse}
use Rattle.floor_laws.proofs.Members.{In, In-contains, In-right, contains_In, All-In, filter_none, filter_within}
use Rattle.floor_laws.proofs.Kept.{same_number}
use Rattle.engine_laws.specs.Logs.{above, is_above_through, versions_of, last_of, last_over, batches_of}
use Rattle.engine_laws.specs.Manifests.{IsWell}
use Rattle.engine_laws.specs.Standing.{Says, StandsFor, family_said, live_batches}
use Rattle.engine_laws.specs.Engine.{durable_last, with_edit, HoldsState, IsOnCourse, MayEdit}
use Rattle.engine_laws.proofs.Places.{get-map, map-get}
use Rattle.engine_laws.proofs.Ascending.{newest_of, rising_sorted}
use Rattle.engine_laws.proofs.Folding.{family_back, families_length, edit_well}
use Rattle.engine_laws.proofs.Batches.{last_over_is, versions_append, sequence_rest, last_rest, batches_append, batches_none, batches-In, all_right}
use Rattle.engine_laws.proofs.Resting.{front_logged, durable_is, whole_last, whole_stands}

-- ---- the versions above a higher sequence

pub above_true : (i : Family) (n : ℕ) (v : Version) → is_above_through i n v ≡ true → (v.family ≡ i) × (n < v.seq.0)
above_true i n v h = let p = and_parts (v.family.0 == i.0) (nat_lt n v.seq.0) h in (same_number v.family i (eqb-true v.family.0 i.0 p.0), ltb-true n v.seq.0 p.1)

pub above_from : (i : Family) (n : ℕ) (v : Version) → v.family ≡ i → n < v.seq.0 → is_above_through i n v ≡ true
above_from i n v f l = and_from (v.family.0 == i.0) (nat_lt n v.seq.0) (eq-eqb v.family.0 i.0 (ap (λ (z : Family). z.0) f)) (lt-ltb n v.seq.0 l)

pub above_higher : (i : Family) (n t : ℕ) (w : List Version) → n ≤ t → above i t (above i n w) ≡ above i t w
above_higher i n t w le = filter_within (is_above_through i t) (is_above_through i n) w (λ x q. let r = above_true i t x q in let l = r.1 in above_from i n x r.0 (omega (arith, l, le)))

-- ---- the edit

module _ (m : State) (c : Course) (s : Says) (edit : Edit) (next : State) (h : HoldsState m c s []) (e : MayEdit m s edit next) where
  abbrev dropped : List Numbered
  dropped = batches_of s.logs (take (length edit.drop_logs) s.fold.logs)

  abbrev rest : List Numbered
  rest = batches_of s.logs (drop (length edit.drop_logs) s.fold.logs)

  says_last : edit.last.0 ≡ m.last.0
  says_last = ap (λ (z : Seq). z.0) e.leads.last

  all_is : live_batches s ≡ dropped ++ rest
  all_is = ap (batches_of s.logs) (sym (take-append-drop (length edit.drop_logs) s.fold.logs)) ∙ batches_append s.logs (take (length edit.drop_logs) s.fold.logs) (drop (length edit.drop_logs) s.fold.logs)

  rest_is : live_batches (with_edit s edit) ≡ rest
  rest_is = batches_append s.logs (drop (length edit.drop_logs) s.fold.logs) edit.add_logs ∙ ap (λ z. rest ++ z) (batches_none s.logs edit.add_logs (λ n i. All-In (λ k. s.logs k ≡ []) edit.add_logs n e.leads.empty i)) ∙ append-nil rest

  all_last : last_of s.fold.last.0 (dropped ++ rest) ≡ m.last.0
  all_last = ap (last_of s.fold.last.0) (sym all_is) ∙ sym (durable_is m c s [] h) ∙ whole_last m c s h

  edit_last_of : last_of edit.last.0 (live_batches (with_edit s edit)) ≡ m.last.0
  edit_last_of =
      ap (last_of edit.last.0) rest_is
      ∙ ap (λ z. last_of z rest) (says_last ∙ sym all_last)
      ∙ last_rest s.fold.last.0 dropped rest
      ∙ all_last

  pub edit_last : durable_last (with_edit s edit) ≡ m.last.0
  edit_last = let a = says_last in let b = edit_last_of in last_over_is edit.last.0 (live_batches (with_edit s edit)) (omega (arith, a, b)) ∙ b

  -- each family of the next state was there, and its `through` didn't fall
  pub edit_family : (i : Family) (f : FamilyState) → family_at next i ≡ Some f → (old : FamilyState) × (family_at m i ≡ Some old) × (old.through.0 ≤ f.through.0)
  edit_family i f q =
      let a = get-map (family_said s.tables) (fold_with s.fold edit).families i.0 f (subst (λ z. slice_get z i.0 ≡ Some f) e.leads.families q) in
      let b = family_back s.fold edit edit.family i.0 a.0 e.leads.accepted.part a.1 in
      let l : (family_said s.tables b.0).through.0 ≤ (family_said s.tables a.0).through.0 = b.2.through in
      (family_said s.tables b.0, subst (λ z. slice_get z i.0 ≡ Some (family_said s.tables b.0)) (sym h.families) (map-get (family_said s.tables) s.fold.families i.0 b.0 b.1), subst (λ (z : FamilyState). (family_said s.tables b.0).through.0 ≤ z.through.0) a.2 l)

  -- the dropped logs have no version above the new `through`
  dropped_none : (i : Family) (f : FamilyState) → family_at next i ≡ Some f → above i f.through.0 (versions_of dropped) ≡ []
  dropped_none i f q = filter_none (is_above_through i f.through.0) (versions_of dropped) (λ v j. false_from_ne_true (is_above_through i f.through.0 v) (λ y.
      let r = above_true i f.through.0 v y in
      let b = batches-In s.logs (take (length edit.drop_logs) s.fold.logs) v j in
      let n : In b.0 edit.drop_logs = subst (λ z. In b.0 z) (sym e.leads.accepted.logs.oldest) b.1 in
      let l = e.flushed b.0 v f (In-contains edit.drop_logs b.0 n) (In-contains (versions_of (s.logs b.0)) v b.2) (subst (λ z. family_at next z ≡ Some f) (sym r.0) q) in
      let k = r.1 in
      omega (arith, l, k)))

  edit_unflushed : (i : Family) (f : FamilyState) → family_at next i ≡ Some f → above i f.through.0 next.versions ≡ above i f.through.0 (versions_of (live_batches (with_edit s edit) ++ []))
  edit_unflushed i f q =
      let old = edit_family i f q in
      let t = f.through.0 in
      ap (above i t) e.leads.versions
      ∙ sym (above_higher i old.0.through.0 t m.versions old.2)
      ∙ ap (above i t) (h.unflushed i old.0 old.1)
      ∙ above_higher i old.0.through.0 t (versions_of (live_batches s ++ [])) old.2
      ∙ ap (λ z. above i t (versions_of z)) (append-nil (live_batches s) ∙ all_is)
      ∙ ap (above i t) (versions_append dropped rest)
      ∙ filter-append (is_above_through i t) (versions_of dropped) (versions_of rest)
      ∙ ap (λ z. z ++ above i t (versions_of rest)) (dropped_none i f q)
      ∙ ap (λ z. above i t (versions_of z)) (sym (append-nil (live_batches (with_edit s edit)) ∙ rest_is))

  edit_logged : All (IsLoggedBatch (length (fold_with s.fold edit).families)) (live_batches (with_edit s edit) ++ [])
  edit_logged =
      let a = front_logged m c s [] h in
      let b = all_right (length s.fold.families) dropped rest (subst (λ z. All (IsLoggedBatch (length s.fold.families)) z) all_is a) in
      let k : length (fold_with s.fold edit).families ≡ length s.fold.families = families_length s.fold edit edit.family e.leads.accepted.part in
      subst (λ z. All (IsLoggedBatch z) (live_batches (with_edit s edit) ++ [])) (sym k)
      (subst (λ z. All (IsLoggedBatch (length s.fold.families)) z) (sym (append-nil (live_batches (with_edit s edit)) ∙ rest_is)) b)

  next_last : next.last.0 ≡ m.last.0
  next_last = ap (λ (z : Seq). z.0) e.leads.same_last

  -- after the edit the engine holds the next state, on whatever course
  pub edit_holds_on : (d : Course) → IsOnCourse next d m.last.0 → HoldsState next d (with_edit s edit) []
  edit_holds_on d on = record {
    families = e.leads.families;
    unflushed = edit_unflushed;
    last = next_last ∙ sym edit_last ∙ ap (last_over edit.last.0) (sym (append-nil (live_batches (with_edit s edit))));
    within = let a = h.within in let b = next_last in omega (arith, a, b);
    sequence = subst IsInSequence (sym rest_is) (sequence_rest dropped rest (subst IsInSequence all_is h.sequence));
    goes_on = tt;
    logged = edit_logged;
    behind = let a = says_last in let b = edit_last_of in omega (arith, a, b);
    fits = e.fits;
    well = edit_well s.fold edit e.leads.accepted h.well;
    sound = e.sound;
    course = subst (IsOnCourse next d) (sym edit_last) on;
  }

  -- such a course: the ends are those of the state before, and no more is synced than it has
  pub edit_course : (d : Course) → d.ends ≡ c.ends → d.synced ≤ m.last.0 → IsSoundCourse next d → IsOnCourse next d m.last.0
  edit_course d ends low sound = record {
    here = subst (λ z. Contains z m.last.0) (sym ends) h.course.all;
    all = subst (λ z. Contains d.ends z) (sym next_last) (subst (λ z. Contains z m.last.0) (sym ends) h.course.all);
    synced = low;
    sound = sound;
  }

  -- and what the files say with it stands for all of the next state
  pub edit_stands : StandsFor (with_edit s edit) (settled next)
  edit_stands =
      let d : Course = record { ends = c.ends; synced = m.last.0; failing = None } in
      let sound : IsSoundCourse next d = record { synced = λ i f q. let l = (e.sound.families i f q).tables.through in let k = next_last in omega (arith, l, k); failing = λ f q. absurd (cc) } in
      whole_stands next d (with_edit s edit) (edit_holds_on d (edit_course d refl (omega arith) sound))

-- an edit leaves the sizes of the families
sizes_equal : (xs ys : List FamilyFold) → length xs ≡ length ys → map {B = ℕ} (λ (f : FamilyFold). STAMP_SIZE) xs ≡ map {B = ℕ} (λ (f : FamilyFold). STAMP_SIZE) ys
sizes_equal [] [] e = refl
sizes_equal [] (y ∷ ys) e = absurd (omega (arith, e))
sizes_equal (x ∷ xs) [] e = absurd (omega (arith, e))
sizes_equal (x ∷ xs) (y ∷ ys) e = ap (λ z. STAMP_SIZE ∷ z) (sizes_equal xs ys (omega (arith, e)))

pub sizes_stay : (fold : Folded) (edit : Edit) → IsAccepted fold edit → sizes_of (fold_with fold edit) ≡ sizes_of fold
sizes_stay fold edit a = sizes_equal (fold_with fold edit).families fold.families (families_length fold edit edit.family a.part)

-- the newest log is live
pub newest_live : (fold : Folded) → IsWell fold → Contains fold.logs (newest_log fold.logs)
newest_live fold w =
    let top = newest_of fold.logs w.some (rising_sorted fold.logs w.sorted) in
    In-contains fold.logs (newest_log fold.logs) (subst (λ z. In (newest_log fold.logs) z) (sym top.is) (In-right (newest_log fold.logs) top.older (newest_log fold.logs ∷ []) (inl refl)))

-- a number from the next one on isn't that of the newest log
pub newest_not : (fold : Folded) (n : ℕ) → IsWell fold → fold.next_file ≤ n → n ≡ newest_log fold.logs → ⊥
newest_not fold n w more e =
    let low = All-In (λ k. k < fold.next_file) fold.logs (newest_log fold.logs) w.logs (contains_In fold.logs (newest_log fold.logs) (newest_live fold w)) in
    omega (arith, low, more, e)
