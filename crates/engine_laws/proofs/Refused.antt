-- Wrong orders: what a crash leaves then stands for no outcome.
use Rattle.std.proofs.Common.{◌≡◌, ◌≢◌, ℕ, ◌+◌, ◌-◌, ◌<◌, ◌≤◌, List, [], ◌∷◌, ◌++◌, take, drop, length, Option, Some, None, refl, sym, ap, ◌∙◌, subst, arith, inl, inr}
use Rattle.std.specs.Prelude.{Contains, nat_le, slice_get}
use Rattle.std.proofs.lemmas.Bool.{le-leb}
use Rattle.std.proofs.lemmas.List.{take-append-drop}
use Rattle.ts_key.specs.declared.numbers.Family.{Family}
use Rattle.ts_key.specs.declared.numbers.Seq.{Seq}
use Rattle.ts_key.specs.declared.version.Version.{Version}
use Rattle.udt_disk.specs.Joint.{Folder}
use Rattle.udt_disk.specs.declared.name.FileName.TheVariants.{Log, Table}
use Rattle.wal.specs.Replays.{ReadsAs}
use Rattle.wal.specs.declared.numbered.Numbered.{Numbered}
use Rattle.udt_model.specs.State.{FamilyState, State, family_at}
use Rattle.udt_model.specs.Crashes.{Course, Failing, IsFailed, IsOutcome}
use Rattle.manifest_edit.specs.declared.edit.TableAt.{TableAt}
use Rattle.manifest_edit.specs.declared.edit.Edit.{Edit}
use Rattle.manifest_fold.specs.declared.fold.FamilyFold.{FamilyFold}
use Rattle.manifest_fold.specs.Folds.{fold_with}
use Rattle.manifest.specs.Folds.{sizes_of}
use Rattle.floor_laws.proofs.Members.{In, contains_In, All-In, In-append, In-left, In-right, In-filter, filter-In}
use Rattle.floor_laws.proofs.States.{some_same, written_of}
use Rattle.engine_laws.specs.Logs.{batches_of, is_above_through, last_of, versions_of}
use Rattle.engine_laws.specs.Manifests.{IsLive}
use Rattle.engine_laws.specs.Standing.{Grammar, FolderSays, Says, StandsFor, TableReads, families_said, family_said, live_batches}
use Rattle.engine_laws.specs.Engine.{HoldsState, IsEditTo, IsOutcomeOr, durable_last, with_edit}
use Rattle.engine_laws.proofs.Places.{get-map, map-get}
use Rattle.engine_laws.proofs.Batches.{Above, batches-In, batches_append, batches_from, versions-In, versions_append, versions_upto}
use Rattle.engine_laws.proofs.Folding.{family_back}
use Rattle.engine_laws.proofs.Resting.{durable_is, front_above, waiting_above}
use Rattle.engine_laws.proofs.Editing.{above_from}

above_parts : (e : ℕ) (bs ws : List Numbered) → Above e (bs ++ ws) → Above e bs × Above (last_of e bs) ws
above_parts e [] ws h = (tt, h)
above_parts e (b ∷ bs) ws h = let r = above_parts (b.first.0 + length b.batch - 1) bs ws h.2 in ((h.0, h.1, r.0), r.1)

-- ---- what stands has each logged version, and no other

-- each version that the live logs have above its family's `through`, whatever the floor is
pub logged_is_kept : (s : Says) (m : State) (v : Version) (f : FamilyState) → StandsFor s m → In v (versions_of (live_batches s)) → family_at m v.family ≡ Some f → f.through.0 < v.seq.0 → In v m.versions
logged_is_kept s m v f h i q lt =
    let a = In-filter (is_above_through v.family f.through.0) v (versions_of (live_batches s)) i (above_from v.family f.through.0 v refl lt) in
    (filter-In (is_above_through v.family f.through.0) v m.versions (subst (λ z. In v z) (sym (h.unflushed v.family f q)) a)).0

-- and has no other above it
pub kept_is_logged : (s : Says) (m : State) (v : Version) (f : FamilyState) → StandsFor s m → In v m.versions → family_at m v.family ≡ Some f → f.through.0 < v.seq.0 → In v (versions_of (live_batches s))
kept_is_logged s m v f h i q lt =
    let a = In-filter (is_above_through v.family f.through.0) v m.versions i (above_from v.family f.through.0 v refl lt) in
    (filter-In (is_above_through v.family f.through.0) v (versions_of (live_batches s)) (subst (λ z. In v z) (h.unflushed v.family f q) a)).0

none_failed : (o : Option Failing) (left : State) → o ≡ None → IsFailed o left → ⊥
none_failed None left e h = h
none_failed (Some f) left e h = absurd (cc)

-- ---- a floor that is told before its edit is on the disk

-- where a crash may leave a manifest whose family isn't the state's, it leaves no outcome of it
pub family_differs : (s : Says) (m left : State) (c : Course) (i : Family) (f h : FamilyState) → c.failing ≡ None → family_at m i ≡ Some f → slice_get (families_said s.tables s.fold) i.0 ≡ Some h → f ≢ h → StandsFor s left → IsOutcome m c left → ⊥
family_differs s m left c i f h none q r ne stands (inl o) =
    let e : left.families ≡ m.families = ap (λ (z : State). z.families) o.3 in
    let k : Some f ≡ Some h = sym q ∙ ap (λ z. slice_get z i.0) (sym e ∙ stands.families) ∙ r in
    ne (some_same f h k)
family_differs s m left c i f h none q r ne stands (inr o) = none_failed c.failing left none o

-- ---- an edit that is made too early

module _ (m : State) (c : Course) (s : Says) (waiting : List Numbered) (edit : Edit) (next : State) (h : HoldsState m c s waiting) (none : c.failing ≡ None) (e : IsEditTo m s edit next) where
  family_before : (i : Family) (f : FamilyState) → family_at next i ≡ Some f → (old : FamilyState) × (family_at m i ≡ Some old) × (old.through.0 ≤ f.through.0)
  family_before i f q =
      let a = get-map (family_said s.tables) (fold_with s.fold edit).families i.0 f (subst (λ z. slice_get z i.0 ≡ Some f) e.families q) in
      let b = family_back s.fold edit edit.family i.0 a.0 e.accepted.part a.1 in
      (family_said s.tables b.0, subst (λ z. slice_get z i.0 ≡ Some (family_said s.tables b.0)) (sym h.families) (map-get (family_said s.tables) s.fold.families i.0 b.0 b.1), subst (λ (z : FamilyState). b.0.through.0 ≤ z.through.0) a.2 b.2.through)

  says_last : edit.last.0 ≡ m.last.0
  says_last = ap (λ (z : Seq). z.0) e.last

  -- a version that is logged or waits, and that the edit doesn't flush, is in each outcome that the edit may stand for
  left_has : (v : Version) (f : FamilyState) (left : State) → In v (versions_of (live_batches s ++ waiting)) → family_at next v.family ≡ Some f → f.through.0 < v.seq.0
      → StandsFor (with_edit s edit) left → IsOutcomeOr m c next left → In v (versions_of (live_batches (with_edit s edit)))
  left_has v f left i q lt stands o =
      let old = family_before v.family f q in
      let le = old.2 in
      let a = In-filter (is_above_through v.family old.0.through.0) v (versions_of (live_batches s ++ waiting)) i (above_from v.family old.0.through.0 v refl (omega (arith, le, lt))) in
      let w : In v m.versions = (filter-In (is_above_through v.family old.0.through.0) v m.versions (subst (λ z. In v z) (sym (h.unflushed v.family old.0 old.1)) a)).0 in
      let there : In v left.versions = elim o [
        | inl x ↦ elim x [
          | inl y ↦
              let end : left.last.0 ≡ y.0 = ap (λ (z : State). z.last.0) y.3 in
              let k = stands.last in
              let b = stands.behind in
              let l = (written_of _ m.last.0 m.versions h.sound.written).bounded v w in
              let z = says_last in
              subst (λ (z : State). In v z.versions) (sym y.3) (In-filter (λ (z : Version). nat_le z.seq.0 y.0) v m.versions w (le-leb v.seq.0 y.0 (omega (arith, end, k, b, l, z))))
          | inr y ↦ absurd (none_failed c.failing left none y)
        ]
        | inr x ↦ subst (λ (z : State). In v z.versions) (sym x) (subst (λ z. In v z) (sym e.versions) w)
      ] in
      kept_is_logged (with_edit s edit) left v f stands there (subst (λ z. slice_get z v.family.0 ≡ Some f) (e.families ∙ sym stands.families) q) lt

  -- what the edit leaves live was live
  rest_live : (v : Version) → In v (versions_of (live_batches (with_edit s edit))) → In v (versions_of (batches_of s.logs (drop (length edit.drop_logs) s.fold.logs)))
  rest_live v i =
      let r = batches-In s.logs (drop (length edit.drop_logs) s.fold.logs ++ edit.add_logs) v i in
      elim (In-append r.0 (drop (length edit.drop_logs) s.fold.logs) edit.add_logs r.1) [
        | inl j ↦ batches_from s.logs (drop (length edit.drop_logs) s.fold.logs) r.0 v j r.2
        | inr j ↦ absurd (subst (λ z. In v (versions_of z)) (All-In (λ n. s.logs n ≡ []) edit.add_logs r.0 e.empty j) r.2)
      ]

  all_parts : live_batches s ≡ batches_of s.logs (take (length edit.drop_logs) s.fold.logs) ++ batches_of s.logs (drop (length edit.drop_logs) s.fold.logs)
  all_parts = ap (batches_of s.logs) (sym (take-append-drop (length edit.drop_logs) s.fold.logs)) ∙ batches_append s.logs (take (length edit.drop_logs) s.fold.logs) (drop (length edit.drop_logs) s.fold.logs)

  -- an edit while a version waits that it doesn't flush
  pub edit_before_sync : (v : Version) (f : FamilyState) (left : State) → Contains (versions_of waiting) v → family_at next v.family ≡ Some f → f.through.0 < v.seq.0 → StandsFor (with_edit s edit) left → IsOutcomeOr m c next left → ⊥
  edit_before_sync v f left there q lt stands o =
      let i = contains_In (versions_of waiting) v there in
      let a : In v (versions_of (live_batches s ++ waiting)) = subst (λ z. In v z) (sym (versions_append (live_batches s) waiting)) (In-right v (versions_of (live_batches s)) (versions_of waiting) i) in
      let b = rest_live v (left_has v f left a q lt stands o) in
      let d : In v (versions_of (live_batches s)) = subst (λ z. In v (versions_of z)) (sym all_parts)
      (subst (λ z. In v z) (sym (versions_append (batches_of s.logs (take (length edit.drop_logs) s.fold.logs)) (batches_of s.logs (drop (length edit.drop_logs) s.fold.logs))))
      (In-right v (versions_of (batches_of s.logs (take (length edit.drop_logs) s.fold.logs))) (versions_of (batches_of s.logs (drop (length edit.drop_logs) s.fold.logs))) b)) in
      let l = versions_upto s.fold.last.0 (live_batches s) v (front_above m c s waiting h) d in
      let u = (versions-In (durable_last s) waiting v (waiting_above m c s waiting h) i).0 in
      let z = durable_is m c s waiting h in
      omega (arith, l, u, z)

  -- a log that is dropped with a version that isn't flushed
  pub dropped_too_early : (n : ℕ) (v : Version) (f : FamilyState) (left : State) → Contains edit.drop_logs n → Contains (versions_of (s.logs n)) v → family_at next v.family ≡ Some f → f.through.0 < v.seq.0 → StandsFor (with_edit s edit) left → IsOutcomeOr m c next left → ⊥
  dropped_too_early n v f left i j q lt stands o =
      let front = batches_of s.logs (take (length edit.drop_logs) s.fold.logs) in
      let rest = batches_of s.logs (drop (length edit.drop_logs) s.fold.logs) in
      let x : In v (versions_of front) = batches_from s.logs (take (length edit.drop_logs) s.fold.logs) n v (subst (λ z. In n z) e.accepted.logs.oldest (contains_In edit.drop_logs n i)) (contains_In (versions_of (s.logs n)) v j) in
      let d : In v (versions_of (live_batches s)) = subst (λ z. In v (versions_of z)) (sym all_parts) (subst (λ z. In v z) (sym (versions_append front rest)) (In-left v (versions_of front) (versions_of rest) x)) in
      let a : In v (versions_of (live_batches s ++ waiting)) = subst (λ z. In v z) (sym (versions_append (live_batches s) waiting)) (In-left v (versions_of (live_batches s)) (versions_of waiting) d) in
      let y = rest_live v (left_has v f left a q lt stands o) in
      let p = above_parts 0 front rest (subst (Above 0) all_parts (front_above m c s waiting h)) in
      let l = (versions-In 0 front v p.0 x).1 in
      let u = (versions-In (last_of 0 front) rest v p.1 y).0 in
      omega (arith, l, u)

-- ---- a live file that isn't there

pub missing_log : (g : Grammar) (folder : Folder) (s : Says) (n : ℕ) → Contains s.fold.logs n → folder (Log n) ≡ None → FolderSays g folder s → ⊥
missing_log g folder s n i e r = subst (λ z. ReadsAs (sizes_of s.fold) (s.logs n) z) e (r.logs n i)

pub missing_table : (g : Grammar) (folder : Folder) (s : Says) (i : Family) (f : FamilyFold) (t : TableAt) → IsLive s.fold i f t → folder (Table t.number) ≡ None → FolderSays g folder s → ⊥
missing_table g folder s i f t l e r = subst (λ z. TableReads g z (s.tables t.number)) e (r.tables i f t l)
