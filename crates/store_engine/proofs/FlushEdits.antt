-- The edit of a flush: the manifest accepts it, and has in common with the next super version what it had with the one before.
use Rattle.std.proofs.Common.{◌≡◌, ◌⊎◌, ℕ, ◌<◌, ◌≤◌, false, [], ◌∷◌, drop, length, take, Some, refl, sym, ap, ◌∙◌, subst, arith, inl, inr}
use Rattle.std.specs.Prelude.{All, IsTrue, not, slice_get}
use Rattle.std.proofs.lemmas.List.{append-nil, length-drop, length-take-le}
use Rattle.std.proofs.lemmas.List.Elements.{All-nil}
use Rattle.ts_key.specs.declared.numbers.Family.{Family}
use Rattle.ts_key.specs.declared.numbers.Seq.{Seq}
use Rattle.ts_key.specs.declared.numbers.Ts.{Ts}
use Rattle.manifest_edit.specs.declared.edit.TableAt.{TableAt}
use Rattle.manifest_edit.specs.declared.edit.FamilyEdit.{FamilyEdit}
use Rattle.manifest_edit.specs.declared.edit.Edit.{Edit}
use Rattle.manifest_edit.specs.LiveTables.{has_table_number}
use Rattle.manifest_fold.specs.declared.fold.FamilyFold.{FamilyFold}
use Rattle.manifest_fold.specs.declared.fold.Folded.{Folded}
use Rattle.manifest_fold.specs.declared.limits.TheConstants.{FILE_NUMBER_LIMIT, LOWEST_LEVEL}
use Rattle.manifest_fold.specs.Folds.{IsAccepted, IsFreeNumber, IsLogsEdit, fold_with, is_live, newest_log}
use Rattle.super_version.specs.declared.family.FamilyState.{FamilyState}
use Rattle.super_version.specs.declared.version.SuperVersion.{SuperVersion}
use Rattle.super_version.specs.Changes.{ChangesFamily, family_with_flush}
use Rattle.super_version.specs.Live.{Live}
use Rattle.floor_laws.proofs.Members.{All-from}
use Rattle.engine_laws.specs.Installs.{flush_edit}
use Rattle.engine_laws.specs.Manifests.{IsWell}
use Rattle.engine_laws.proofs.Folding.{families_length, family_from}
use Rattle.recovery.specs.Versions.{FitsFold, IsOfFold}
use Rattle.store_engine.proofs.Current.{get_changed, length_changed, there_too}

some_is : {X : Type 0} (x y : X) → Some x ≡ Some y → x ≡ y
some_is x y e = cc

module _ (fold : Folded) (now : SuperVersion) (fits : FitsFold fold now) (family : Family) (floor : Ts) (through : Seq) (number count file : ℕ) (state : FamilyState) (here : slice_get now.families family.0 ≡ Some state)
    (well : IsWell fold) (some : (count ≡ 0) ⊎ (count < length fold.logs)) (more : fold.next_file ≤ file) (most : file ≤ FILE_NUMBER_LIMIT) (rises : state.floor.0 ≤ floor.0) (from : state.through.0 ≤ through.0) (to : through.0 ≤ now.last.0)
    (below : number < file) (free : is_live fold.families number ≡ false) where
  pub fold_there : (f : FamilyFold) × (slice_get fold.families family.0 ≡ Some f)
  fold_there = there_too now.families fold.families family.0 state fits.all here

  state_is : IsOfFold fold_there.0 state
  state_is = fits.each family.0 fold_there.0 state fold_there.1 here

  abbrev the_edit : Edit
  the_edit = flush_edit now.last file (take count fold.logs) family floor through number

  abbrev part : FamilyEdit
  part = record { family = family; floor = floor; through = through; add = record { level = 0; number = number } ∷ []; remove = [] }

  pub one_stays : count < length fold.logs
  one_stays = let w = well.some in elim some [ inl e ↦ omega (arith, e, w) | inr l ↦ l ]

  taken : length (take count fold.logs) ≡ count
  taken = let l = one_stays in length-take-le count fold.logs (omega (arith, l))

  logs_accepted : IsLogsEdit fold.logs the_edit
  logs_accepted = record {
    ascending = λ k l. absurd (omega (arith, l));
    newer = All-nil (λ n. newest_log fold.logs < n);
    below = All-nil (λ n. n < file);
    oldest = ap (λ n. take n fold.logs) (sym taken);
    one =
        let a = length-drop count fold.logs in
        let b = one_stays in
        subst (λ z. 1 ≤ length z) (sym (append-nil (drop (length (take count fold.logs)) fold.logs))) (subst (λ n. 1 ≤ length (drop n fold.logs)) (sym taken) (omega (arith, a, b)));
  }

  add_is : (P : TableAt → Type 0) → P (record { level = 0; number = number }) → All P part.add
  add_is P p = All-from P part.add (λ t i. elim i [ inl q ↦ subst P q p | inr none ↦ absurd none ])

  pub flush_accepted : IsAccepted fold the_edit
  flush_accepted =
      let low = fits.last in
      let same = ap (λ (t : Ts). t.0) state_is.floor in
      let also = ap (λ (q : Seq). q.0) state_is.through in
      record {
        next = more;
        most = most;
        last = low;
        within = fits.within;
        logs = logs_accepted;
        part = (
          fold_there.0,
          fold_there.1,
          record {
            floor = omega (arith, same, rises);
            through = omega (arith, also, from);
            within = to;
            tables = record {
              added = λ k l. absurd (omega (arith, l));
              removed = λ k l. absurd (omega (arith, l));
              levels = add_is (λ (t : TableAt). t.level ≤ LOWEST_LEVEL) (omega arith);
              below = add_is (λ (t : TableAt). t.number < file) below;
              live = All-nil (λ n. IsTrue (has_table_number fold_there.0.tables n));
              free = add_is (λ (t : TableAt). IsFreeNumber fold.families [] t.number) (subst (λ b. IsTrue (not b)) (sym free) refl);
            };
          },
        );
      }

  pub flushed_fits : (new : SuperVersion) (gone : ℕ) (added : Live) → ChangesFamily family.0 (family_with_flush gone through floor added) now new → FitsFold (fold_with fold the_edit) new
  flushed_fits new gone added changes =
      let change : FamilyState → FamilyState = family_with_flush gone through floor added in
      let last : new.last.0 ≡ now.last.0 = ap (λ (q : Seq). q.0) changes.last in
      let high = fits.within in
      record {
        last = omega (arith, last);
        within = omega (arith, last, high);
        all = ap length changes.families ∙ length_changed family.0 change now.families ∙ fits.all ∙ sym (families_length fold the_edit (Some part) flush_accepted.part);
        each = λ i f g there at.
            let r = get_changed family.0 i change now.families g (subst (λ l. slice_get l i ≡ Some g) changes.families at) in
            elim (family_from fold the_edit part fold_there.0 i f fold_there.1 there) [
              | inl same ↦
                  let is : g ≡ change r.0 = r.2.0 same.0 in
                  let k : r.0 ≡ state = some_is r.0 state (sym r.1 ∙ subst (λ n. slice_get now.families n ≡ Some state) (sym same.0) here) in
                  let o = state_is in
                  record {
                    form = ap (λ (h : FamilyState). h.form) is ∙ ap (λ (h : FamilyState). h.form) k ∙ o.form ∙ ap (λ (h : FamilyFold). h.form) same.1;
                    floor = ap (λ (h : FamilyState). h.floor) is ∙ ap (λ (h : FamilyFold). h.floor) same.1;
                    through = ap (λ (h : FamilyState). h.through) is ∙ ap (λ (h : FamilyFold). h.through) same.1;
                  }
              | inr other ↦
                  let is : g ≡ r.0 = r.2.1 other.0 in
                  let o = fits.each i f r.0 other.1 r.1 in
                  record {
                    form = ap (λ (h : FamilyState). h.form) is ∙ o.form;
                    floor = ap (λ (h : FamilyState). h.floor) is ∙ o.floor;
                    through = ap (λ (h : FamilyState). h.through) is ∙ o.through;
                  }
            ];
      }
