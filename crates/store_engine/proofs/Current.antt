-- What a super version has in common with the manifest, behind a write and behind a raise.
use Rattle.std.proofs.Common.{◌≡◌, ℕ, zero, suc, ◌+◌, ◌<◌, ◌≤◌, List, [], ◌∷◌, length, Some, refl, sym, ap, ◌∙◌, subst, arith, inl, inr}
use Rattle.std.specs.Prelude.{IsTrue, slice_get}
use Rattle.std.proofs.lemmas.List.{append-nil}
use Rattle.std.proofs.lemmas.List.Elements.{All-nil}
use Rattle.ts_key.specs.declared.limits.TheConstants.{SEQUENCE_LIMIT}
use Rattle.ts_key.specs.declared.numbers.Family.{Family}
use Rattle.ts_key.specs.declared.numbers.Seq.{Seq}
use Rattle.ts_key.specs.declared.numbers.Ts.{Ts}
use Rattle.ts_key.specs.declared.batch.WriteOp.{WriteOp}
use Rattle.ts_key.specs.declared.version.Version.{Version}
use Rattle.udt_model.specs.Versions.{made}
use Rattle.manifest_edit.specs.declared.edit.TableAt.{TableAt}
use Rattle.manifest_edit.specs.declared.edit.FamilyEdit.{FamilyEdit}
use Rattle.manifest_edit.specs.declared.edit.Edit.{Edit}
use Rattle.manifest_edit.specs.LiveTables.{has_table_number}
use Rattle.manifest_fold.specs.declared.fold.FamilyFold.{FamilyFold}
use Rattle.manifest_fold.specs.declared.fold.Folded.{Folded}
use Rattle.manifest_fold.specs.declared.limits.TheConstants.{FILE_NUMBER_LIMIT, LOWEST_LEVEL}
use Rattle.manifest_fold.specs.Folds.{IsAccepted, IsFreeNumber, IsLogsEdit, fold_with, newest_log}
use Rattle.super_version.specs.declared.family.FamilyState.{FamilyState}
use Rattle.super_version.specs.declared.version.SuperVersion.{SuperVersion}
use Rattle.super_version.specs.Changes.{ChangesFamily, family_with_floor}
use Rattle.super_version.specs.Levels.{item_changed_at}
use Rattle.super_version.specs.Writes.{AddsBatch, AreWrittenTo}
use Rattle.engine_laws.specs.Installs.{raise_edit}
use Rattle.engine_laws.specs.Manifests.{IsWell}
use Rattle.engine_laws.proofs.Folding.{family_from, families_length}
use Rattle.recovery.specs.Versions.{FitsFold, IsOfFold}

-- ---- places

-- what is in the one list as in the other of that length
pub there_too : {X Y : Type 0} (xs : List X) (ys : List Y) (i : ℕ) (x : X) → length xs ≡ length ys → slice_get xs i ≡ Some x → (y : Y) × (slice_get ys i ≡ Some y)
there_too [] ys i x same there = absurd cc
there_too (a ∷ xs) [] i x same there = absurd (omega (arith, same))
there_too (a ∷ xs) (b ∷ ys) zero x same there = (b, refl)
there_too (a ∷ xs) (b ∷ ys) (suc i) x same there = there_too xs ys i x (omega (arith, same)) there

some_is : {X : Type 0} (x y : X) → Some x ≡ Some y → x ≡ y
some_is x y e = cc

-- what stands in a list of which one is changed
pub get_changed : {X : Type 0} (n k : ℕ) (change : X → X) (xs : List X) (y : X) → slice_get (item_changed_at n change xs) k ≡ Some y → (x : X) × (slice_get xs k ≡ Some x) × ((k ≡ n → y ≡ change x) × ((k ≡ n → ⊥) → y ≡ x))
get_changed n k change [] y there = absurd cc
get_changed zero zero change (x ∷ xs) y there = (x, refl, ((λ e. sym (some_is (change x) y there)), λ ne. absurd (ne refl)))
get_changed zero (suc k) change (x ∷ xs) y there = (y, there, ((λ e. absurd (omega (arith, e))), λ ne. refl))
get_changed (suc n) zero change (x ∷ xs) y there = (x, refl, ((λ e. absurd (omega (arith, e))), λ ne. sym (some_is x y there)))
get_changed (suc n) (suc k) change (x ∷ xs) y there =
    let r = get_changed n k change xs y there in
    (r.0, r.1, ((λ e. r.2.0 (omega (arith, e))), λ ne. r.2.1 (λ e. ne (ap suc e))))

pub length_changed : {X : Type 0} (n : ℕ) (change : X → X) (xs : List X) → length (item_changed_at n change xs) ≡ length xs
length_changed n change [] = refl
length_changed zero change (x ∷ xs) = refl
length_changed (suc n) change (x ∷ xs) = ap suc (length_changed n change xs)

-- ---- a write

-- form, floor and `through` are as before
pub record IsAlike (f g : FamilyState) : Type 0 where
  pub form : g.form ≡ f.form
  pub floor : g.floor ≡ f.floor
  pub through : g.through ≡ f.through

alike_at : (f g : FamilyState) → g ≡ record f { active = g.active } → IsAlike f g
alike_at f g is = record { form = ap (λ (h : FamilyState). h.form) is; floor = ap (λ (h : FamilyState). h.floor) is; through = ap (λ (h : FamilyState). h.through) is }

written_length : (vs : List Version) (old new : List FamilyState) → AreWrittenTo vs old new → length new ≡ length old
written_length vs [] new are = ap length are
written_length vs (f ∷ old) [] are = absurd are
written_length vs (f ∷ old) (g ∷ new) are = ap suc (written_length vs old new are.1)

written_at : (vs : List Version) (old new : List FamilyState) → AreWrittenTo vs old new → (i : ℕ) (g : FamilyState) → slice_get new i ≡ Some g → (f : FamilyState) × (slice_get old i ≡ Some f) × IsAlike f g
written_at vs [] new are i g there = absurd (let e : slice_get [] i ≡ Some g = subst (λ l. slice_get l i ≡ Some g) are there in cc)
written_at vs (f ∷ old) [] are i g there = absurd are
written_at vs (f ∷ old) (h ∷ new) are zero g there = let e : h ≡ g = some_is h g there in (f, refl, subst (IsAlike f) e (alike_at f h are.0.others))
written_at vs (f ∷ old) (h ∷ new) are (suc i) g there = written_at vs old new are.1 i g there

pub written_fits : (fold : Folded) (ops : List WriteOp) (old new : SuperVersion) → AddsBatch ops old new → old.last.0 + length ops ≤ SEQUENCE_LIMIT → FitsFold fold old → FitsFold fold new
written_fits fold ops old new adds room fits =
    let e = adds.last in
    let low = fits.last in
    record {
      last = omega (arith, e, low);
      within = omega (arith, e, room);
      all = written_length (made old.last.0 ops) old.families new.families adds.families ∙ fits.all;
      each = λ i f g there here.
          let w = written_at (made old.last.0 ops) old.families new.families adds.families i g here in
          let o = fits.each i f w.0 there w.1 in
          record { form = w.2.form ∙ o.form; floor = w.2.floor ∙ o.floor; through = w.2.through ∙ o.through };
    }

-- ---- a raise

module _ (fold : Folded) (now : SuperVersion) (fits : FitsFold fold now) (family : Family) (floor : Ts) (state : FamilyState) (here : slice_get now.families family.0 ≡ Some state) where
  -- the family of the manifest
  pub fold_there : (f : FamilyFold) × (slice_get fold.families family.0 ≡ Some f)
  fold_there = there_too now.families fold.families family.0 state fits.all here

  abbrev pub family_there : FamilyFold
  family_there = fold_there.0

  pub state_is : IsOfFold family_there state
  state_is = fits.each family.0 family_there state fold_there.1 here

  module _ (next : ℕ) (well : IsWell fold) (rises : state.floor.0 ≤ floor.0) (more : fold.next_file ≤ next) (most : next ≤ FILE_NUMBER_LIMIT) where
    abbrev pub the_edit : Edit
    the_edit = raise_edit now.last next family family_there floor

    logs_accepted : IsLogsEdit fold.logs the_edit
    logs_accepted = record {
      ascending = λ k l. absurd (omega (arith, l));
      newer = All-nil (λ n. newest_log fold.logs < n);
      below = All-nil (λ n. n < next);
      oldest = refl;
      one = subst (λ z. 1 ≤ length z) (sym (append-nil fold.logs)) well.some;
    }

    pub raise_accepted : IsAccepted fold the_edit
    raise_accepted =
        let low = fits.last in
        let up = well.through family family_there fold_there.1 in
        let same = ap (λ (t : Ts). t.0) state_is.floor in
        record {
          next = more;
          most = most;
          last = low;
          within = fits.within;
          logs = logs_accepted;
          part = (
            family_there,
            fold_there.1,
            record {
              floor = omega (arith, same, rises);
              through = omega arith;
              within = omega (arith, up, low);
              tables = record {
                added = λ k l. absurd (omega (arith, l));
                removed = λ k l. absurd (omega (arith, l));
                levels = All-nil (λ (t : TableAt). t.level ≤ LOWEST_LEVEL);
                below = All-nil (λ (t : TableAt). t.number < next);
                live = All-nil (λ n. IsTrue (has_table_number family_there.tables n));
                free = All-nil (λ (t : TableAt). IsFreeNumber fold.families [] t.number);
              };
            },
          );
        }

    pub raised_fits : (new : SuperVersion) → ChangesFamily family.0 (family_with_floor floor) now new → FitsFold (fold_with fold the_edit) new
    raised_fits new changes =
        let e : FamilyEdit = record { family = family; floor = floor; through = family_there.through; add = []; remove = [] } in
        let last : new.last.0 ≡ now.last.0 = ap (λ (q : Seq). q.0) changes.last in
        let high = fits.within in
        record {
          last = omega (arith, last);
          within = omega (arith, last, high);
          all = ap length changes.families ∙ length_changed family.0 (family_with_floor floor) now.families ∙ fits.all ∙ sym (families_length fold the_edit (Some e) raise_accepted.part);
          each = λ i f g there at.
              let r = get_changed family.0 i (family_with_floor floor) now.families g (subst (λ l. slice_get l i ≡ Some g) changes.families at) in
              elim (family_from fold the_edit e family_there i f fold_there.1 there) [
                | inl same ↦
                    let is : g ≡ family_with_floor floor r.0 = r.2.0 same.0 in
                    let k : r.0 ≡ state = some_is r.0 state (sym r.1 ∙ subst (λ n. slice_get now.families n ≡ Some state) (sym same.0) here) in
                    let o = state_is in
                    record {
                      form = ap (λ (h : FamilyState). h.form) is ∙ ap (λ (h : FamilyState). h.form) k ∙ o.form ∙ ap (λ (h : FamilyFold). h.form) same.1;
                      floor = ap (λ (h : FamilyState). h.floor) is ∙ ap (λ (h : FamilyFold). h.floor) same.1;
                      through = ap (λ (h : FamilyState). h.through) is ∙ ap (λ (h : FamilyState). h.through) k ∙ o.through ∙ ap (λ (h : FamilyFold). h.through) same.1;
                    }
                | inr other ↦
                    let is : g ≡ r.0 = r.2.1 other.0 in
                    let o = fits.each i f r.0 other.1 r.1 in
                    record {
                      form = ap (λ (h : FamilyState). h.form) is ∙ o.form;
                      floor = ap (λ (h : FamilyState). h.floor) is ∙ o.floor;
                      through = ap (λ (h : FamilyState). h.through) is ∙ o.through;
                    }
              ];
        }
