-- The numbers of the files that jobs write, behind calls that add and remove no table.
use Rattle.std.proofs.Common.{◌≡◌, ℕ, zero, suc, ◌<◌, Bool, List, [], ◌∷◌, Some, refl, sym, ap, ◌∙◌, subst, inl, inr}
use Rattle.std.specs.Prelude.{nat_lt, not, ◌||◌, ◌==◌, slice_get, slice_set}
use Rattle.std.specs.List.{list_any}
use Rattle.std.proofs.lemmas.Bool.{cases_Bool, eqb-true, ne_eqb}
use Rattle.ts_key.specs.declared.numbers.Family.{Family}
use Rattle.ts_key.specs.declared.numbers.Seq.{Seq}
use Rattle.ts_key.specs.declared.numbers.Ts.{Ts}
use Rattle.udt_disk.specs.declared.file.DiskFile as file
use Rattle.manifest_edit.specs.declared.edit.FamilyEdit.{FamilyEdit}
use Rattle.manifest_edit.specs.declared.edit.TableAt.{TableAt}
use Rattle.manifest_edit.specs.LiveTables.{has_table_number, place_table, without_tables}
use Rattle.manifest_fold.specs.declared.fold.FamilyFold.{FamilyFold}
use Rattle.manifest_fold.specs.declared.fold.Folded.{Folded}
use Rattle.manifest_fold.specs.Folds.{family_with, fold_with, is_live}
use Rattle.manifest.specs.Manifest.{manifest_folded}
use Rattle.floor_laws.proofs.Members.{filter_every}
use Rattle.engine_laws.specs.Installs.{flush_edit, raise_edit}
use Rattle.engine_laws.proofs.Folding.{families_part}
use Rattle.store_engine.specs.Jobs.{IsJobNumber}
use Rattle.store_engine.specs.declared.engine.Engine.{Engine}

any_set : {X : Type 0} (p : X → Bool) (xs : List X) (n : ℕ) (old new : X) → slice_get xs n ≡ Some old → p new ≡ p old → list_any p (slice_set xs n new) ≡ list_any p xs
any_set p [] n old new there same = refl
any_set p (x ∷ xs) zero old new there same = let e : x ≡ old = cc in ap (λ b. b || list_any p xs) (same ∙ ap p (sym e))
any_set p (x ∷ xs) (suc n) old new there same = ap (λ b. p x || b) (any_set p xs n old new there same)

-- a raise changes no table
pub raised_live : (fold : Folded) (last : Seq) (next : ℕ) (family : Family) (old : FamilyFold) (floor : Ts) → slice_get fold.families family.0 ≡ Some old → (n : ℕ) → is_live (fold_with fold (raise_edit last next family old floor)).families n ≡ is_live fold.families n
raised_live fold last next family old floor there n =
    let e : FamilyEdit = record { family = family; floor = floor; through = old.through; add = []; remove = [] } in
    let kept : without_tables [] old.tables ≡ old.tables = filter_every (λ (t : TableAt). not (list_any (λ k. t.number == k) [])) old.tables (λ t j. refl) in
    ap (λ (fs : List FamilyFold). is_live fs n) (families_part fold.families e old there)
    ∙ any_set (λ (f : FamilyFold). has_table_number f.tables n) fold.families family.0 old (family_with old e) there (ap (λ ts. has_table_number ts n) kept)

placed_other : (ts : List TableAt) (t : TableAt) (n : ℕ) → (t.number ≡ n → ⊥) → has_table_number (place_table t ts) n ≡ has_table_number ts n
placed_other [] t n ne = let e = ne_eqb t.number n ne in rw e refl
placed_other (u ∷ us) t n ne =
    let e = ne_eqb t.number n ne in
    elim (cases_Bool (nat_lt t.number u.number)) [
      | inl y ↦ rw (y, e) refl
      | inr y ↦ elim (cases_Bool (t.number == u.number)) [
        | inl same ↦
            let is : t.number ≡ u.number = eqb-true t.number u.number same in
            let o = ne_eqb u.number n (λ q. ne (is ∙ q)) in
            rw (y, same, e, o) refl
        | inr other ↦ rw (y, other) (ap (λ b. (u.number == n) || b) (placed_other us t n ne))
      ]
    ]

-- a flush makes one table live
pub flushed_live : (fold : Folded) (last : Seq) (next : ℕ) (gone : List ℕ) (family : Family) (old : FamilyFold) (floor : Ts) (through : Seq) (number : ℕ) → slice_get fold.families family.0 ≡ Some old → (n : ℕ) → (n ≡ number → ⊥) → is_live (fold_with fold (flush_edit last next gone family floor through number)).families n ≡ is_live fold.families n
flushed_live fold last next gone family old floor through number there n ne =
    let added : TableAt = record { level = 0; number = number } in
    let e : FamilyEdit = record { family = family; floor = floor; through = through; add = added ∷ []; remove = [] } in
    let kept : without_tables [] old.tables ≡ old.tables = filter_every (λ (t : TableAt). not (list_any (λ k. t.number == k) [])) old.tables (λ t j. refl) in
    ap (λ (fs : List FamilyFold). is_live fs n) (families_part fold.families e old there)
    ∙ any_set (λ (f : FamilyFold). has_table_number f.tables n) fold.families family.0 old (family_with old e) there
    (placed_other (without_tables [] old.tables) added n (λ q. ne (sym q)) ∙ ap (λ ts. has_table_number ts n) kept)

module _ {D F : Type 0} (f : file.Ghosts F) (old new : Engine D F f) (next : new.next ≡ old.next) where
  pub jobs_stay : ((n : ℕ) → is_live (manifest_folded new.manifest).families n ≡ is_live (manifest_folded old.manifest).families n) → (n : ℕ) → IsJobNumber old n → IsJobNumber new n
  jobs_stay same n job = record { given = subst (λ k. n < k) (sym next) job.given; free = same n ∙ job.free }

  -- where the fold is as it was
  pub jobs_kept : manifest_folded new.manifest ≡ manifest_folded old.manifest → (n : ℕ) → IsJobNumber old n → IsJobNumber new n
  jobs_kept same = jobs_stay (λ n. ap (λ (fold : Folded). is_live fold.families n) same)
