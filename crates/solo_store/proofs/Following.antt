-- Super versions that follow one another: as many families, each flushed up to the same sequence, and no smaller last sequence.
use Rattle.std.proofs.Common.{◌≡◌, ℕ, zero, suc, ◌≤◌, ◌==◌, List, [], ◌∷◌, length, Option, Some, None, refl, sym, ap, ◌∙◌, subst, arith, inl, inr}
use Rattle.std.specs.Prelude.{slice_get}
use Rattle.std.proofs.lemmas.Bool.{cases_Bool, eqb-true, false≢true, eq-eqb}
use Rattle.ts_key.specs.declared.batch.WriteOp.{WriteOp}
use Rattle.ts_key.specs.declared.numbers.Seq.{Seq}
use Rattle.ts_key.specs.declared.version.Version.{Version}
use Rattle.udt_model.specs.Versions.{made}
use Rattle.super_version.specs.Changes.{ChangesFamily}
use Rattle.super_version.specs.Writes.{AddsBatch, AreWrittenTo}
use Rattle.super_version.specs.declared.family.FamilyState.{FamilyState}
use Rattle.super_version.specs.declared.version.SuperVersion.{SuperVersion}
use Rattle.store_engine.proofs.Current.{get_changed, length_changed}
use Rattle.solo_store.specs.Stores.{MayEndIf}
use Rattle.solo_store.specs.declared.store.RunningFlush.{RunningFlush}

-- the family at this place was flushed up to the same sequence
pub record IsFlushedAs (families : List FamilyState) (i : ℕ) (g : FamilyState) : Type 0 where
  pub before : FamilyState
  pub at : slice_get families i ≡ Some before
  pub through : before.through ≡ g.through

pub record Follows (old new : SuperVersion) : Type 0 where
  pub count : length new.families ≡ length old.families
  pub last : old.last.0 ≤ new.last.0
  pub each : (i : ℕ) (g : FamilyState) → slice_get new.families i ≡ Some g → IsFlushedAs old.families i g

pub follows_itself : (v : SuperVersion) → Follows v v
follows_itself v = record { count = refl; last = omega arith; each = λ i g at. record { before = g; at = at; through = refl } }

pub follows_changed : (n : ℕ) (change : FamilyState → FamilyState) (old new : SuperVersion) → ((g : FamilyState) → (change g).through ≡ g.through) → ChangesFamily n change old new → Follows old new
follows_changed n change old new keeps is = record {
  count = ap length is.families ∙ length_changed n change old.families;
  last = let e = ap (λ (s : Seq). s.0) is.last in omega (arith, e);
  each = λ i g at.
      let r = get_changed n i change old.families g (subst (λ (gs : List FamilyState). slice_get gs i ≡ Some g) is.families at) in
      elim (cases_Bool (i == n)) [
        | inl y ↦ record { before = r.0; at = r.1; through = sym (ap (λ (h : FamilyState). h.through) (r.2.0 (eqb-true i n y)) ∙ keeps r.0) }
        | inr y ↦ record { before = r.0; at = r.1; through = sym (ap (λ (h : FamilyState). h.through) (r.2.1 (λ e. false≢true (sym y ∙ eq-eqb i n e)))) }
      ];
}

count_written : (vs : List Version) (fs gs : List FamilyState) → AreWrittenTo vs fs gs → length gs ≡ length fs
count_written vs [] gs are = ap length are
count_written vs (f ∷ fs) [] are = absurd are
count_written vs (f ∷ fs) (g ∷ gs) are = ap suc (count_written vs fs gs are.1)

none_at : (i : ℕ) (g : FamilyState) → slice_get [] i ≡ Some g → ⊥
none_at i g at = absurd (cc)

written_at : (vs : List Version) (fs gs : List FamilyState) → AreWrittenTo vs fs gs → (i : ℕ) (g : FamilyState) → slice_get gs i ≡ Some g → IsFlushedAs fs i g
written_at vs [] gs are i g at = absurd (none_at i g (subst (λ (hs : List FamilyState). slice_get hs i ≡ Some g) are at))
written_at vs (f ∷ fs) [] are i g at = absurd are
written_at vs (f ∷ fs) (h ∷ gs) are zero g at = record { before = f; at = refl; through = sym (ap (λ (x : FamilyState). x.through) (sym (some_is h g at) ∙ are.0.others)) }
  where
    some_is : (x y : FamilyState) → Some x ≡ Some y → x ≡ y
    some_is x y e = cc
written_at vs (f ∷ fs) (h ∷ gs) are (suc i) g at = let r = written_at vs fs gs are.1 i g at in record { before = r.before; at = r.at; through = r.through }

pub follows_written : (ops : List WriteOp) (old new : SuperVersion) → AddsBatch ops old new → Follows old new
follows_written ops old new adds = record {
  count = count_written (made old.last.0 ops) old.families new.families adds.families;
  last = let e = adds.last in omega (arith, e);
  each = written_at (made old.last.0 ops) old.families new.families adds.families;
}

-- a flush that might end may end still
pub may_end_later : (o : Option RunningFlush) (old new : SuperVersion) → Follows old new → MayEndIf o old → MayEndIf o new
may_end_later None old new follows may = tt
may_end_later (Some flush) old new follows may = record {
  known = let e = follows.count in let known = may.known in omega (arith, e, known);
  from = λ g at. let r = follows.each flush.family.0 g at in subst (λ (s : Seq). s.0 ≤ flush.through.0) r.through (may.from r.before r.at);
  to = let a = follows.last in let b = may.to in omega (arith, a, b);
}
