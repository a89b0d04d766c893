-- A super version with another floor shows the state behind the raise.
use Rattle.std.proofs.Common.{◌≡◌, ◌⊎◌, ℕ, zero, suc, ◌≤◌, List, [], ◌∷◌, length, Option, Some, None, refl, sym, ap, ◌∙◌, subst, arith, inl, inr}
use Rattle.std.specs.Prelude.{nat_lt, slice_get}
use Rattle.std.specs.List.{AllByRecursion}
use Rattle.std.proofs.lemmas.Bool.{cases_Bool, ltb-false}
use Rattle.ts_key.specs.declared.numbers.Family.{Family}
use Rattle.ts_key.specs.declared.numbers.Ts.{Ts}
use Rattle.ts_key.specs.declared.version.Version.{Version}
use Rattle.udt_model.specs.declared.reply.Reply.TheVariants.{Done}
use Rattle.udt_model.specs.Acts.Act.{raise}
use Rattle.udt_model.specs.State as model
use Rattle.udt_model.specs.State.{State, family_at}
use Rattle.udt_model.specs.State.{FamilyState as ModelFamily}
use Rattle.udt_model.specs.Steps.{after}
use Rattle.udt_model.specs.Versions.{between}
use Rattle.super_version.specs.Changes.{ChangesFamily, family_with_floor}
use Rattle.super_version.specs.Levels.{item_changed_at}
use Rattle.super_version.specs.declared.family.FamilyState.{FamilyState}
use Rattle.super_version.specs.declared.version.SuperVersion.{SuperVersion}
use Rattle.floor_laws.proofs.States.{changed_other, changed_same, length-changed, some_same}
use Rattle.store_engine.specs.Admission.{raise_fault}
use Rattle.store_engine.specs.Now.{FitsFamily, IsBeingFlushed, IsNow, IsFamilyNow}
use Rattle.store_engine.specs.declared.fault.EngineFault.{EngineFault}
use Rattle.store_engine.specs.declared.fault.EngineFault.TheVariants.{FloorFell}
use Rattle.store_engine.proofs.Admitting.{both}
use Rattle.store_engine.proofs.Current.{get_changed}

-- ---- one item changed

kept_length : {X : Type 0} (n : ℕ) (change : X → X) (xs : List X) → length (item_changed_at n change xs) ≡ length xs
kept_length n change [] = refl
kept_length zero change (x ∷ xs) = refl
kept_length (suc n) change (x ∷ xs) = ap suc (kept_length n change xs)

at_place : {X : Type 0} (n : ℕ) (change : X → X) (xs : List X) (x : X) → slice_get xs n ≡ Some x → slice_get (item_changed_at n change xs) n ≡ Some (change x)
at_place n change [] x e = absurd cc
at_place zero change (y ∷ ys) x e = let q : y ≡ x = cc in ap (λ z. Some (change z)) q
at_place (suc n) change (y ∷ ys) x e = at_place n change ys x e

elsewhere : {X : Type 0} (n : ℕ) (change : X → X) (xs : List X) (k : ℕ) → (k ≡ n → ⊥) → slice_get (item_changed_at n change xs) k ≡ slice_get xs k
elsewhere n change [] k ne = refl
elsewhere zero change (y ∷ ys) zero ne = absurd (ne refl)
elsewhere zero change (y ∷ ys) (suc k) ne = refl
elsewhere (suc n) change (y ∷ ys) zero ne = refl
elsewhere (suc n) change (y ∷ ys) (suc k) ne = elsewhere n change ys k (λ e. ne (ap suc e))

pub same_or_not : (a b : ℕ) → (a ≡ b) ⊎ (a ≡ b → ⊥)
same_or_not zero zero = inl refl
same_or_not zero (suc b) = inr (λ e. omega (arith, e))
same_or_not (suc a) zero = inr (λ e. omega (arith, e))
same_or_not (suc a) (suc b) = elim (same_or_not a b) [ inl e ↦ inl (ap suc e) | inr n ↦ inr (λ e. n (omega (arith, e))) ]

-- ---- one family

all_weaker : {X : Type 0} (P Q : X → Type 0) (xs : List X) → ((x : X) → P x → Q x) → AllByRecursion P xs → AllByRecursion Q xs
all_weaker P Q [] f h = tt
all_weaker P Q (x ∷ xs) f h = (f x h.0, all_weaker P Q xs f h.1)

fits_higher : (g : FamilyState) (floor : Ts) → g.floor.0 ≤ floor.0 → AllByRecursion (AllByRecursion (FitsFamily g.form g.floor)) g.levels → AllByRecursion (AllByRecursion (FitsFamily g.form floor)) g.levels
fits_higher g floor high h = all_weaker (AllByRecursion (FitsFamily g.form g.floor)) (AllByRecursion (FitsFamily g.form floor)) g.levels
    (λ tables k. all_weaker (FitsFamily g.form g.floor) (FitsFamily g.form floor) tables (λ t fits. let c = fits.collected in record { form_is = fits.form_is; collected = omega (arith, c, high) }) k) h

family_raised : (i : Family) (unflushed : List Version) (f : ModelFamily) (g : FamilyState) (floor : Ts) → g.floor.0 ≤ floor.0 → IsFamilyNow i unflushed f g → IsFamilyNow i unflushed (model.with_floor floor f) (family_with_floor floor g)
family_raised i unflushed f g floor high s = record {
  form = s.form;
  floor = refl;
  through = s.through;
  number = record { active = s.number.active; sealed = s.number.sealed; tables = s.number.tables };
  holds = s.holds;
  tables = s.tables;
  levels = s.levels;
  order = s.order;
  fit = fits_higher g floor high s.fit;
}

not_below : (g : FamilyState) (floor : Ts) → raise_fault (Some g) floor ≡ None → g.floor.0 ≤ floor.0
not_below g floor ok = elim (cases_Bool (nat_lt floor.0 g.floor.0)) [
  | inl y ↦ let h : ◌≡◌ {A = Option EngineFault} (Some (FloorFell g.floor)) None = rw y at ok in absurd (cc)
  | inr y ↦ ltb-false floor.0 g.floor.0 y
]

-- ---- all families

pub now_raised : (m : State) (old new : SuperVersion) (number : ℕ) (family : Family) (floor : Ts) → raise_fault (slice_get old.families family.0) floor ≡ None → IsNow old m → ChangesFamily family.0 (family_with_floor floor) old new → IsNow new (after m number (raise family floor) Done)
now_raised m old new number family floor ok shows changes = record {
  last = changes.last ∙ shows.last;
  count = ap length changes.families ∙ kept_length family.0 (family_with_floor floor) old.families ∙ shows.count ∙ sym (length-changed m.families family.0 (model.with_floor floor));
  families = λ i f g of there. elim (both m.families old.families i.0 (sym shows.count)) [
    | inl none ↦ absurd (gone i f of none.0)
    | inr some ↦ each i f g some.0 some.1.0 of there some.1.1.0 some.1.1.1
  ];
  flush = λ job g is there.
      let o = get_changed family.0 job.family.0 (family_with_floor floor) old.families g (subst (λ l. slice_get l job.family.0 ≡ Some g) changes.families there) in
      let being = shows.flush job o.0 is o.1 in
      elim (same_or_not job.family.0 family.0) [
        | inl e ↦ subst (IsBeingFlushed job) (sym (o.2.0 e)) (record { taken = being.taken; later = being.later })
        | inr n ↦ subst (IsBeingFlushed job) (sym (o.2.1 n)) being
      ];
} where
  gone : (i : Family) (f : ModelFamily) → slice_get (model.changed_at family.0 (model.with_floor floor) m.families) i.0 ≡ Some f → slice_get m.families i.0 ≡ None → ⊥
  gone i f of none = elim (same_or_not i.0 family.0) [
    | inl e ↦ within m.families family.0 (model.with_floor floor) i.0 f none of
    | inr n ↦ let e = sym of ∙ changed_other m.families family.0 (model.with_floor floor) i.0 n ∙ none in absurd (cc)
  ] where
    within : (fs : List ModelFamily) (n : ℕ) (change : ModelFamily → ModelFamily) (k : ℕ) (x : ModelFamily) → slice_get fs k ≡ None → slice_get (model.changed_at n change fs) k ≡ Some x → ⊥
    within [] n change k x none at = cc
    within (y ∷ ys) zero change zero x none at = cc
    within (y ∷ ys) zero change (suc k) x none at = cc
    within (y ∷ ys) (suc n) change zero x none at = cc
    within (y ∷ ys) (suc n) change (suc k) x none at = within ys n change k x none at

  each : (i : Family) (f : ModelFamily) (g : FamilyState) (f0 : ModelFamily) (g0 : FamilyState) → slice_get (model.changed_at family.0 (model.with_floor floor) m.families) i.0 ≡ Some f → slice_get new.families i.0 ≡ Some g → slice_get m.families i.0 ≡ Some f0 → slice_get old.families i.0 ≡ Some g0
      → IsFamilyNow i (between i f.through.0 m.last.0 m.versions) f g
  each i f g f0 g0 of there of0 there0 =
      let s = shows.families i f0 g0 of0 there0 in
      let now_at : slice_get (item_changed_at family.0 (family_with_floor floor) old.families) i.0 ≡ Some g = sym (ap (λ (l : List FamilyState). slice_get l i.0) changes.families) ∙ there in
      elim (same_or_not i.0 family.0) [
        | inl e ↦
            let a = changed_same m.families family.0 (model.with_floor floor) f0 (subst (λ (n : ℕ). slice_get m.families n ≡ Some f0) e of0) in
            let b = at_place family.0 (family_with_floor floor) old.families g0 (subst (λ (n : ℕ). slice_get old.families n ≡ Some g0) e there0) in
            let fe : model.with_floor floor f0 ≡ f = some_same (model.with_floor floor f0) f (sym a ∙ subst (λ (n : ℕ). slice_get (model.changed_at family.0 (model.with_floor floor) m.families) n ≡ Some f) e of) in
            let ge : family_with_floor floor g0 ≡ g = some_same (family_with_floor floor g0) g (sym b ∙ subst (λ (n : ℕ). slice_get (item_changed_at family.0 (family_with_floor floor) old.families) n ≡ Some g) e now_at) in
            let high = not_below g0 floor (ap (λ (z : Option FamilyState). raise_fault z floor) (sym there0 ∙ ap (slice_get old.families) e) ∙ ok) in
            subst (λ (z : ModelFamily). IsFamilyNow i (between i z.through.0 m.last.0 m.versions) z g) fe
            (subst (IsFamilyNow i (between i f0.through.0 m.last.0 m.versions) (model.with_floor floor f0)) ge (family_raised i (between i f0.through.0 m.last.0 m.versions) f0 g0 floor high s))
        | inr n ↦
            let fe : f0 ≡ f = some_same f0 f (sym (changed_other m.families family.0 (model.with_floor floor) i.0 n ∙ of0) ∙ of) in
            let ge : g0 ≡ g = some_same g0 g (sym (elsewhere family.0 (family_with_floor floor) old.families i.0 n ∙ there0) ∙ now_at) in
            subst (λ (z : ModelFamily). IsFamilyNow i (between i z.through.0 m.last.0 m.versions) z g) fe (subst (IsFamilyNow i (between i f0.through.0 m.last.0 m.versions) f0) ge s)
      ]
