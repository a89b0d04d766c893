-- One family changes, and nothing else.
use Rattle.std.proofs.Common.{◌≡◌, ℕ, Some, None, ap, ◌∙◌}
use Rattle.std.specs.Prelude.{slice_get, slice_set, Result, Ok, Err, IfOk}
use Rattle.super_version.specs.declared.family.FamilyState.{FamilyState}
use Rattle.super_version.specs.declared.version.SuperVersion.{SuperVersion}
use Rattle.super_version.specs.Changes.{ChangesFamily}
use Rattle.super_version.proofs.Lists.{changed_none, changed_to}

module _ {E : Type 0} (n : ℕ) (change : FamilyState → FamilyState) (old : SuperVersion) where
  pub unchanged : (r : Result SuperVersion E) → slice_get old.families n ≡ None → IfOk r (λ new. new ≡ old) → IfOk r (ChangesFamily n change old)
  unchanged (Ok new) none same = record { last = ap (λ (v : SuperVersion). v.last) same; families = ap (λ (v : SuperVersion). v.families) same ∙ changed_none n change old.families none }
  unchanged (Err e) none same = tt

  pub changed : (f g : FamilyState) (r : Result SuperVersion E) → Some f ≡ slice_get old.families n → g ≡ change f → IfOk r (λ new. new.last ≡ old.last) → IfOk r (λ new. new.families ≡ slice_set old.families n g) → IfOk r (ChangesFamily n change old)
  changed f g (Ok new) there is last families = record { last = last; families = families ∙ changed_to n change old.families f g there is }
  changed f g (Err e) there is last families = tt
