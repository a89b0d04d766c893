-- When two names are one.
use Rattle.std.proofs.Common.{◌≡◌, ◌≢◌, ◌⊎◌, inl, inr, ℕ, Bool, true, false, refl, sym, ap, ◌∙◌, eqb}
use Rattle.std.proofs.lemmas.Bool.{false≢true, false_from_ne_true}
use Rattle.std.proofs.lemmas.Bool.Decides.{nat_tests}
use Rattle.std.proofs.Common.{arith}
use Rattle.udt_disk.specs.Names.{same_name}
use Rattle.udt_disk.specs.declared.name.FileName.{FileName}
use Rattle.udt_disk.specs.declared.name.FileName.TheVariants.{Manifest0, Manifest1, Current, Made, Log, Table}

eqb_self : (a : ℕ) → eqb a a ≡ true
eqb_self a = grind (arith, nat_tests)

eqb_same : (a b : ℕ) → eqb a b ≡ true → a ≡ b
eqb_same a b h = grind (arith, nat_tests)

pub same_name-self : (n : FileName) → same_name n n ≡ true
same_name-self Manifest0 = refl
same_name-self Manifest1 = refl
same_name-self Current = refl
same_name-self Made = refl
same_name-self (Log a) = eqb_self a
same_name-self (Table a) = eqb_self a

pub same_from_test : (a b : FileName) → same_name a b ≡ true → a ≡ b
same_from_test Manifest0 Manifest0 h = refl
same_from_test Manifest0 Manifest1 h = absurd (false≢true h)
same_from_test Manifest0 Current h = absurd (false≢true h)
same_from_test Manifest0 Made h = absurd (false≢true h)
same_from_test Manifest0 (Log b) h = absurd (false≢true h)
same_from_test Manifest0 (Table b) h = absurd (false≢true h)
same_from_test Manifest1 Manifest0 h = absurd (false≢true h)
same_from_test Manifest1 Manifest1 h = refl
same_from_test Manifest1 Current h = absurd (false≢true h)
same_from_test Manifest1 Made h = absurd (false≢true h)
same_from_test Manifest1 (Log b) h = absurd (false≢true h)
same_from_test Manifest1 (Table b) h = absurd (false≢true h)
same_from_test Current Manifest0 h = absurd (false≢true h)
same_from_test Current Manifest1 h = absurd (false≢true h)
same_from_test Current Current h = refl
same_from_test Current Made h = absurd (false≢true h)
same_from_test Current (Log b) h = absurd (false≢true h)
same_from_test Current (Table b) h = absurd (false≢true h)
same_from_test Made Manifest0 h = absurd (false≢true h)
same_from_test Made Manifest1 h = absurd (false≢true h)
same_from_test Made Current h = absurd (false≢true h)
same_from_test Made Made h = refl
same_from_test Made (Log b) h = absurd (false≢true h)
same_from_test Made (Table b) h = absurd (false≢true h)
same_from_test (Log a) Manifest0 h = absurd (false≢true h)
same_from_test (Log a) Manifest1 h = absurd (false≢true h)
same_from_test (Log a) Current h = absurd (false≢true h)
same_from_test (Log a) Made h = absurd (false≢true h)
same_from_test (Log a) (Log b) h = ap Log (eqb_same a b h)
same_from_test (Log a) (Table b) h = absurd (false≢true h)
same_from_test (Table a) Manifest0 h = absurd (false≢true h)
same_from_test (Table a) Manifest1 h = absurd (false≢true h)
same_from_test (Table a) Current h = absurd (false≢true h)
same_from_test (Table a) Made h = absurd (false≢true h)
same_from_test (Table a) (Log b) h = absurd (false≢true h)
same_from_test (Table a) (Table b) h = ap Table (eqb_same a b h)

pub other_name : (a b : FileName) → b ≢ a → same_name a b ≡ false
other_name a b apart = false_from_ne_true (same_name a b) (λ h. apart (sym (same_from_test a b h)))

same_or_other_by : (touched n : FileName) (b : Bool) → same_name touched n ≡ b → (n ≡ touched) ⊎ (n ≢ touched)
same_or_other_by touched n true h = inl (sym (same_from_test touched n h))
same_or_other_by touched n false h = inr (λ is. false≢true (sym h ∙ ap (same_name touched) is ∙ same_name-self touched))

pub same_or_other : (touched n : FileName) → (n ≡ touched) ⊎ (n ≢ touched)
same_or_other touched n = same_or_other_by touched n (same_name touched n) refl
