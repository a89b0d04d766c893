-- Going through a list from its front finds the newest.
use Rattle.std.proofs.Common.{◌≡◌, true, false, Option, Some, None, refl, arith, inl, inr}
use Rattle.std.proofs.lemmas.Bool.{cases_Bool}
use Rattle.std.proofs.lemmas.Bool.Decides.{nat_tests}
use Rattle.ts_key.specs.declared.version.Version.{Version}
use Rattle.udt_model.specs.Versions.{is_newer, newer}

up : (a b c : Version) → is_newer b a ≡ true → is_newer c b ≡ true → is_newer c a ≡ true
up a b c x y = grind (arith, nat_tests)

down : (a b c : Version) → is_newer b a ≡ false → is_newer c b ≡ false → is_newer c a ≡ false
down a b c x y = grind (arith, nat_tests)

pub newer-none : (b : Option Version) → newer b None ≡ b
newer-none None = refl
newer-none (Some a) = refl

pub newer_assoc : (a b c : Option Version) → newer (newer a b) c ≡ newer a (newer b c)
newer_assoc None b c = refl
newer_assoc (Some a) None c = refl
newer_assoc (Some a) (Some b) None = newer-none (newer (Some a) (Some b))
newer_assoc (Some a) (Some b) (Some c) =
    elim (cases_Bool (is_newer b a)) [
      | inl x ↦ elim (cases_Bool (is_newer c b)) [
        | inl y ↦ let z = up a b c x y in rw (x, y, z) refl
        | inr y ↦ rw (x, y, x) refl
      ]
      | inr x ↦ elim (cases_Bool (is_newer c b)) [
        | inl y ↦ rw (x, y) refl
        | inr y ↦ let z = down a b c x y in rw (x, y, z, x) refl
      ]
    ]
