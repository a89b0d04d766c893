-- The two files that an engine holds: one runs on, and the other is held as it was.
use Rattle.std.proofs.Common.{◌≡◌, ◌⊎◌, [], ◌∷◌, refl, inl, inr}
use Rattle.udt_disk.specs.Joint.{IsHeld, Joint}
use Rattle.udt_disk.specs.Moments.{holding}
use Rattle.udt_disk.specs.declared.file.DiskFile as file
use Rattle.engine_laws.specs.Joints.{OneRan}

module _ {F : Type 0} (f : file.Ghosts F) where
  first_back : (a b m x : F) → IsHeld (b ∷ m ∷ []) x → (b ≡ x) ⊎ IsHeld (a ∷ m ∷ []) x
  first_back a b m x (inl is) = inl is
  first_back a b m x (inr there) = inr (inr there)

  second_back : (w a b x : F) → IsHeld (w ∷ b ∷ []) x → (b ≡ x) ⊎ IsHeld (w ∷ a ∷ []) x
  second_back w a b x (inl is) = inr (inl is)
  second_back w a b x (inr (inl is)) = inl is
  second_back w a b x (inr (inr none)) = absurd none

  -- the first of two files ran on
  pub first_ran : (a b m : F) → f.name b ≡ f.name a → OneRan f (a ∷ m ∷ []) (b ∷ m ∷ []) a b
  first_ran a b m named = record {
    held = inl refl;
    ran = inl refl;
    name = named;
    stay = λ x held. first_back b a m x held;
    back = λ x held. first_back a b m x held;
  }

  -- the second did
  pub second_ran : (w a b : F) → f.name b ≡ f.name a → OneRan f (w ∷ a ∷ []) (w ∷ b ∷ []) a b
  second_ran w a b named = record {
    held = inr (inl refl);
    ran = inr (inl refl);
    name = named;
    stay = λ x held. second_back w b a x held;
    back = λ x held. second_back w a b x held;
  }

-- the same disk and files
pub same_joint : {D F : Type 0} (x y : D) (a b m n : F) → x ≡ y → a ≡ b → m ≡ n → (let j : Joint D F = holding x (a ∷ m ∷ []) in j) ≡ holding y (b ∷ n ∷ [])
same_joint x y a b m n e w k = cc
